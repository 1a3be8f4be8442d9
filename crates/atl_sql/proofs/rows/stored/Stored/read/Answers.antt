use Rattle.std.proofs.Common.{sym, subst}
use Rattle.atl_world.specs.declared.format.Format.{Format}
use Rattle.sqlite.specs.Given.{IsPlain}
use Rattle.sqlite.specs.Listing.{understood}
use Rattle.atl_descriptions.specs.PartSelects.{select_of_part}
use Rattle.atl_descriptions.specs.Tables.{HasTablesOf}
use Rattle.atl_sql.proofs.RowsLaws.{gives_table}
use Rattle.atl_sql.proofs.SelectLaws.{reads_part, part_plain}
use Rattle.atl_sql.proofs.rows.stored.Stored.read.Goals as goal

pub returns-clause-select : goal.returns-clause-select
returns-clause-select g c = rw c.select_of-since.ensures.select at c.read_all.ensures

pub returns-clause-table : goal.returns-clause-table
returns-clause-table g c =
    let part = g.Self.Stored.part in
    let reads = rw c.select_of-since.ensures.select at c.read_all.ensures in
    gives_table g.S.Store (select_of_part part).select c.args.conn.now c.read_all.new.conn g.Self.Stored.forms g.Self.Stored.shown c.read_all.result (select_of_part part).since (select_of_part part).in_table (reads_part part _ g.met.Self.Stored.columns) reads

pub read_all-requires-clause-plain : goal.read_all-requires-clause-plain
read_all-requires-clause-plain g c has =
    let schema = c.args.conn.now.schema in
    subst (λ sql. IsPlain (understood schema sql)) (sym c.select_of-since.ensures.select) (part_plain g.Self.Stored.part schema (subst (λ (f : Format). HasTablesOf f schema) c.select_of-since.ensures.since has))
