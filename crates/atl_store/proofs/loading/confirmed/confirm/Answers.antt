use Rattle.std.proofs.Common.{subst, arith}
use Rattle.sqlite.specs.Held.{state}
use Rattle.atl_descriptions.specs.Statements.{selection_with_ids}
use Rattle.atl_descriptions.specs.Tables.{Books, HasTablesOf, books_table}
use Rattle.atl_store.proofs.ConfirmLaws.{unconfirmed, commits_none, shown_unchanged, shown_stays, refused_stays}
use Rattle.atl_sql.proofs.SelectLaws.{part_plain, has_first}
use Rattle.atl_store.proofs.loading.confirmed.confirm.Goals as goal

-- if the books can't be read a second time, the tables are as they were (`AfterReads`)
pub returns-in_err-query_all-clause-leaves : goal.returns-in_err-query_all-clause-leaves
returns-in_err-query_all-clause-leaves g c =
    let old = state g.S.Store c.args.conn.now in
    let new = state g.S.Store c.query_all.new.self in
    let plain = part_plain Books old.now.schema (has_first c.args.format old.now.schema (subst (HasTablesOf c.args.format) c.schema.ensures.value (c.has_tables_of.ensures.0 c.if-not-has_tables_of.false))) in
    record {
      stays = λ clean. refused_stays (selection_with_ids books_table 2) old new plain c.requires.settled (omega (arith, c.query_all.ensures.survives.clean, clean)) _ (c.in_err-query_all.ensures.err clean);
      survives = commits_none (selection_with_ids books_table 2) old new plain c.query_all.ensures.survives;
      idle = c.query_all.ensures.mode c.requires.idle;
    }

-- if the books are read a second time, the tables are confirmed (`IsConfirmed`)
pub returns-clause-ok : goal.returns-clause-ok
returns-clause-ok g c clean =
    let old = state g.S.Store c.args.conn.now in
    let new = state g.S.Store c.query_all.new.self in
    let begins = subst (HasTablesOf c.args.format) c.schema.ensures.value (c.has_tables_of.ensures.0 c.if-not-has_tables_of.false) in
    let same = shown_unchanged (selection_with_ids books_table 2) old new (part_plain Books old.now.schema (has_first c.args.format old.now.schema begins)) _ (c.in_ok-query_all.ensures.ok clean) in
    record { begins = begins; is_open = same.0.is_open; sound = (c.schema.ensures.live same.0.was_open).0 }

-- after the books are read a second time, the tables are as they were (`AfterReads`)
pub returns-clause-leaves : goal.returns-clause-leaves
returns-clause-leaves g c =
    let old = state g.S.Store c.args.conn.now in
    let new = state g.S.Store c.query_all.new.self in
    let plain = part_plain Books old.now.schema (has_first c.args.format old.now.schema (subst (HasTablesOf c.args.format) c.schema.ensures.value (c.has_tables_of.ensures.0 c.if-not-has_tables_of.false))) in
    record {
      stays = λ clean. shown_stays (selection_with_ids books_table 2) old new plain _ (c.in_ok-query_all.ensures.ok clean);
      survives = commits_none (selection_with_ids books_table 2) old new plain c.query_all.ensures.survives;
      idle = c.query_all.ensures.mode c.requires.idle;
    }

-- if the books can't be read a second time, the fault is that of the SELECT's error (`FailsToConfirm`)
pub returns-in_err-query_all-clause-fails : goal.returns-in_err-query_all-clause-fails
returns-in_err-query_all-clause-fails g c clean =
    unconfirmed c.args.format g.S.Store c.args.conn.now c.query_all.new.self (subst (HasTablesOf c.args.format) c.schema.ensures.value (c.has_tables_of.ensures.0 c.if-not-has_tables_of.false)) c.in_err-query_all.field-0.0 (c.in_err-query_all.ensures.err clean) c.from_residual.result c.from_residual.ensures.1
