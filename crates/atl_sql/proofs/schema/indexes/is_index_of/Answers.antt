use Rattle.std.proofs.Common.{sym, ap, ◌∙◌}
use Rattle.atl_descriptions.specs.Described.{unique_columns}
use Rattle.atl_descriptions.specs.Tables.{table_of}
use Rattle.atl_sql.proofs.SchemaLaws.{is_index, has_no_index}
use Rattle.atl_sql.proofs.schema.indexes.is_index_of.Goals as goal

pub returns-in-Some : goal.returns-in-Some
returns-in-Some g c =
    let made = c.table-made.ensures in
    let index = rw c.in-Some.is at made.index in
    is_index g.R.Record.part _ _ _ _ (sym made.unique ∙ ap unique_columns c.in-Some.is) (c.as_bytes.ensures.value ∙ index.0) index.1 made.tree c.args.found.now c.is_index.result c.is_index.ensures

pub returns-in-None : goal.returns-in-None
returns-in-None g c = (
  λ no. absurd (cc),
  λ says. absurd (has_no_index (table_of g.R.Record.part) (sym c.table-made.ensures.unique ∙ ap unique_columns c.in-None.is) c.args.found.now says),
)
