use Rattle.std.proofs.Common.{sym, ap, ◌∙◌}
use Rattle.sqlite_schema.specs.declared.schema.Table.{Table}
use Rattle.atl_sql.proofs.SchemaLaws.{is_of_part, part_is_described}
use Rattle.atl_sql.proofs.schema.shapes.is_table_of.Goals as goal

pub returns-then-is_described : goal.returns-then-is_described
returns-then-is_described g c =
    let made = c.table.ensures in (
      λ yes. is_of_part g.R.Record.part _ _ _ _ _ _ made.tree made.name made.number made.primary made.unique made.single c.args.found.now (c.is_described.ensures.0 c.if-is_described.true) (sym c.as_slice.ensures ∙ c.has_columns.ensures.0 yes),
      λ says. c.has_columns.ensures.1 (c.as_slice.ensures ∙ ap (λ (t : Table). t.columns) says),
    )

pub returns-else-is_described : goal.returns-else-is_described
returns-else-is_described g c =
    let made = c.table.ensures in (
      λ no. absurd (cc),
      λ says. c.is_described.ensures.1 (part_is_described g.R.Record.part _ _ _ _ _ _ made.tree made.name made.number made.primary made.unique made.single c.args.found.now says),
    )
