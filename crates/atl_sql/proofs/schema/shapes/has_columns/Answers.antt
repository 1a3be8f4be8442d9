use Rattle.std.proofs.Common.{◌≡◌, List, length, sym, ap, subst, ◌∙◌}
use Rattle.std.proofs.lemmas.List.{length-map}
use Rattle.std.specs.Bool.{Decides}
use Rattle.sqlite_schema.specs.declared.schema.Column.{Column}
use Rattle.atl_columns.specs.Fields.{strict_columns}
use Rattle.atl_sql.proofs.schema.shapes.has_columns.Goals as goal

pub are_columns-requires : goal.are_columns-requires
are_columns-requires g c =
    sym (length-map c.table.result.names.now _) ∙ ap length c.table.ensures.names ∙ g.met.R.Record.is_wide

pub returns : goal.returns
returns g c =
    subst (λ (columns : List Column). Decides c.are_columns.result (c.args.columns.now ≡ columns))
    (ap (strict_columns g.R.Fields.Fields.forms) c.table.ensures.names ∙ sym g.met.R.Record.has_columns) c.are_columns.ensures
