use Rattle.std.proofs.Common.{ap, rules, ◌∙◌}
use Rattle.atl_descriptions.specs.Statements.{deletion}
use Rattle.atl_descriptions.specs.Tables.{table_of}
use Rattle.atl_sql.proofs.NumberedRowLaws.{drops_part, key_is_one}
use Rattle.atl_sql.proofs.StatementLaws.{runs_with}
use Rattle.atl_sql.proofs.rows.written.take_out_number.Goals as goal

pub returns : goal.returns
returns g c =
    let part = g.T.Record.part in
    let text = c.statements.ensures.delete ∙ ap (deletion (table_of part)) (key_is_one part c.requires) in
    runs_with g.S.Store _ _ _ _ (drops_part part c.requires c.args.number) (search rules) (rw text at c.run.ensures)
