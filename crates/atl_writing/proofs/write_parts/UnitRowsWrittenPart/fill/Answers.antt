use Rattle.std.proofs.Common.{refl}
use Rattle.atl_descriptions.specs.Tables.{Units}
use Rattle.atl_writing.specs.Rows.{row_of_unit}
use Rattle.atl_writing.specs.Filling.{FillsPart}
use Rattle.atl_writing.proofs.EntryLaws.{lines_rows}
use Rattle.atl_writing.proofs.KeptLaws.{puts_line, kept_filled}
use Rattle.atl_writing.proofs.TurnLaws.{in_turn_one}
use Rattle.atl_writing.proofs.WholeLaws.{done_as}
use Rattle.atl_sql.proofs.WriteLaws.{among_each}
use Rattle.atl_writing.proofs.write_parts.UnitRowsWrittenPart.fill.Goals as goal

pub returns : goal.returns
returns g c =
    let campaign = c.args.campaign.now.value in
    done_as g.S.Store (λ old new did. in_turn_one (FillsPart campaign) Units old new (kept_filled Units row_of_unit (λ c. c.units) (λ own c r. (λ is. is, λ is. is)) (λ n v. refl) campaign _ c.units.ensures old new did))
    (among_each g.S.Store _ _ (λ row there. puts_line Units row_of_unit (λ c. c.units) (λ own c r. (λ is. is, λ is. is)) refl campaign row (lines_rows row_of_unit _ _ c.units.ensures row there)) c.put_units.ensures)
