use Rattle.atl_writing.specs.Filling.{FillsPart}
use Rattle.atl_writing.proofs.EntryLaws.{lines_rows}
use Rattle.atl_writing.proofs.KeptLaws.{key_one, puts_line, kept_filled}
use Rattle.atl_writing.proofs.TurnLaws.{in_turn_one}
use Rattle.atl_writing.proofs.WholeLaws.{done_as}
use Rattle.atl_sql.proofs.WriteLaws.{among_each}
use Rattle.atl_writing.proofs.write_parts.NumberedWrittenPart.fill.Goals as goal

pub returns : goal.returns
returns g c =
    let campaign = c.args.campaign.now.value in
    let part = g.V.NumberedRow.part in
    let line = g.V.NumberedRow.line in
    let key = key_one part g.V.NumberedRow.is_numbered in
    done_as g.S.Store (λ old new did. in_turn_one (FillsPart campaign) part old new (kept_filled part line g.V.NumberedRow.values g.V.NumberedRow.are_rows g.V.NumberedRow.numbered campaign _ c.all.ensures old new did))
    (among_each g.S.Store _ _ (λ row there. puts_line part line g.V.NumberedRow.values g.V.NumberedRow.are_rows key campaign row (lines_rows line _ _ c.all.ensures row there)) c.put_each.ensures)
