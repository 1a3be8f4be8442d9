use Rattle.atl_writing.specs.Rewriting.{RewritesPart}
use Rattle.atl_writing.proofs.KeptLaws.{kept_rewritten}
use Rattle.atl_writing.proofs.TurnLaws.{in_turn_one}
use Rattle.atl_writing.proofs.WholeLaws.{done_as}
use Rattle.atl_writing.proofs.write_parts.NumberedWrittenPart.rewrite.Goals as goal

pub returns : goal.returns
returns g c =
    let campaign = c.args.campaign.now in
    let part = g.V.NumberedRow.part in
    done_as g.S.Store (λ old new did. in_turn_one (RewritesPart campaign) part old new (kept_rewritten part g.V.NumberedRow.line g.V.NumberedRow.values g.V.NumberedRow.are_rows g.V.NumberedRow.marks g.V.NumberedRow.are_marked campaign old new did)) c.rewrite_marked.ensures
