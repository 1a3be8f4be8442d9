use Rattle.atl_descriptions.specs.Tables.{Books}
use Rattle.atl_writing.specs.Rewriting.{RewritesPart}
use Rattle.atl_writing.proofs.RewriteAllLaws.{part_rewritten}
use Rattle.atl_writing.proofs.TurnLaws.{in_turn_one}
use Rattle.atl_writing.proofs.WholeLaws.{done_as}
use Rattle.atl_writing.proofs.write_parts.LedgerWrittenPart.rewrite.Goals as goal

pub returns : goal.returns
returns g c =
    let campaign = c.args.campaign.now in
    done_as g.S.Store (λ old new did. in_turn_one (RewritesPart campaign) Books old new (part_rewritten campaign Books (λ own before after is. is) old new did)) c.rewrite_books.ensures
