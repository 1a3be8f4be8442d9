use Rattle.std.proofs.Common.{[], ◌∷◌, refl}
use Rattle.atl_descriptions.specs.Tables.{Own, written_parts}
use Rattle.atl_writing.specs.Rewriting.{Becomes}
use Rattle.atl_writing.proofs.TurnLaws.{in_turn_changed}
use Rattle.atl_writing.proofs.RewriteAllLaws.{own_rewritten, own_then_rewritten, all_rewritten}
use Rattle.atl_writing.proofs.WholeLaws.{done_as, then_done}
use Rattle.atl_sql.proofs.WriteLaws.{stops}
use Rattle.atl_writing.proofs.changing.rewrite_parts.Goals as goal

pub returns : goal.returns
returns g c =
    let campaign = c.args.campaign.now in
    done_as g.S.Store (all_rewritten campaign (Own ∷ written_parts) refl)
    (then_done g.S.Store (own_then_rewritten campaign (Own ∷ []) written_parts refl)
    (done_as g.S.Store (own_rewritten campaign) c.in_ok-rewrite_campaign_row.ensures) (done_as g.S.Store (in_turn_changed (Becomes campaign) written_parts refl) c.rewrite.ensures))

pub returns-in_err-rewrite_campaign_row : goal.returns-in_err-rewrite_campaign_row
returns-in_err-rewrite_campaign_row g c = stops g.S.Store c.in_err-rewrite_campaign_row.ensures c.from_residual.ensures
