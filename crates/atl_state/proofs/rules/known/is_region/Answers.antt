use Rattle.std.proofs.Common.{is_some, sym, ap, ◌∙◌}
use Rattle.atl_campaign.proofs.RuleLaws.{Decides-there, copied_some}
use Rattle.atl_state.proofs.rules.known.is_region.Goals as goal

pub returns : goal.returns
returns c =
    Decides-there c.args.campaign.now.value.regions c.args.number c.is_some.result
    (c.is_some.ensures ∙ sym (copied_some c.region.result) ∙ ap is_some c.region.ensures)
