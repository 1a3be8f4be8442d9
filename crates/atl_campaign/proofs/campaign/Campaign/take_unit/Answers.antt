use Rattle.std.proofs.Common.{sym, ap, ◌∙◌}
use Rattle.std.specs.FinMap.{get}
use Rattle.atl_campaign.specs.Campaign.{MarkedCampaign}
use Rattle.atl_campaign.proofs.OwnerLaws.{taken_none}
use Rattle.atl_campaign.proofs.campaign.Campaign.take_unit.Goals as goal

pub returns-in-None : goal.returns-in-None
returns-in-None c =
    taken_none c.args.self.now c.args.number
    (sym (c.in-None.ensures ∙ ap (λ (m : MarkedCampaign). get m.value.units c.args.number) c.self.view_is))
