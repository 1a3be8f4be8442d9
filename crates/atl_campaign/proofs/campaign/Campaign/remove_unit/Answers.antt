use Rattle.std.proofs.Common.{◌≡◌, Some, sym, ap, ◌∙◌}
use Rattle.std.specs.FinMap.{get}
use Rattle.atl_campaign.specs.Marking.{handed_marked, taken_marked}
use Rattle.atl_campaign.specs.Campaign.{MarkedCampaign}
use Rattle.atl_campaign.proofs.OwnerLaws.{gone-what, gone_none, gone_some}
use Rattle.atl_campaign.proofs.campaign.Campaign.remove_unit.Goals as goal

pub returns-in-None : goal.returns-in-None
returns-in-None c =
    let is = gone_none c.args.self.now c.args.number (sym (c.in-None.ensures ∙ ap (λ (m : MarkedCampaign). get m.value.units c.args.number) c.self.view_is)) in
    record { what = ap (λ (m : MarkedCampaign). m.value) is ∙ gone-what c.args.self.now c.args.number; marks = ap (λ (m : MarkedCampaign). m.marks) is }

pub returns : goal.returns
returns c =
    let n = c.args.number in
    let u = c.in-Some.unit.now in
    let there : get c.args.self.now.value.units n ≡ Some u = sym (c.in-Some.ensures ∙ ap (λ (m : MarkedCampaign). get m.value.units n) c.self.view_is) in
    let is =
    c.hand_over.ensures ∙ ap (λ m. handed_marked m u.structure n c.heir-heir.result) c.take_unit.ensures
    ∙ ap (handed_marked (taken_marked c.args.self.now n) u.structure n) c.heir-heir.ensures
    ∙ gone_some c.args.self.now n u there in
    record { what = ap (λ (m : MarkedCampaign). m.value) is ∙ gone-what c.args.self.now n; marks = ap (λ (m : MarkedCampaign). m.marks) is }
