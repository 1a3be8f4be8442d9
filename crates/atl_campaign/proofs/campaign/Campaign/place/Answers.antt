use Rattle.std.proofs.Common.{◌≡◌, ◌==◌, Some, sym, ap, ◌∙◌}
use Rattle.std.specs.FinMap.{get}
use Rattle.atl_campaign.specs.Marking.{handed_marked, put_marked}
use Rattle.atl_campaign.specs.Campaign.{MarkedCampaign}
use Rattle.atl_world.proofs.EveryLaws.{same_number, other_number}
use Rattle.atl_campaign.proofs.OwnerLaws.{place-what, place_none, place_stays, place_leaves}
use Rattle.atl_campaign.proofs.campaign.Campaign.place.Goals as goal

pub returns-in-None : goal.returns-in-None
returns-in-None c =
    let is = place_none c.args.self.now c.args.number c.args.region c.args.structure (sym (c.in-None.ensures ∙ ap (λ (m : MarkedCampaign). get m.value.units c.args.number) c.self.view_is)) in
    record { ok = ap (λ (m : MarkedCampaign). m.value) is ∙ place-what c.args.self.now c.args.number c.args.region c.args.structure; err = tt; marks = ap (λ (m : MarkedCampaign). m.marks) is }

pub returns-then-left-structure : goal.returns-then-left-structure
returns-then-left-structure c =
    let n = c.args.number in
    let r = c.args.region in
    let s = c.args.structure in
    let u = c.in-Some.unit.now in
    let there : get c.args.self.now.value.units n ≡ Some u = sym (c.in-Some.ensures ∙ ap (λ (m : MarkedCampaign). get m.value.units n) c.self.view_is) in
    let left = c.hand_over.ensures ∙ ap (λ m. handed_marked m u.structure n c.heir-heir.result) c.in_ok-put.ensures.ok ∙ ap (handed_marked (put_marked c.args.self.now n r s) u.structure n) c.heir-heir.ensures in
    let is = c.hand_over-then-left-structure.ensures ∙ ap (λ m. handed_marked m s 0 n) left ∙ place_leaves c.args.self.now n r s u there (other_number u.structure s c.if-left-structure.true) in
    record { ok = ap (λ (m : MarkedCampaign). m.value) is ∙ place-what c.args.self.now n r s; err = tt; marks = ap (λ (m : MarkedCampaign). m.marks) is }

pub returns-else-left-structure : goal.returns-else-left-structure
returns-else-left-structure c =
    let n = c.args.number in
    let r = c.args.region in
    let s = c.args.structure in
    let u = c.in-Some.unit.now in
    let there : get c.args.self.now.value.units n ≡ Some u = sym (c.in-Some.ensures ∙ ap (λ (m : MarkedCampaign). get m.value.units n) c.self.view_is) in
    let is = c.in_ok-put.ensures.ok ∙ place_stays c.args.self.now n r s u there (ap (λ q. u.structure == q) (sym c.if-left-structure.false) ∙ same_number u.structure) in
    record { ok = ap (λ (m : MarkedCampaign). m.value) is ∙ place-what c.args.self.now n r s; err = tt; marks = ap (λ (m : MarkedCampaign). m.marks) is }
