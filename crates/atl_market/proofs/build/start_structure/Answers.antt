use Rattle.std.proofs.Common.{◌≡◌, ℕ, ap, ◌∙◌, rules}
use Rattle.atl_records.specs.declared.records.Structure.{Structure}
use Rattle.atl_campaign.specs.Marking.{mark_structure_begun}
use Rattle.atl_campaign.specs.Owners.{with_place}
use Rattle.atl_campaign.specs.Campaign.{CampaignValue, with_structure_begun}
use Rattle.atl_campaign.proofs.BegunLaws.{marks-structure_begun}
use Rattle.atl_campaign.proofs.CoverLaws.{marks-trans}
use Rattle.atl_phase.proofs.MarkLaws.{marks-place, marks_by}
use Rattle.atl_market.specs.Build.{with_new_structure}
use Rattle.atl_market.specs.Goods.{with_used}
use Rattle.atl_market.proofs.BuildUsedLaws.{same_next, same_structures}
use Rattle.atl_market.proofs.build.start_structure.Goals as goal

pub begin_structure-requires-clause-fresh : goal.begin_structure-requires-clause-fresh
begin_structure-requires-clause-fresh c =
    let old = c.args.campaign.now.value in
    let item = c.args.kind.now.material in
    rw (c.in_ok-use_item.ensures.what, same_structures old c.args.unit item c.args.size, same_next old c.args.unit item c.args.size) c.requires.fresh

pub begin_structure-requires-clause-room : goal.begin_structure-requires-clause-room
begin_structure-requires-clause-room c =
    rw (c.in_ok-use_item.ensures.what, same_next c.args.campaign.now.value c.args.unit c.args.kind.now.material c.args.size) c.requires.room

pub returns-clause-what : goal.returns-clause-what
returns-clause-what c =
    let old = c.args.campaign.now.value in
    let mid = c.use_item.new.campaign.value in
    let k = c.args.kind.now in
    let n = c.args.unit in
    let new : CampaignValue = with_new_structure (with_used old n k.material c.args.size) c.args.number k c.args.region c.args.size in
    let next : ℕ = c.in_ok-next.next in
    let number : next ≡ old.next_structure = c.in_ok-next.ensures.number ∙ ap (λ (d : CampaignValue). d.next_structure) c.in_ok-use_item.ensures.what ∙ same_next old n k.material c.args.size in
    let begun : c.begin_structure.new.self.value ≡ with_new_structure mid c.args.number k c.args.region c.args.size = search rules in
    c.in_ok-place.ensures.ok
    ∙ ap (λ (d : CampaignValue). with_place d n c.args.region next) (begun ∙ ap (λ (d : CampaignValue). with_new_structure d c.args.number k c.args.region c.args.size) c.in_ok-use_item.ensures.what)
    ∙ ap (with_place new n c.args.region) number

-- three changes in turn: the material used, the structure begun, the unit placed in it
pub returns-clause-marks : goal.returns-clause-marks
returns-clause-marks c =
    let old = c.args.campaign.now in
    let mid = c.use_item.new.campaign in
    let next = c.begin_structure.new.self in
    let last = c.place.new.self in
    let s : Structure = record { kind = c.args.number; name = c.in_ok-name.name; region = c.args.region; done = c.args.size; owner = 0 } in
    let begun = marks_by mid next (record { value = with_structure_begun mid.value s; marks = mark_structure_begun mid }) c.in_ok-next.ensures.ok c.in_ok-next.ensures.marks (marks-structure_begun mid s) in
    marks-trans old mid last c.in_ok-use_item.ensures.marks
    (marks-trans mid next last begun (marks-place next last c.args.unit c.args.region c.in_ok-next.next c.in_ok-place.ensures.ok c.in_ok-place.ensures.marks))
