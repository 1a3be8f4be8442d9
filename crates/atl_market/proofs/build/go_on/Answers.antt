use Rattle.std.proofs.Common.{◌≡◌, ◌≤◌, ◌+◌, None, Some, sym, ap, ◌∙◌, arith}
use Rattle.std.specs.List.{slice_get}
use Rattle.atl_campaign.specs.Campaign.{CampaignValue, with_done}
use Rattle.atl_campaign.specs.Marking.{mark_structure}
use Rattle.atl_campaign.proofs.CoverLaws.{marks-trans}
use Rattle.atl_campaign.proofs.LeavingLaws.{marks-structure}
use Rattle.atl_phase.proofs.MarkLaws.{marks_by}
use Rattle.atl_market.specs.Build.{inside_fault, size_added}
use Rattle.atl_market.proofs.BuildLaws.{can_use, done_small, go_on_done, size_held}
use Rattle.atl_market.proofs.build.go_on.Goals as goal

-- what was done of the structure and what the unit adds make at most 999,999, which fits `done`
pub overflow_add-done : goal.overflow_add-done
overflow_add-done c =
    let u = c.in-Some.unit.now in
    let s = c.in-Some-structure.structure.now in
    let k = c.in-Some-kind_of.kind.now in
    let kind_is : slice_get c.args.world.now.kinds s.kind ≡ Some k = sym c.in-Some-kind_of.ensures in
    let none : inside_fault u s k ≡ None = sym c.in_default-inside_fault.ensures in
    let small : s.done + c.size_added-size.result ≤ 999999 = rw c.size_added-size.ensures (done_small u s k none (c.requires.can.kinds s.kind k kind_is).size) in
    omega (arith, small)

pub use_item-requires : goal.use_item-requires
use_item-requires c =
    let w = c.args.world.now in
    let u = c.in-Some.unit.now in
    let s = c.in-Some-structure.structure.now in
    let k = c.in-Some-kind_of.kind.now in
    let kind_is : slice_get w.kinds s.kind ≡ Some k = sym c.in-Some-kind_of.ensures in
    record {
      can = rw c.size_added-size.ensures
          (can_use w c.args.campaign.now.value c.args.order.unit k.material (size_added k u.holding s.done) u c.in-Some.ensures.there (size_held k u.holding s.done) (c.requires.can.kinds s.kind k kind_is).material c.requires.can c.requires.room);
    }

pub returns-clause-what : goal.returns-clause-what
returns-clause-what c =
    let w = c.args.world.now in
    let old = c.args.campaign.now.value in
    let u = c.in-Some.unit.now in
    let s = c.in-Some-structure.structure.now in
    let k = c.in-Some-kind_of.kind.now in
    let kind_is : slice_get w.kinds s.kind ≡ Some k = sym c.in-Some-kind_of.ensures in
    let none : inside_fault u s k ≡ None = sym c.in_default-inside_fault.ensures in
    let size = c.size_added-size.result in
    let first = c.set_done.ensures.what ∙ ap (λ (d : CampaignValue). with_done d u.structure (s.done + size)) c.in_ok-use_item.ensures.what in
    go_on_done w old c.set_done.new.self.value c.args.order.faction c.args.order.unit u s k size c.from.result (sym c.in-Some.ensures.own) (sym c.in-Some-structure.ensures) kind_is none first c.from.ensures c.size_added-size.ensures

pub returns-clause-marks : goal.returns-clause-marks
returns-clause-marks c =
    let mid = c.use_item.new.campaign in
    let place = c.in-Some.unit.now.structure in
    let done = c.in-Some-structure.structure.now.done + c.size_added-size.result in
    let set = c.set_done in
    marks-trans c.args.campaign.now mid set.new.self c.in_ok-use_item.ensures.marks
    (marks_by mid set.new.self (record { value = with_done mid.value place done; marks = mark_structure mid place })
    set.ensures.what set.ensures.marks (marks-structure (λ s. record s { done = done }) mid place))
