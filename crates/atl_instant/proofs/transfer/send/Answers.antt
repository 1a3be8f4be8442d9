use Rattle.std.proofs.Common.{◌≡◌, ℕ, ◌≤◌, ◌+◌, ◌-◌, Some, sym}
use Rattle.std.proofs.lemmas.Result.{on_ok_weaker}
use Rattle.std.specs.FinMap.{get}
use Rattle.atl_world.specs.Every.{Every}
use Rattle.atl_records.specs.Holdings.{HoldingValue}
use Rattle.atl_records.specs.declared.records.Unit.{Unit}
use Rattle.atl_campaign.proofs.CoverLaws.{marks-trans}
use Rattle.atl_phase.specs.Holdings.{with_days}
use Rattle.atl_phase.proofs.ChangeLaws.{changed_held}
use Rattle.atl_instant.specs.Transfer.{after_sending, after_receiving}
use Rattle.atl_instant.proofs.DaysLaws.{sender_holding_is, receiver_holding_is}
use Rattle.atl_instant.proofs.EffectLaws.{moved_is}
use Rattle.atl_instant.proofs.transfer.send.Goals as goal

pub returns : goal.returns
returns c =
    let before = c.args.campaign.now in
    let between = c.set_people.new.campaign in
    let after = c.set_people-2.new.campaign in
    let u = c.in-Some-Some.sender.now in
    let v = c.in-Some-Some.receiver.now in
    let sender = sym c.in-Some-Some.ensures in
    let receiver = sym c.in-Some-Some.ensures' in
    let listed : (x : Unit) (n : ℕ) → get before.value.units n ≡ Some x → Every (λ s days. 1 ≤ days) x.holding.days = (λ x n is s days there. (c.requires.days n x is s days there).0) in
    let h : HoldingValue = record u.holding { men = c.men.result - c.args.going; days = with_days u.holding.days c.deref.result.now } in
    let k : HoldingValue = record v.holding { men = c.men-2.result + c.args.going; days = with_days v.holding.days c.deref-2.result.now } in
    let h_is : h ≡ after_sending c.args.going u.holding = rw (c.men.ensures.value, c.deref.ensures.value, c.in_ok-left.ensures) (sender_holding_is c.args.going u.holding (listed u c.args.from sender)) in
    let k_is : k ≡ after_receiving c.args.going u.holding v.holding = rw (c.men-2.ensures.value, c.deref-2.ensures.value, c.in_ok-raised.ensures) (receiver_holding_is c.args.going u.holding v.holding (listed v c.args.to receiver)) in
    let one = c.in_ok-set_people.ensures.what in
    let first = changed_held (λ x. record x { men = h.men; days = with_days x.days c.deref.result.now }) before.value between.value c.args.from one.value u sender in
    record {
      what =
          rw (sender, receiver)
          (on_ok_weaker c.set_people-2.result
          (λ two.
          moved_is before.value c.args.from c.args.to u v _ _ sender receiver c.requires.apart between.value after.value h k h_is k_is first
          (changed_held (λ x. record x { men = k.men; days = with_days x.days c.deref-2.result.now }) between.value after.value c.args.to two.value v))
          c.set_people-2.ensures.what);
      marks = on_ok_weaker c.set_people-2.result (λ two. marks-trans before between after one.marks two.marks) c.set_people-2.ensures.what;
    }
