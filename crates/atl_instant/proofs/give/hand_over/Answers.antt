use Rattle.std.proofs.Common.{◌+◌, ◌-◌, sym, ap, arith}
use Rattle.std.proofs.lemmas.Result.{on_ok_weaker}
use Rattle.atl_campaign.proofs.CoverLaws.{marks-trans}
use Rattle.atl_phase.proofs.ChangeLaws.{changed_held}
use Rattle.atl_instant.specs.Give.{with_held_of}
use Rattle.atl_instant.proofs.EffectLaws.{moved_is}
use Rattle.atl_instant.proofs.GiveLaws.{held_within}
use Rattle.atl_instant.proofs.give.hand_over.Goals as goal

pub set_held-requires : goal.set_held-requires
set_held-requires c =
    let u = c.in-Some-Some.giver.now in
    let giver = sym c.in-Some-Some.ensures in
    omega (arith, c.held_of.ensures, held_within c.args.gift u.holding (c.requires.limits c.args.from u giver))

pub returns : goal.returns
returns c =
    let before = c.args.campaign.now in
    let between = c.set_held.new.campaign in
    let after = c.set_held-2.new.campaign in
    let u = c.in-Some-Some.giver.now in
    let v = c.in-Some-Some.receiver.now in
    let giver = sym c.in-Some-Some.ensures in
    let receiver = sym c.in-Some-Some.ensures' in
    let left = c.held_of.result - c.args.amount in
    let more = c.held_of-2.result + c.args.amount in
    let one = c.in_ok-set_held.ensures in
    let first = changed_held (λ h. with_held_of c.args.gift h left) before.value between.value c.args.from one.value u giver in
    record {
      what =
          rw (giver, receiver)
          (on_ok_weaker c.set_held-2.result
          (λ two.
          moved_is before.value c.args.from c.args.to u v _ _ giver receiver c.requires.apart between.value after.value (with_held_of c.args.gift u.holding left) (with_held_of c.args.gift v.holding more)
          (ap (λ x. with_held_of c.args.gift u.holding (x - c.args.amount)) c.held_of.ensures) (ap (λ x. with_held_of c.args.gift v.holding (x + c.args.amount)) c.held_of-2.ensures)
          first (changed_held (λ h. with_held_of c.args.gift h more) between.value after.value c.args.to two.value v))
          c.set_held-2.ensures);
      marks = on_ok_weaker c.set_held-2.result (λ two. marks-trans before between after one.marks two.marks) c.set_held-2.ensures;
    }
