use Rattle.std.proofs.Common.{◌≡◌, ◌+◌, ◌-◌, ◌*◌, ◌/◌, ◌<◌, get_or, sum, take, drop, ◌∷◌, arith}
use Rattle.std.proofs.lemmas.List.{drop_more}
use Rattle.std.proofs.lemmas.List.Sums.{sum_by_more}
use Rattle.std.proofs.lemmas.Grind.{common_steps}
use Rattle.atl_shares.specs.Share.{share_upto}
use Rattle.atl_shares.proofs.ShareLaws.{next_share, next_left}
use Rattle.atl_shares.proofs.shares.proportional_shares.Goals as goal

pub loop-want-preserved : goal.loop-want-preserved
loop-want-preserved c =
    let wants = c.args.wants.now in
    let i = c.loop-want.want-index in
    let pot = c.from-pot.result in
    let total = c.sum_of-total.result in
    let before = sum (take i wants) in
    let positive : 0 < total = omega arith in
    let e : sum (take (i + 1) wants) ≡ before + c.from.result = omega (arith, sum_by_more (λ x. x) wants i 0 c.loop-want-test.true) in
    let d : drop i wants ≡ get_or wants i 0 ∷ drop (i + 1) wants = drop_more wants i 0 c.loop-want-test.true in
    let share : (pot * c.from.result + c.loop-want.left) / total ≡ share_upto pot total (before + c.from.result) - share_upto pot total before = next_share pot total before c.loop-want.left c.from.result positive c.loop-want.invariant.left in
    record {
      left = rw e (next_left pot total before c.loop-want.left c.from.result positive c.loop-want.invariant.left);
      rest = grind (arith, common_steps);
    }
