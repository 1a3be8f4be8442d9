use Rattle.std.proofs.Common.{◌≤◌, ℕ, subst, sym, ◌∙◌, arith}
use Rattle.std.specs.Ordering.{nat_cmp}
use Rattle.std.specs.FinMap.{FinMap}
use Rattle.atl_pots.specs.Pots.{AreWants}
use Rattle.atl_world.proofs.EveryLaws.{every-empty, every-insert}
use Rattle.atl_game_tests.proofs.tests.pots.wants_of.Goals as goal
use Rattle.atl_game_tests.proofs.tests.pots.wants_of.Goals.{in-Some+in_ok-insert, in_default}

pub loop-want-init : goal.loop-want-init
loop-want-init c = rw c.new-wants.ensures (every-empty (λ (number want : ℕ). want ≤ 999999999))

pub loop-want-preserved : goal.loop-want-preserved
loop-want-preserved c =
    elim c.match-want.branch [
      | in-Some+in_ok-insert w ↦
          let fits : w.from.result ≤ 999999999 = omega arith in
          subst (λ (m : FinMap nat_cmp ℕ). AreWants m) (sym (w.wants-is ∙ w.in_ok-insert.ensures.ok)) (every-insert (λ (number want : ℕ). want ≤ 999999999) c.loop-want.wants _ w.from.result fits c.loop-want.invariant)
      | in_default w ↦ subst (λ (m : FinMap nat_cmp ℕ). AreWants m) (sym w.wants-is) c.loop-want.invariant
    ]
