use Rattle.std.proofs.Common.{◌≡◌, ℕ, true, List, length, subst, rules}
use Rattle.std.specs.Ordering.{nat_cmp}
use Rattle.std.specs.Set.{sorted_merge}
use Rattle.std.specs.Slice.Iter.{iter_rest}
use Rattle.std.specs.Iterator.{YieldsFirstBy}
use Rattle.atl_world.proofs.MergeLaws.{first_alone}
use Rattle.atl_world.proofs.marked_numbers.MarkedNumbersIterator.next.Goals as goal

pub returns-in_default-first-clause-steps : goal.returns-in_default-first-clause-steps
returns-in_default-first-clause-steps c =
    let next = c.next_of-in_default-first in
    let recent = iter_rest c.self.inside.recent in
    let none : length recent ≡ 0 = search rules in
    subst (λ (s : List ℕ). YieldsFirstBy (λ (n : ℕ). n) (λ (s : List ℕ). s) s next.result (sorted_merge nat_cmp true (iter_rest next.new.numbers) recent)) c.self.view_is
    (first_alone (iter_rest c.self.inside.numbers) (iter_rest next.new.numbers) recent next.result none next.ensures)

pub returns-in_default-first-clause-goes : goal.returns-in_default-first-clause-goes
returns-in_default-first-clause-goes c = let steps = returns-in_default-first-clause-steps c in search rules
