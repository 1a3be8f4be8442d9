-- What a map by number is after a write to one of its values, which it lent as a mutable reference.
use Rattle.std.specs.Prelude.{ℕ, Option}
use Rattle.std.specs.Ordering.{nat_cmp}
use Rattle.std.specs.FinMap as map
use Rattle.std.specs.Borrow.{LendsIf, MutBor, Fml}
use denote.RattleType.{RattleType}
use Rattle.atl_world.specs.contracts.numbered.Numbered.{the_row}

-- The map m, whose values are of the type V, lends its value under a number as the reference r. Once the loan ends, m
-- has the last value written to r under the number. Where r is None, m ends as it was.
abbrev pub WritesBackAt : (V : RattleType) → MutBor (map.FinMap nat_cmp V.Denot) → ℕ → Option (MutBor V.Denot) → Fml
WritesBackAt V m number r = LendsIf (the_row V) V m r (λ w. map.insert m.now number w) m.now
