-- A map by number that marks the numbers whose values changed, as contracts see it.
use Rattle.std.specs.Prelude.{refl}
use Rattle.std.specs.Ordering.{nat_cmp}
use Rattle.std.specs.Coded.{Coded, code_by, coded×, coded_ℕ}
use Rattle.std.specs.FinMap.{FinMap, code}
use Rattle.std.specs.FinSet as set

-- a map with marks: its values by number, and the set of the marked numbers
pub record MarkedMapValue (V : Type 0) : Type 0 where
  pub values : FinMap nat_cmp V
  -- the marked numbers: those whose values may have changed since the marks were cleared
  pub marks : set.FinSet nat_cmp

-- for proofs alone: a map with marks encoded as the pair of its values and its marks, where v encodes one value
abbrev pub marked_map_code : {V : Type 0} → Coded V → Coded (MarkedMapValue V)
marked_map_code {V} v =
    code_by (FinMap nat_cmp V × set.FinSet nat_cmp)
    (coded× (code coded_ℕ v) (set.code coded_ℕ))
    (λ c. (c.values, c.marks))
    (λ p. record { values = p.0; marks = p.1 })
    (λ _. refl)
