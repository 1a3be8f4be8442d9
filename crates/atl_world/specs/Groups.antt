-- Maps from numbers to groups, where each group is a map from numbers to values.
use Rattle.std.specs.Prelude.{ℕ, unwrap_or}
use Rattle.std.specs.Ordering.{nat_cmp}
use Rattle.std.specs.FinMap.{FinMap, get, empty}

-- the inner map (the group) under the number n of a map of maps, or the empty map if there is none
abbrev pub group_of : {V : Type 0} → FinMap nat_cmp (FinMap nat_cmp V) → ℕ → FinMap nat_cmp V
group_of groups n = unwrap_or (get groups n) empty
