-- How each call changes a map by number and its marks, the set of the numbers whose values changed.
use Rattle.std.specs.Prelude.{◌≡◌, ℕ, List, Bool, true, false, Option, Some, None}
use Rattle.std.specs.Ordering.{nat_cmp}
use Rattle.std.specs.List.Sorted.{IsStrictlySortedBy}
use Rattle.std.specs.FinMap as map
use Rattle.std.specs.FinSet as set
use Rattle.std.specs.Borrow.{LendsIf, MutBor, Fml}
use denote.RattleType.{RattleType}
use Rattle.atl_world.specs.MarkedMaps.{MarkedMapValue}
use Rattle.atl_world.specs.contracts.marked_map.MarkedMap.{the_row}

-- `marked_with marks n value`: the marks as they are, or with n added if `value`, what a map has under n, is Some
abbrev pub marked_with : {V : Type 0} → set.FinSet nat_cmp → ℕ → Option V → set.FinSet nat_cmp
marked_with marks n None = marks
marked_with marks n (Some v) = set.insert marks n

-- a list has exactly the numbers of a set of marks, in ascending order
pub record IsAscendingListOf (marks : set.FinSet nat_cmp) (numbers : List ℕ) : Type 0 where
  pub ascending : IsStrictlySortedBy nat_cmp numbers
  pub all : set.from_list numbers ≡ marks

module _ {V : Type 0} where
  -- the map with the value v under n, new or in place of the value before, and n marked
  abbrev pub with_value : MarkedMapValue V → ℕ → V → MarkedMapValue V
  with_value c n v = record { values = map.insert c.values n v; marks = set.insert c.marks n }

  -- the map c without the value under n, and n marked, given this value as `Some v`; given None, c as it is
  abbrev pub without_value_at : MarkedMapValue V → ℕ → Option V → MarkedMapValue V
  without_value_at c n None = c
  without_value_at c n (Some v) = record { values = map.remove c.values n; marks = set.insert c.marks n }

  -- the map without the value under n, and n marked; if there is no value under n, nothing changes
  abbrev pub without_value : MarkedMapValue V → ℕ → MarkedMapValue V
  without_value c n = without_value_at c n (map.get c.values n)

  -- the map with all values taken out, and the number of each of them marked
  abbrev pub without_values : MarkedMapValue V → MarkedMapValue V
  without_values c = record { values = map.empty; marks = set.union c.marks (set.from_list (map.keys c.values)) }

  -- The map with a new value under n taken out again. If the flag says that n was marked before the value was put in,
  -- this is `without_value`, else the map without the value under n and without the mark of n.
  abbrev pub without_new_value : MarkedMapValue V → ℕ → Bool → MarkedMapValue V
  without_new_value c n true = without_value c n
  without_new_value c n false = record { values = map.remove c.values n; marks = set.remove c.marks n }

-- The map c with marks, whose values are of the type V, lends its value under n as the reference r. Once the loan ends,
-- c has the last value written to r under n, and n is marked. Where r is None, c ends as it was.
abbrev pub WritesBackMarked : (V : RattleType) → MutBor (MarkedMapValue V.Denot) → ℕ → Option (MutBor V.Denot) → Fml
WritesBackMarked V c n r = LendsIf (the_row V) V c r (with_value c.now n) c.now
