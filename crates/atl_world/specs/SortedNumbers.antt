-- For proofs alone: the index of a number in a sorted list, and marks that are kept in two sets with room.
use Rattle.std.specs.Prelude.{◌≡◌, ◌+◌, ◌<◌, ◌≤◌, ℕ, true, false, List, length, slice_index}
use Rattle.std.specs.Ordering.{nat_cmp}
use Rattle.std.specs.FinSet as set
use Rattle.atl_world.specs.RoomySets.{RoomySet}

-- the number n is at the index i of a list
pub record IsAt (xs : List ℕ) (n : ℕ) (i : ℕ) : Type 0 where
  pub within : i < length xs
  pub number_there : slice_index xs i ≡ n

-- the number n belongs at the index i of a list: all numbers before i are less than n, and all from i on are greater
pub record BelongsAt (xs : List ℕ) (n : ℕ) (i : ℕ) : Type 0 where
  pub within : i ≤ length xs
  pub before : (k : ℕ) → k < i → slice_index xs k < n
  pub after : (k : ℕ) → i ≤ k → k < length xs → n < slice_index xs k

-- two sets have no number in common
pub record AreApart (s t : set.FinSet nat_cmp) : Type 0 where
  pub apart : (n : ℕ) → set.contains s n ≡ true → set.contains t n ≡ false

-- the marks of `Marks` are kept in two sets, `recent` those made last: no number is in both, and the first has room for
-- the numbers of both
pub record AreMarks (numbers recent : RoomySet) : Type 0 where
  pub apart : AreApart numbers.numbers recent.numbers
  pub fits : set.len numbers.numbers + set.len recent.numbers ≤ numbers.room
