-- Sets of marked numbers with room: how many numbers each can hold without taking memory.
use Rattle.std.specs.Prelude.{◌≤◌, ℕ, refl}
use Rattle.std.specs.Ordering.{nat_cmp}
use Rattle.std.specs.Coded.{Coded, code_by, coded×, coded_ℕ}
use Rattle.std.specs.FinMap.{FinMap, keys}
use Rattle.std.specs.FinSet as set

-- a set with room: its numbers, and how many numbers it can hold without taking memory
pub record RoomySet : Type 0 where
  pub numbers : set.FinSet nat_cmp
  pub room : ℕ

-- for proofs alone: a set with room encoded as the pair of both, as the kit asks of a type that contracts see
abbrev pub roomy_set_code : Coded RoomySet
roomy_set_code =
    code_by (set.FinSet nat_cmp × ℕ)
    (coded× (set.code coded_ℕ) coded_ℕ)
    (λ m. (m.numbers, m.room))
    (λ p. record { numbers = p.0; room = p.1 })
    (λ _. refl)

-- the set of the numbers that have a value in a map, or a mark, or both
abbrev pub valued_or_marked : {V : Type 0} → FinMap nat_cmp V → set.FinSet nat_cmp → set.FinSet nat_cmp
valued_or_marked values marks = set.union marks (set.from_list (keys values))

-- a set of marks has room for its numbers and all numbers with a value in a map, so marking one takes no memory
abbrev pub HasRoomForMarks : {V : Type 0} → FinMap nat_cmp V → RoomySet → Type 0
HasRoomForMarks values marks = set.len (valued_or_marked values marks.numbers) ≤ marks.room
