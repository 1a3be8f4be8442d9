-- For proofs alone: how an `Arena` holds a map. Its values are in the numbered slots of s, a slab of the kit, to which
-- an index i leads from their numbers.
use Rattle.std.specs.Prelude.{◌≡◌, ℕ, true, is_some, List, [], ◌∷◌, Option, Some, None}
use Rattle.std.specs.Ordering.{nat_cmp}
use Rattle.std.specs.FinMap.{FinMap, get, entries, len, from_entries}
use Rattle.slab.specs.Slab as slab
use Rattle.atl_world.specs.Every.{EachEntry}

module _ {V : Type 0} where
  -- the list `rest` with the pair of n and the given value in front, or `rest` alone if the value is None
  abbrev pub slot_entry_at : ℕ → Option V → List (ℕ × V) → List (ℕ × V)
  slot_entry_at n None rest = rest
  slot_entry_at n (Some v) rest = (n, v) ∷ rest

  -- for each listed pair of number and slot the number with the value in that slot, where the slot has one
  abbrev pub slot_entries : List (ℕ × ℕ) → slab.Slab V → List (ℕ × V)
  slot_entries [] s = []
  slot_entries (e ∷ es) s = slot_entry_at e.0 (slab.get s e.1) (slot_entries es s)

  -- the map from the numbers of index i to the values in their slots, without a number whose slot has no value
  abbrev pub values_of : FinMap nat_cmp ℕ → slab.Slab V → FinMap nat_cmp V
  values_of i s = from_entries (slot_entries (entries i) s)

  -- each slot of the listed pairs of a number and a slot has a value
  abbrev pub AreInUse : List (ℕ × ℕ) → slab.Slab V → Type 0
  AreInUse es s = EachEntry (λ n k. is_some (slab.get s k) ≡ true) es

  -- each number of the index leads to a slot that has a value, and no two lead to the same one
  pub record HaveOwnSlots (i : FinMap nat_cmp ℕ) (s : slab.Slab V) : Type 0 where
    pub in_use : (n k : ℕ) → get i n ≡ Some k → is_some (slab.get s k) ≡ true
    pub by_one : (n m k : ℕ) → get i n ≡ Some k → get i m ≡ Some k → n ≡ m

  -- each number of the index leads to a slot of its own that has a value, and no other slot has one
  pub record IsArena (i : FinMap nat_cmp ℕ) (s : slab.Slab V) : Type 0 where
    pub slots_used : HaveOwnSlots i s
    -- as many slots have a value as there are numbers in the index
    pub none_idle : slab.slab_len s ≡ len i
