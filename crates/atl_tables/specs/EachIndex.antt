-- For proofs alone: a property of each element of a list together with its index.
use Rattle.std.specs.Prelude.{◌≡◌, ℕ, List, Some}
use Rattle.std.specs.List.{slice_get}

-- `EachIndex P xs`: the property P holds of each index, from 0, of the list xs together with the element there
abbrev pub EachIndex : {A : Type 0} → (ℕ → A → Type 0) → List A → Type 0
EachIndex {A} P xs = (i : ℕ) (x : A) → slice_get xs i ≡ Some x → P i x
