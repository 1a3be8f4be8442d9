-- What holds of every value of a map by number, or of every pair of a list; and that a number has a value.
use Rattle.std.specs.Prelude.{◌≡◌, ℕ, List, [], ◌∷◌, ⊤, Some}
use Rattle.std.specs.Ordering.{nat_cmp}
use Rattle.std.specs.FinMap.{FinMap, get}

-- `Every P m`: the condition P holds of each number that has a value in the map m, and of this value
abbrev pub Every : {V : Type 0} → (ℕ → V → Type 0) → FinMap nat_cmp V → Type 0
Every P m = (n : ℕ) → (v : _) → get m n ≡ Some v → P n v

-- a map has a value under the number n
abbrev pub HasValue : {V : Type 0} → FinMap nat_cmp V → ℕ → Type 0
HasValue {V} m n = (v : V) × (get m n ≡ Some v)

-- `EachEntry P es`: the condition P holds of each pair of the list `es`, of a number and its value
abbrev pub EachEntry : {V : Type 0} → (ℕ → V → Type 0) → List (ℕ × V) → Type 0
EachEntry P [] = ⊤
EachEntry P (e ∷ es) = P e.0 e.1 × EachEntry P es
