-- For proofs alone: sorted lists of numbers, as numbers are put in and taken out.
use Rattle.std.specs.Prelude.{ℕ, ◌≤◌, nat_le, ⊤, List, [], ◌∷◌, ◌++◌, take, drop}
use Rattle.std.specs.List.{AllByRecursion, position_or_len, remove}

-- no number is below one before it in the list
abbrev pub IsSorted : List ℕ → Type 0
IsSorted [] = ⊤
IsSorted (x ∷ xs) = AllByRecursion (λ y. x ≤ y) xs × IsSorted xs

-- the index of the first number of a list that is not below n; the length where there is none
abbrev pub first_not_below : ℕ → List ℕ → ℕ
first_not_below n xs = position_or_len (nat_le n) xs

-- the list with n put in before the first number that is not below it, at the end if there is none
unfoldable pub put_number : ℕ → List ℕ → List ℕ
put_number n xs = take (first_not_below n xs) xs ++ n ∷ drop (first_not_below n xs) xs

-- the list without the first number that is not below n, if there is one; in a sorted list with n this is n
unfoldable pub take_number : ℕ → List ℕ → List ℕ
take_number n xs = remove xs (first_not_below n xs)
