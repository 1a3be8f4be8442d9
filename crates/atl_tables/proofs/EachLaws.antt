-- Laws for loops over a list: the first fault of its conditions, the values made so far, and what holds at each index.
-- e is the error of a call, `front` has the results so far, and P is a property of an index and the element there.
use Rattle.std.proofs.Common.{◌≡◌, ℕ, zero, suc, ◌+◌, ◌<◌, List, [], ◌∷◌, ◌++◌, length, map, drop, get_or, Option, None, sym, ap, ◌∙◌, subst, append_assoc}
use Rattle.std.proofs.lemmas.List.{drop_more}
use Rattle.atl_tables.specs.declared.fault.WorldFault.{WorldFault}
use Rattle.atl_tables.specs.Each.{conditions_on_each}
use Rattle.atl_tables.specs.EachIndex.{EachIndex}
use Rattle.atl_tables.specs.Faults.{Conditions, first_fault}
use Rattle.atl_tables.specs.Results.{IsFaultOrMemory}
use Rattle.atl_tables.proofs.FaultLaws.{fault_is_of_second_list, error_of_first_list_is_of_joined}

-- `conditions` gives the conditions on an element of a list and its index
module _ {A : Type 0} (conditions : ℕ → A → Conditions) where
  -- x is the element at index i, `xs` are those after it, and `total` is the first fault of all. If x has no fault,
  -- `total` is that of xs. An error that a call may return by the conditions on x (`IsFaultOrMemory`), it may by all.
  module _ (i : ℕ) (x : A) (xs : List A) (total : Option WorldFault) (so_far : first_fault (conditions_on_each conditions i (x ∷ xs)) ≡ total) where
    pub rest_has_same_fault : first_fault (conditions i x) ≡ None
        → first_fault (conditions_on_each conditions (i + 1) xs) ≡ total
    rest_has_same_fault one =
        sym (fault_is_of_second_list (conditions i x) (conditions_on_each conditions (i + 1) xs) one) ∙ so_far

    pub first_error_is_error_of_all : (e : WorldFault) → IsFaultOrMemory e (first_fault (conditions i x))
        → IsFaultOrMemory e total
    first_error_is_error_of_all e one =
        subst (IsFaultOrMemory e) so_far
        (error_of_first_list_is_of_joined e (conditions i x) (conditions_on_each conditions (i + 1) xs) one)

  -- the same in a loop over the indices of a list, xs: x is its i-th element, and `total` the first fault from x on
  module _ (xs : List A) (i : ℕ) (x : A) (total : Option WorldFault) (below : i < length xs) (here : x ≡ get_or xs i x) (so_far : first_fault (conditions_on_each conditions i (drop i xs)) ≡ total) where
    fault_from_index_is_of_all : first_fault (conditions_on_each conditions i (x ∷ drop (i + 1) xs)) ≡ total
    fault_from_index_is_of_all =
        ap (λ ys. first_fault (conditions_on_each conditions i ys))
        (sym (drop_more xs i x below ∙ ap (λ y. y ∷ drop (i + 1) xs) (sym here)))
        ∙ so_far

    pub rest_has_same_fault_at_index : first_fault (conditions i x) ≡ None
        → first_fault (conditions_on_each conditions (i + 1) (drop (i + 1) xs)) ≡ total
    rest_has_same_fault_at_index = rest_has_same_fault i x (drop (i + 1) xs) total fault_from_index_is_of_all

    pub error_at_index_is_error_of_all : (e : WorldFault) → IsFaultOrMemory e (first_fault (conditions i x))
        → IsFaultOrMemory e total
    error_at_index_is_error_of_all = first_error_is_error_of_all i x (drop (i + 1) xs) total fault_from_index_is_of_all

-- in a loop that applies f to each element: after one more result y, of x, the results so far (`front`) and those of
-- the elements left (xs) are still all results (`total`)
pub results_with_one_more_are_all : {A B : Type 0} (f : A → B) (front : List B) (x : A) (xs : List A) (y : B) (total : List B)
    → front ++ map f (x ∷ xs) ≡ total → f x ≡ y → (front ++ y ∷ []) ++ map f xs ≡ total
results_with_one_more_are_all f front x xs y total so_far one =
    append_assoc front (y ∷ []) (map f xs) ∙ ap (λ z. front ++ z ∷ map f xs) (sym one) ∙ so_far

-- P holds at each index of a list with y at the end, if it holds at each index of the list and of y at the last one
pub each_index_push : {A : Type 0} (P : ℕ → A → Type 0) (xs : List A) (y : A) → EachIndex P xs → P (length xs) y
    → EachIndex P (xs ++ y ∷ [])
each_index_push P [] y all last zero x h = let same : y ≡ x = cc in subst (P 0) same last
each_index_push P [] y all last (suc i) x h = absurd (cc)
each_index_push P (z ∷ xs) y all last zero x h = all zero x h
each_index_push P (z ∷ xs) y all last (suc i) x h = each_index_push (λ i. P (suc i)) xs y (λ i. all (suc i)) last i x h
