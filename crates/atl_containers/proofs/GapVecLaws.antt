-- Laws of a gap vector, which has unused elements and then a list: the list once an element is inserted or removed.
use Rattle.std.proofs.Common.{◌≡◌, ℕ, suc, ◌+◌, ◌-◌, ◌<◌, ◌≤◌, List, ◌∷◌, ◌++◌, length, take, drop, set, get_or, sym, ap, ◌∙◌, append_assoc, length-drop, arith}
use Rattle.std.proofs.lemmas.List.{drop_at, drop-drop, drop-take, drop-append-le, drop-set-add, drop_more, length-take-le, set_at}
use Rattle.std.specs.List.{insert, remove, copy_within}

-- a list from index `at` on is the copies, and then the old elements that follow their place, once its elements from
-- index `from` to `to` are copied to `at`
list_after_copy : {A : Type 0} (xs : List A) (from to at : ℕ) → at ≤ length xs
    → drop at (copy_within xs from to at) ≡ take (to - from) (drop from xs) ++ drop (at + (to - from)) xs
list_after_copy xs from to at l =
    ap (drop at) (append_assoc (take at xs) (take (to - from) (drop from xs)) (drop (at + (to - from)) xs))
    ∙ drop_at (take at xs) (take (to - from) (drop from xs) ++ drop (at + (to - from)) xs) at (length-take-le at xs l)

-- xs has all elements of the vector: first the `free` unused ones, then the list. `position` is an index of the list,
-- or, except in `closed`, its length.
module _ {A : Type 0} (xs : List A) (free position : ℕ) where
  count : free + position - free ≡ position
  count = omega arith

  -- moving the list's first `position` elements up by one, over the next one, removes that one; one more is unused then
  pub closed : free + position < length xs
      → drop (free + 1) (copy_within xs free (free + position) (free + 1)) ≡ remove (drop free xs) position
  closed l =
      let after : free + 1 + position ≡ free + suc position = omega arith in
      rw (list_after_copy xs free (free + position) (free + 1) (omega arith), count, after) (ap (λ ys. take position (drop free xs) ++ ys) (sym (drop-drop (suc position) free xs)))

  -- where an element is unused, moving the list's first `position` elements down by one, and putting x after them,
  -- inserts x into the list at index `position`; one element less is unused then
  pub opened : (x : A) → 0 < free → free + position ≤ length xs
      → drop (free - 1) (set (copy_within xs free (free + position) (free - 1)) (free - 1 + position) x)
      ≡ insert (drop free xs) position x
  opened x some l =
      let after : free - 1 + position + 1 ≡ free + position = omega arith in
      let long : position ≤ length (drop free xs) = omega (arith, length-drop free xs) in
      rw (drop-set-add (free - 1) (copy_within xs free (free + position) (free - 1)) position x, list_after_copy xs free (free + position) (free - 1) (omega arith), count, drop_more xs (free - 1 + position) x (omega arith), after)
      (set_at (take position (drop free xs)) (get_or xs (free - 1 + position) x) (drop (free + position) xs) x position (length-take-le position (drop free xs) long) ∙ ap (λ ys. take position (drop free xs) ++ x ∷ ys) (sym (drop-drop position free xs)))

  -- removing the element at index `free + position` of the vector removes the one at index `position` of the list
  pub removed : free + position ≤ length xs → drop free (remove xs (free + position)) ≡ remove (drop free xs) position
  removed l =
      let long : free ≤ length (take (free + position) xs) = omega (arith, length-take-le (free + position) xs l) in
      let after : suc (free + position) ≡ free + suc position = omega arith in
      drop-append-le free (take (free + position) xs) (drop (suc (free + position)) xs) long
      ∙ rw (drop-take free position xs, after) (ap (λ ys. take position (drop free xs) ++ ys) (sym (drop-drop (suc position) free xs)))

  -- inserting x at index `free + position` of the vector inserts it at index `position` of the list
  pub inserted : (x : A) → free + position ≤ length xs
      → drop free (insert xs (free + position) x) ≡ insert (drop free xs) position x
  inserted x l =
      let long : free ≤ length (take (free + position) xs) = omega (arith, length-take-le (free + position) xs l) in
      drop-append-le free (take (free + position) xs) (x ∷ drop (free + position) xs) long
      ∙ rw (drop-take free position xs) (ap (λ ys. take position (drop free xs) ++ x ∷ ys) (sym (drop-drop position free xs)))
