-- Laws of a map built entry by entry, each a number with its value, in sorted order: each has a new number. n is the
-- whole map, m the map of its first entries, (k, w) the next entry, and `fs` are those after it. q is a number.
use Rattle.std.proofs.Common.{◌≡◌, ℕ, true, false, T, List, [], ◌∷◌, ◌++◌, Some, None, refl, sym, ap, subst, ◌∙◌}
use Rattle.std.specs.Prelude.{cond}
use Rattle.std.specs.Ordering.{nat_cmp, is_eq, is_lt, ordering_reverse}
use Rattle.std.specs.Cmp.{nat_cmp_total}
use Rattle.std.specs.FinMap.{FinMap, get, entries, find, is_sorted, entries_sorted, get-entries}
use Rattle.std.specs.FinMap.Entries.{below_all}
use Rattle.std.proofs.lemmas.Bool.{and_parts}
use Rattle.atl_world.proofs.MappedLaws.{is_less}
use Rattle.atl_world.proofs.GeneralLaws.{is_true}

pub above_compares_unequal : (k q : ℕ) → is_lt (nat_cmp q k) ≡ true → is_eq (nat_cmp k q) ≡ false
above_compares_unequal k q h =
    ap is_eq (nat_cmp_total.antisymm k q) ∙ ap (λ o. is_eq (ordering_reverse o)) (is_less (nat_cmp q k) h)

module _ {W : Type 0} where
  is_below : (q : ℕ) (es fs : List (ℕ × W)) (k : ℕ) (w : W) → below_all nat_cmp q (es ++ (k, w) ∷ fs) ≡ true
      → is_lt (nat_cmp q k) ≡ true
  is_below q [] fs k w h = (and_parts _ _ h).0
  is_below q (e ∷ es) fs k w h = is_below q es fs k w (and_parts _ _ h).1

  not_in_front : (es fs : List (ℕ × W)) (k : ℕ) (w : W) → is_sorted nat_cmp (es ++ (k, w) ∷ fs) ≡ true
      → find nat_cmp k es ≡ None
  not_in_front [] fs k w h = refl
  not_in_front (e ∷ es) fs k w h =
      ap (λ b. cond b (Some e.1) (find nat_cmp k es))
      (above_compares_unequal k e.0 (is_below e.0 es fs k w (and_parts _ _ h).0))
      ∙ not_in_front es fs k w (and_parts _ _ h).1

  -- the next entry of a map whose first entries are those of m has a number that is not in m
  pub comes_new : (m n : FinMap nat_cmp W) (k : ℕ) (w : W) (fs : List (ℕ × W)) → entries m ++ (k, w) ∷ fs ≡ entries n
      → get m k ≡ None
  comes_new m n k w fs h =
      get-entries m k
      ∙ not_in_front (entries m) fs k w (is_true _ (subst (λ es. T (is_sorted nat_cmp es)) (sym h) (entries_sorted n)))
