-- Maps by number whose values are mapped, and maps that are built entry by entry in order. m is a map, n a map or, by
-- its type, a number, (k, w) an entry, a number with its value, and `es` and `fs` are lists of entries.
use Rattle.std.proofs.Common.{◌≡◌, ℕ, ◌+◌, true, false, cond, ◌&&◌, T, Some, option_map, List, [], ◌∷◌, ◌++◌, map, sum_by, refl, sym, ap, subst, ◌∙◌}
use Rattle.std.specs.declared.cmp.Ordering.{Ordering}
use Rattle.std.specs.declared.cmp.Ordering.TheVariants.{Less, Equal, Greater}
use Rattle.std.specs.Ordering.{nat_cmp, is_eq, is_lt, ordering_reverse}
use Rattle.std.specs.Cmp.{nat_cmp_total}
use Rattle.std.specs.FinMap.{FinMap, entries, entries_sorted, entries-from_sorted, entries-insert, find, get, get-entries, insert, put, is_sorted}
use Rattle.std.specs.FinMap.Entries.{by_order, below_all}
use Rattle.std.proofs.lemmas.Bool.{and_parts, false≢true}
use Rattle.std.proofs.lemmas.List.Sums.{sum_by-cons}
use Rattle.atl_world.specs.Sums.{map_values, sum_over}
use Rattle.atl_world.proofs.GeneralLaws.{is_true}

-- f maps the values of a map or of a list of entries; the numbers stay. g gives what is summed of a mapped value.
module _ {V W : Type 0} (f : V → W) where
  abbrev entries_with_mapped_values : List (ℕ × V) → List (ℕ × W)
  entries_with_mapped_values es = map (λ e. (e.0, f e.1)) es

  below_all-map : (k : ℕ) (es : List (ℕ × V))
      → below_all nat_cmp k (entries_with_mapped_values es) ≡ below_all nat_cmp k es
  below_all-map k [] = refl
  below_all-map k (e ∷ es) = ap (λ b. is_lt (nat_cmp k e.0) && b) (below_all-map k es)

  is_sorted-map : (es : List (ℕ × V)) → is_sorted nat_cmp (entries_with_mapped_values es) ≡ is_sorted nat_cmp es
  is_sorted-map [] = refl
  is_sorted-map (e ∷ es) =
      ap (λ b. b && is_sorted nat_cmp (entries_with_mapped_values es)) (below_all-map e.0 es)
      ∙ ap (λ b. below_all nat_cmp e.0 es && b) (is_sorted-map es)

  pub entries-mapped : (m : FinMap nat_cmp V) → entries (map_values f m) ≡ entries_with_mapped_values (entries m)
  entries-mapped m =
      entries-from_sorted nat_cmp (entries_with_mapped_values (entries m))
      (subst T (sym (is_sorted-map (entries m))) (entries_sorted m))

  find-map : (es : List (ℕ × V)) (n : ℕ)
      → find nat_cmp n (entries_with_mapped_values es) ≡ option_map f (find nat_cmp n es)
  find-map [] n = refl
  find-map (e ∷ es) n =
      elim (is_eq (nat_cmp n e.0)) as (λ b. cond b (Some (f e.1)) (find nat_cmp n (entries_with_mapped_values es)) ≡ option_map f (cond b (Some e.1) (find nat_cmp n es))) [ true ↦ refl | false ↦ find-map es n ]

  pub get-mapped : (m : FinMap nat_cmp V) (n : ℕ) → get (map_values f m) n ≡ option_map f (get m n)
  get-mapped m n =
      get-entries (map_values f m) n ∙ ap (find nat_cmp n) (entries-mapped m) ∙ find-map (entries m) n
      ∙ ap (option_map f) (sym (get-entries m n))

  sum_by-map : (g : W → ℕ) (es : List (ℕ × V))
      → sum_by (λ e. g e.1) (entries_with_mapped_values es) ≡ sum_by (λ e. g (f e.1)) es
  sum_by-map g [] = refl
  sum_by-map g (e ∷ es) =
      sum_by-cons (λ (e : ℕ × W). g e.1) (e.0, f e.1) (entries_with_mapped_values es)
      ∙ ap (λ n. g (f e.1) + n) (sum_by-map g es) ∙ sym (sum_by-cons (λ (e : ℕ × V). g (f e.1)) e es)

  pub sum_over-mapped : (g : W → ℕ) (m : FinMap nat_cmp V) → sum_over g (map_values f m) ≡ sum_over (λ v. g (f v)) m
  sum_over-mapped g m = ap (sum_by (λ e. g e.1)) (entries-mapped m) ∙ sum_by-map g (entries m)

pub is_less : (o : Ordering) → is_lt o ≡ true → o ≡ Less
is_less Less h = refl
is_less Equal h = absurd (false≢true h)
is_less Greater h = absurd (false≢true h)

greater_if_less : (k q : ℕ) → is_lt (nat_cmp k q) ≡ true → nat_cmp q k ≡ Greater
greater_if_less k q h = nat_cmp_total.antisymm q k ∙ ap ordering_reverse (is_less (nat_cmp k q) h)

module _ {W : Type 0} where
  below_last : (q : ℕ) (es fs : List (ℕ × W)) (k : ℕ) (w : W) → below_all nat_cmp q (es ++ (k, w) ∷ fs) ≡ true
      → nat_cmp k q ≡ Greater
  below_last q [] fs k w h = greater_if_less q k (and_parts _ _ h).0
  below_last q (e ∷ es) fs k w h = below_last q es fs k w (and_parts _ _ h).1

  put_last : (es fs : List (ℕ × W)) (k : ℕ) (w : W) → is_sorted nat_cmp (es ++ (k, w) ∷ fs) ≡ true
      → put nat_cmp k w es ≡ es ++ (k, w) ∷ []
  put_last [] fs k w h = refl
  put_last (e ∷ es) fs k w h =
      ap (λ o. by_order o ((k, w) ∷ e ∷ es) ((e.0, w) ∷ es) (e ∷ put nat_cmp k w es)) (below_last e.0 es fs k w (and_parts _ _ h).0)
      ∙ ap (λ xs. e ∷ xs) (put_last es fs k w (and_parts _ _ h).1)

  -- if the entries of a map n begin with those of m and then (k, w), putting w into m under k adds (k, w) as the last
  pub insert_last : (m n : FinMap nat_cmp W) (k : ℕ) (w : W) (fs : List (ℕ × W)) → entries m ++ (k, w) ∷ fs ≡ entries n
      → entries (insert m k w) ≡ entries m ++ (k, w) ∷ []
  insert_last m n k w fs h =
      entries-insert nat_cmp_total m k w
      ∙ put_last (entries m) fs k w (is_true _ (subst (λ es. T (is_sorted nat_cmp es)) (sym h) (entries_sorted n)))
