-- Laws of lists of numbers by key, as numbers are added one after another: of the structures by region, and of units by
-- a key of theirs.
-- `lists` and `sites` are the lists made so far. `n` is the next number, which is added to the list of its own key.
-- `key`, `k` or `region` is the key whose list is asked for, and `rest`, `ns` or `es` is what is still to come.
use Rattle.std.proofs.Common.{◌≡◌, ◌==◌, ◌++◌, ℕ, Bool, true, false, cond, List, [], ◌∷◌, filter, Option, Some, None, unwrap_or, refl, sym, ap, ◌∙◌}
use Rattle.std.specs.Option.{option_map_or}
use Rattle.std.specs.Ordering.{nat_cmp}
use Rattle.std.specs.Cmp.{nat_cmp_total}
use Rattle.std.specs.FinMap.{FinMap, get, get-insert, get-empty, empty}
use Rattle.std.proofs.lemmas.List.{append_assoc, append-nil}
use Rattle.atl_world.specs.Sums.{numbers_among}
use Rattle.atl_world.proofs.SumLaws.{chosen-cons}
use Rattle.atl_world.proofs.GeneralLaws.{is_equal, key_equality_is_symmetric}
use Rattle.atl_records.specs.declared.records.Structure.{Structure}
use Rattle.atl_records.specs.declared.records.Unit.{Unit}
use Rattle.atl_lists.specs.Lists.{list_of}
use Rattle.atl_report.specs.Sites.{with_listed}
use Rattle.atl_report.specs.Gathering.{with_keyed, with_all_keyed}

-- For `number_goes_on`: a key's list, followed by its numbers still to come, is the same whether number n ends the list
-- or begins those still to come. Test `b` says whether n is of the key.
by_key : (b : Bool) (o : Option (List ℕ)) (listed rest : List ℕ) (n : ℕ) → (b ≡ true → listed ≡ unwrap_or o [])
    → unwrap_or (cond b (Some (listed ++ (n ∷ []))) o) [] ++ rest ≡ unwrap_or o [] ++ cond b (n ∷ rest) rest
by_key true o listed rest n h = ap (λ l. (l ++ (n ∷ [])) ++ rest) (h refl) ∙ append_assoc (unwrap_or o []) (n ∷ []) rest
by_key false o listed rest n h = refl

-- equal keys have the same list
same_list : (lists : FinMap nat_cmp (List ℕ)) (q r : ℕ) → (r == q) ≡ true → list_of lists r ≡ list_of lists q
same_list lists q r h = ap (list_of lists) (is_equal r q h)

-- a key's list, followed by its numbers still to come, is the same before and after the next number is added to the
-- list of its own key (`of`)
pub number_goes_on : (lists : FinMap nat_cmp (List ℕ)) (of n key : ℕ) (rest : List ℕ)
    → list_of (with_listed lists of n) key ++ rest ≡ list_of lists key ++ cond (of == key) (n ∷ rest) rest
number_goes_on lists of n key rest =
    ap (λ o. unwrap_or o [] ++ rest) (get-insert nat_cmp_total lists of (list_of lists of ++ (n ∷ [])) key)
    ∙ ap (λ b. unwrap_or (cond b (Some (list_of lists of ++ (n ∷ []))) (get lists key)) [] ++ rest) (key_equality_is_symmetric key of)
    ∙ by_key (of == key) (get lists key) (list_of lists of) rest n (same_list lists key of)

-- a region's list, followed by the numbers of its structures still to come, is the same before and after the next
-- structure, s of number n, is added to the list of its own region
pub site_goes_on : (sites : FinMap nat_cmp (List ℕ)) (n : ℕ) (s : Structure) (es : List (ℕ × Structure)) (region : ℕ)
    → list_of (with_listed sites s.region n) region ++ numbers_among (λ (t : Structure). t.region == region) es
    ≡ list_of sites region ++ numbers_among (λ (t : Structure). t.region == region) ((n, s) ∷ es)
site_goes_on sites n s es region =
    number_goes_on sites s.region n region (numbers_among (λ (t : Structure). t.region == region) es)
    ∙ ap (λ l. list_of sites region ++ l) (sym (chosen-cons (λ (t : Structure). t.region == region) (n, s) es))

-- where there are no lists (`empty`), each key's list is empty
pub no_lists : (m : FinMap nat_cmp (List ℕ)) → m ≡ empty → (key : ℕ) → list_of m key ≡ []
no_lists m h key =
    ap (λ (m : FinMap nat_cmp (List ℕ)). list_of m key) h ∙ ap (λ o. unwrap_or o []) (get-empty nat_cmp key)

-- ---- units by a key of theirs

-- `units` has units by number, `key` gives the key of a unit, and `k` is one key
module _ (units : FinMap nat_cmp Unit) (key : Unit → ℕ) (k : ℕ) where
  -- whether a unit exists, and has the key `k`
  abbrev has_key : Option Unit → Bool
  has_key o = option_map_or (λ u. key u == k) o false

  -- those of some numbers whose units have the key `k`
  abbrev of_key : List ℕ → List ℕ
  of_key = filter (λ n. has_key (get units n))

  -- for `list_of-with_all_keyed`: the next number, and then the later ones
  next_keyed : (lists : FinMap nat_cmp (List ℕ)) (n : ℕ) (ns : List ℕ) (o : Option Unit) → get units n ≡ o
      → list_of (with_keyed key lists n o) k ++ of_key ns ≡ list_of lists k ++ of_key (n ∷ ns)
  next_keyed lists n ns None is = ap (λ o. list_of lists k ++ cond (has_key o) (n ∷ of_key ns) (of_key ns)) (sym is)
  next_keyed lists n ns (Some u) is =
      number_goes_on lists (key u) n k (of_key ns)
      ∙ ap (λ o. list_of lists k ++ cond (has_key o) (n ∷ of_key ns) (of_key ns)) (sym is)

  -- after the numbers of some units are added, each to the list of its key, a key's list has in addition those of the
  -- numbers whose units have this key
  list_of-with_all_keyed : (ns : List ℕ) (lists : FinMap nat_cmp (List ℕ))
      → list_of (with_all_keyed units key lists ns) k ≡ list_of lists k ++ of_key ns
  list_of-with_all_keyed [] lists = sym (append-nil (list_of lists k))
  list_of-with_all_keyed (n ∷ ns) lists =
      list_of-with_all_keyed ns (with_keyed key lists n (get units n)) ∙ next_keyed lists n ns (get units n) refl

  -- If numbers are added to empty lists, each to the list of its unit's key, the list of `k` then has those numbers, in
  -- their order, that have a unit whose key is `k`.
  pub listed_by_key : (ns : List ℕ)
      → list_of (with_all_keyed units key empty ns) k ≡ filter (λ n. has_key (get units n)) ns
  listed_by_key ns = list_of-with_all_keyed ns empty ∙ ap (λ l. l ++ of_key ns) (no_lists empty refl k)
