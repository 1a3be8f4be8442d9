-- Laws of what units get of the pots of their regions. An entry of a list (`es`) is a unit's number n with a value s,
-- such as its share. `find nat_cmp n es` is the value of the first entry with number n, if any. `with_entries m es` is
-- map m with the entries put in, one after another. r and q are regions, by number.
use Rattle.std.proofs.Common.{◌≡◌, ◌≢◌, ℕ, ◌<◌, ◌≤◌, ◌==◌, ◌||◌, suc, Bool, true, false, cond, List, [], ◌∷◌, ◌++◌, length, get_or, map, sum, Option, Some, None, is_some, refl, sym, ap, subst, ◌∙◌, inl, inr, arith}
use Rattle.std.specs.Prelude.{⊤, reverse, option_map, unwrap_or}
use Rattle.std.specs.List.{All, AllByRecursion, flat_map, list_any, zip}
use Rattle.std.specs.Ordering.{nat_cmp, is_eq, eq_by_cmp}
use Rattle.std.specs.declared.cmp.Ordering.TheVariants.{Less, Equal, Greater}
use Rattle.std.specs.Cmp.{nat_cmp_total, unsigned_ties}
use Rattle.std.specs.FinMap.{FinMap, get, insert, find, empty, entries, keys, from_entries, contains_key-keys, get-empty, get-entries, get-insert, get-from_entries, get-retain_keys, same_map, nat_cmp-IsAntisymmetric}
use Rattle.std.proofs.lemmas.Bool.{cases_eq, eqb-true, false≢true, or_left, or_right}
use Rattle.std.proofs.lemmas.Option.{same_Some}
use Rattle.std.proofs.lemmas.List.{reverse-append, length-map}
use Rattle.std.proofs.lemmas.List.Elements.{All-from_recursion}
use Rattle.atl_world.specs.Limits.{most_amount}
use Rattle.atl_world.specs.Every.{HasValue, EachEntry}
use Rattle.atl_campaign.specs.Campaign.{CampaignValue}
use Rattle.atl_records.specs.declared.records.Unit.{Unit}
use Rattle.atl_campaign.proofs.NumberListLaws.{IsListed}
use Rattle.atl_campaign.proofs.ReadBackLaws.{InOrder, Rise, entries_rise}
use Rattle.atl_world.proofs.EveryLaws.{each-from_every, every-from_each, first, found_of, get-insert_other, none_some, other_number, same_number}
use Rattle.atl_records.proofs.AmountListLaws.{all_append}
use Rattle.atl_campaign.proofs.RegionLaws.{get-insert_same}
use Rattle.atl_shares.specs.Share.{shares}
use Rattle.atl_pots.specs.Pots.{AreWants, amounts_of, asks_for, wants_for, wants_at, region_of_unit, takers_in, wants_in, shares_in, pot_shares, share_of, OnlyTakersGet, EachTakerGets, SharesEachPot, GivesEachPot, OtherRegionsDoNotCount}
use Rattle.atl_pots.specs.Puts.{with_entries}
use Rattle.atl_shares.proofs.ShareLaws.{all_is_given, share_at_most, length-shares}

-- pairs of a unit's number and an amount, such as its share
abbrev pub Entries : Type 0
Entries = List (ℕ × ℕ)

none_if_not_some : {X : Type 0} (o : Option X) → ((x : X) → o ≡ Some x → ⊥) → o ≡ None
none_if_not_some None h = refl
none_if_not_some (Some x) h = absurd (h x refl)

has_value_if_some : {X : Type 0} (o : Option X) → is_some o ≡ true → (x : X) × (o ≡ Some x)
has_value_if_some None h = absurd (false≢true h)
has_value_if_some (Some x) h = (x, refl)

-- ---- what is found under a number

-- what is found in a list is found in this list followed by another one
pub found_first : {V : Type 0} (n : ℕ) (es fs : List (ℕ × V)) (s : V) → find nat_cmp n es ≡ Some s
    → find nat_cmp n (es ++ fs) ≡ Some s
found_first n [] fs s h = none_some s h
found_first n (e ∷ es) fs s h =
    elim (is_eq (nat_cmp n e.0)) as (λ b. cond b (Some e.1) (find nat_cmp n es) ≡ Some s → cond b (Some e.1) (find nat_cmp n (es ++ fs)) ≡ Some s) [
      | true ↦ λ g. g
      | false ↦ found_first n es fs s
    ] h

-- what isn't found in a list is found in this list followed by another one as it is in that one
pub found_later : {V : Type 0} (n : ℕ) (es fs : List (ℕ × V)) → find nat_cmp n es ≡ None
    → find nat_cmp n (es ++ fs) ≡ find nat_cmp n fs
found_later n [] fs h = refl
found_later n (e ∷ es) fs h =
    elim (is_eq (nat_cmp n e.0)) as (λ b. cond b (Some e.1) (find nat_cmp n es) ≡ None → cond b (Some e.1) (find nat_cmp n (es ++ fs)) ≡ find nat_cmp n fs) [
      | true ↦ λ g. none_some e.1 (sym g)
      | false ↦ found_later n es fs
    ] h

-- an entry of another number in front makes no difference
pub found_other : {V : Type 0} (e : ℕ × V) (es : List (ℕ × V)) (n : ℕ) → n ≢ e.0
    → find nat_cmp n (e ∷ es) ≡ find nat_cmp n es
found_other e es n apart =
    ap (λ b. cond b (Some e.1) (find nat_cmp n es)) (sym (unsigned_ties n e.0) ∙ other_number n e.0 apart)

-- no two entries have the same number
abbrev pub IsApart : Entries → Type 0
IsApart [] = ⊤
IsApart (e ∷ es) = (find nat_cmp e.0 es ≡ None) × IsApart es

found_tail : (e : ℕ × ℕ) (es : Entries) (n s : ℕ) → IsApart (e ∷ es) → find nat_cmp n es ≡ Some s
    → find nat_cmp n (e ∷ es) ≡ Some s
found_tail e es n s apart is = elim (cases_eq n e.0) [
  | inl same ↦ none_some s (sym apart.0 ∙ ap (λ k. find nat_cmp k es) (sym same) ∙ is)
  | inr other ↦ found_other e es n other ∙ is
]

-- what holds of all that is found under a number holds of each entry, if no two entries have the same number
pub each_found : (P : ℕ × ℕ → Type 0) (es : Entries) → IsApart es → ((n s : ℕ) → find nat_cmp n es ≡ Some s → P (n, s))
    → AllByRecursion P es
each_found P [] apart h = tt
each_found P (e ∷ es) apart h =
    (h e.0 e.1 (first e es), each_found P es apart.1 (λ n s is. h n s (found_tail e es n s apart is)))

-- ---- entries put into a map in turn

-- a number without an entry in the list keeps its value when the list is put into a map
pub others_keep_value : (m : FinMap nat_cmp ℕ) (es : Entries) (n : ℕ) → find nat_cmp n es ≡ None
    → get (with_entries m es) n ≡ get m n
others_keep_value m [] n h = refl
others_keep_value m (e ∷ es) n h =
    elim (eq_by_cmp nat_cmp n e.0) as (λ b. get (insert m e.0 e.1) n ≡ cond b (Some e.1) (get m n) → cond b (Some e.1) (find nat_cmp n es) ≡ None → get (with_entries (insert m e.0 e.1) es) n ≡ get m n) [
      | true ↦ λ g none. none_some e.1 (sym none)
      | false ↦ λ g none. others_keep_value (insert m e.0 e.1) es n none ∙ g
    ] (get-insert nat_cmp_total m e.0 e.1 n) h

as_pairs : (P : ℕ → ℕ → Type 0) (es : Entries) → AllByRecursion (λ e. P e.0 e.1) es → EachEntry P es
as_pairs P [] h = tt
as_pairs P (e ∷ es) h = (h.0, as_pairs P es h.1)

-- ---- entries that agree with a function, put into a map in turn

-- `g` gives the value that belongs to a number, if any
module _ (g : ℕ → Option ℕ) where
  -- each entry's value is the one that the function `g` has for the entry's number
  abbrev pub AgreeWith : Entries → Type 0
  AgreeWith es = AllByRecursion (λ e. g e.0 ≡ Some e.1) es

  put_here : (m : FinMap nat_cmp ℕ) (e : ℕ × ℕ) (n s : ℕ) → n ≡ e.0 → g e.0 ≡ Some e.1 → g n ≡ Some s
      → get (insert m e.0 e.1) n ≡ Some s
  put_here m e n s same says is =
      ap (get (insert m e.0 e.1)) same ∙ get-insert_same m e.0 e.1 ∙ sym says ∙ ap g (sym same) ∙ is

  agreeing_stays : (m : FinMap nat_cmp ℕ) (es : Entries) (n s : ℕ) → AgreeWith es → g n ≡ Some s → get m n ≡ Some s
      → get (with_entries m es) n ≡ Some s
  agreeing_stays m [] n s says is at = at
  agreeing_stays m (e ∷ es) n s says is at =
      agreeing_stays (insert m e.0 e.1) es n s says.1 is (elim (cases_eq n e.0) [
        | inl same ↦ put_here m e n s same says.0 is
        | inr apart ↦ get-insert_other m e.0 n e.1 apart ∙ at
      ])

  agreeing_comes : (m : FinMap nat_cmp ℕ) (es : Entries) (n s : ℕ) → AgreeWith es → g n ≡ Some s
      → is_some (find nat_cmp n es) ≡ true → get (with_entries m es) n ≡ Some s
  agreeing_comes m [] n s says is some = absurd (false≢true some)
  agreeing_comes m (e ∷ es) n s says is some = elim (cases_eq n e.0) [
    | inl same ↦ agreeing_stays (insert m e.0 e.1) es n s says.1 is (put_here m e n s same says.0 is)
    | inr apart ↦ agreeing_comes (insert m e.0 e.1) es n s says.1 is (ap is_some (sym (found_other e es n apart)) ∙ some)
  ]

  -- entries that agree with `g` and have all its numbers, put into the empty map, give each number what `g` has for it
  pub agreeing_put : (es : Entries) → AgreeWith es → ((n s : ℕ) → g n ≡ Some s → is_some (find nat_cmp n es) ≡ true)
      → (n : ℕ) → get (with_entries empty es) n ≡ g n
  agreeing_put es says whole n = by_find (find nat_cmp n es) refl
    where
      nothing : find nat_cmp n es ≡ None → (o : Option ℕ) → g n ≡ o → o ≡ None
      nothing none None is = refl
      nothing none (Some s) is = absurd (false≢true (ap is_some (sym none) ∙ whole n s is))

      by_find : (o : Option ℕ) → find nat_cmp n es ≡ o → get (with_entries empty es) n ≡ g n
      by_find None is = others_keep_value empty es n is ∙ get-empty nat_cmp n ∙ sym (nothing is (g n) refl)
      by_find (Some s) is =
          let at : g n ≡ Some s = found_of (λ k t. g k ≡ Some t) es n s (as_pairs (λ k t. g k ≡ Some t) es says) is in
          agreeing_comes empty es n s says at (ap is_some is) ∙ sym at

-- ---- entries with different numbers

-- entries with different numbers, put into the empty map, are found in it as they are in the list
pub found_put : (es : Entries) → IsApart es → (n : ℕ) → get (with_entries empty es) n ≡ find nat_cmp n es
found_put es apart =
    agreeing_put (λ n. find nat_cmp n es) es (each_found (λ e. find nat_cmp e.0 es ≡ Some e.1) es apart (λ n s is. is))
    (λ n s is. ap is_some is)

lower_number_not_found : (k : ℕ) (es : Entries) → AllByRecursion (λ e. k < e.0) es → find nat_cmp k es ≡ None
lower_number_not_found k [] above = refl
lower_number_not_found k (e ∷ es) above =
    found_other e es k (λ same. absurd (omega (arith, same, above.0))) ∙ lower_number_not_found k es above.1

-- entries with rising numbers have different numbers
pub rise_apart : (es : Entries) → Rise es → IsApart es
rise_apart [] rise = tt
rise_apart (e ∷ es) rise = (lower_number_not_found e.0 es rise.0, rise_apart es rise.1)

-- putting entries with rising numbers into the empty map in turn gives the map of them
pub risen_put : (es : Entries) → Rise es → with_entries empty es ≡ from_entries es
risen_put es rise =
    same_map nat_cmp_total nat_cmp-IsAntisymmetric _ _
    (λ n. found_put es (rise_apart es rise) n ∙ sym (get-from_entries nat_cmp_total es n))

abbrev or_else : {V : Type 0} → Option V → Option V → Option V
or_else None old = old
or_else (Some s) old = Some s

last_put : {V : Type 0} (m : FinMap nat_cmp V) (es : List (ℕ × V)) (n : ℕ)
    → get (with_entries m es) n ≡ or_else (find nat_cmp n (reverse es)) (get m n)
last_put m [] n = refl
last_put {V} m (e ∷ es) n =
    last_put (insert m e.0 e.1) es n ∙ by_find (find nat_cmp n (reverse es)) refl
    ∙ sym (ap (λ fs. or_else (find nat_cmp n fs) (get m n)) (reverse-append (e ∷ []) es))
  where
    by_find : (o : Option V) → find nat_cmp n (reverse es) ≡ o
        → or_else o (get (insert m e.0 e.1) n) ≡ or_else (find nat_cmp n (reverse es ++ e ∷ [])) (get m n)
    by_find (Some s) is = ap (λ o. or_else o (get m n)) (sym (found_first n (reverse es) (e ∷ []) s is))
    by_find None is =
        get-insert nat_cmp_total m e.0 e.1 n ∙ by_test (is_eq (nat_cmp n e.0))
        ∙ ap (λ o. or_else o (get m n)) (sym (found_later n (reverse es) (e ∷ []) is))
      where
        by_test : (b : Bool) → cond b (Some e.1) (get m n) ≡ or_else (cond b (Some e.1) None) (get m n)
        by_test true = refl
        by_test false = refl

-- putting entries into the empty map in turn gives the map of them in reverse: of two with one number the later counts
pub put_in_turn : {V : Type 0} (es : List (ℕ × V)) → with_entries empty es ≡ from_entries (reverse es)
put_in_turn {V} es = same_map nat_cmp_total nat_cmp-IsAntisymmetric _ _ (λ n.
    last_put empty es n ∙ ap (or_else (find nat_cmp n (reverse es))) (get-empty nat_cmp n) ∙ or_none (find nat_cmp n (reverse es)) ∙ sym (get-from_entries nat_cmp_total (reverse es) n))
  where
    or_none : (o : Option V) → or_else o None ≡ o
    or_none None = refl
    or_none (Some s) = refl

-- ---- entries that regions give, where a number gets one share at most

-- a number that has an entry in the list `f x`, for an x of `xs`, has one in the lists of all `xs` together
pub found_among : (f : ℕ → Entries) (n : ℕ) (xs : List ℕ) (x : ℕ) → list_any (eq_by_cmp nat_cmp x) xs ≡ true
    → is_some (find nat_cmp n (f x)) ≡ true → is_some (find nat_cmp n (flat_map f xs)) ≡ true
found_among f n [] x among some = absurd (false≢true among)
found_among f n (y ∷ xs) x among some =
    by_first (λ h. found_among f n xs x h some) (find nat_cmp n (f y)) refl (eq_by_cmp nat_cmp x y) refl among
  where
    by_first : (list_any (eq_by_cmp nat_cmp x) xs ≡ true → is_some (find nat_cmp n (flat_map f xs)) ≡ true)
        → (o : Option ℕ) → find nat_cmp n (f y) ≡ o → (b : Bool) → eq_by_cmp nat_cmp x y ≡ b
        → (b || list_any (eq_by_cmp nat_cmp x) xs) ≡ true → is_some (find nat_cmp n (flat_map f (y ∷ xs))) ≡ true
    by_first rest (Some s) is b at h = ap is_some (found_first n (f y) (flat_map f xs) s is)
    by_first rest None is true at h =
        absurd
        (false≢true (sym (ap is_some is) ∙ ap (λ z. is_some (find nat_cmp n (f z))) (sym (eqb-true x y (unsigned_ties x y ∙ at))) ∙ some))
    by_first rest None is false at h = ap is_some (found_later n (f y) (flat_map f xs) is) ∙ rest h

-- if P holds of each entry of the list `f x`, for each x of `xs`, it holds of each entry of these lists together
pub each_flat : {A : Type 0} (P : ℕ × ℕ → Type 0) (f : A → Entries) (xs : List A)
    → AllByRecursion (λ x. AllByRecursion P (f x)) xs → AllByRecursion P (flat_map f xs)
each_flat P f [] h = tt
each_flat P f (x ∷ xs) h = all_append P (f x) (flat_map f xs) h.0 (each_flat P f xs h.1)

-- `f` gives the entries of a region, by its number; `rs` are regions
module _ (f : ℕ → Entries) where
  abbrev from_all : List ℕ → Entries
  from_all rs = flat_map f rs

  -- what is found in the lists of all `rs` together is found in the list of one of them
  pub somewhere : (n s : ℕ) (rs : List ℕ) → find nat_cmp n (from_all rs) ≡ Some s
      → (r : ℕ) × (list_any (eq_by_cmp nat_cmp r) rs ≡ true) × (find nat_cmp n (f r) ≡ Some s)
  somewhere n s [] h = none_some s h
  somewhere n s (r ∷ rs) h =
      elim (find nat_cmp n (f r)) as (λ o. find nat_cmp n (f r) ≡ o → (q : ℕ) × (list_any (eq_by_cmp nat_cmp q) (r ∷ rs) ≡ true) × (find nat_cmp n (f q) ≡ Some s)) [
        | None ↦ λ e. let (q, among, is) = somewhere n s rs (sym (found_later n (f r) (from_all rs) e) ∙ h) in (q, or_right (eq_by_cmp nat_cmp q r) _ among, is)
        | Some t ↦ λ e. (r, or_left (eq_by_cmp nat_cmp r r) _ (sym (unsigned_ties r r) ∙ same_number r), e ∙ sym (found_first n (f r) (from_all rs) t e) ∙ h)
      ] refl

  there : (n r s : ℕ) → ((q t : ℕ) → find nat_cmp n (f q) ≡ Some t → t ≡ s) → find nat_cmp n (f r) ≡ Some s
      → (rs : List ℕ) → list_any (eq_by_cmp nat_cmp r) rs ≡ true → find nat_cmp n (from_all rs) ≡ Some s
  there n r s one here rs among =
      let (t, found) = has_value_if_some (find nat_cmp n (from_all rs)) (found_among f n rs r among (ap is_some here)) in
      let (q, _, is) = somewhere n t rs found in
      found ∙ ap Some (one q t is)

-- ---- pairs of numbers and amounts

zip_found : (P : ℕ → Type 0) (ns ss : List ℕ) (n s : ℕ) → AllByRecursion P ns → find nat_cmp n (zip ns ss) ≡ Some s
    → P n
zip_found P [] ss n s h is = none_some s is
zip_found P (k ∷ ns) [] n s h is = none_some s is
zip_found P (k ∷ ns) (t ∷ ss) n s h is =
    elim (nat_cmp n k) as (λ o. nat_cmp n k ≡ o → cond (is_eq o) (Some t) (find nat_cmp n (zip ns ss)) ≡ Some s → P n) [
      | Less ↦ λ _. zip_found P ns ss n s h.1
      | Equal ↦ λ o _. subst P (sym (nat_cmp-IsAntisymmetric n k o)) h.0
      | Greater ↦ λ _. zip_found P ns ss n s h.1
    ] refl is

-- the numbers are strictly rising
abbrev pub IsRisen : List ℕ → Type 0
IsRisen ns = InOrder (λ (n k : ℕ). n < k) ns

zip_apart : (ns ss : List ℕ) → IsRisen ns → IsApart (zip ns ss)
zip_apart [] ss h = tt
zip_apart (n ∷ ns) [] h = tt
zip_apart (n ∷ ns) (s ∷ ss) h =
    (none_if_not_some _ (λ t is. let low = zip_found (λ k. n < k) ns ss n t h.0 is in absurd (omega (arith, low))), zip_apart ns ss h.1)

-- `g` maps the numbers `ns` to the amounts `ss`, if it has under each number the amount that is paired with it. The
-- numbers are distinct, and as many as the amounts.
zip_all : (g : ℕ → Option ℕ) (ns ss : List ℕ) → length ss ≡ length ns → IsApart (zip ns ss)
    → ((n s : ℕ) → find nat_cmp n (zip ns ss) ≡ Some s → g n ≡ Some s) → map g ns ≡ map Some ss
zip_all g [] [] l apart h = refl
zip_all g [] (s ∷ ss) l apart h = absurd (omega arith)
zip_all g (n ∷ ns) [] l apart h = absurd (omega arith)
zip_all g (n ∷ ns) (s ∷ ss) l apart h =
    let one : g n ≡ Some s = h n s (first (n, s) (zip ns ss)) in
    let rest : map g ns ≡ map Some ss = zip_all g ns ss (omega arith) apart.1 (λ k t is. h k t (found_tail (n, s) (zip ns ss) k t apart is)) in
    λ i. one i ∷ rest i

-- ---- lists of numbers

each_mapped : {X Y : Type 0} (f : X → Y) (P : Y → Type 0) (xs : List X) → AllByRecursion (λ x. P (f x)) xs
    → AllByRecursion P (map f xs)
each_mapped f P [] h = tt
each_mapped f P (x ∷ xs) h = (h.0, each_mapped f P xs h.1)

keys_risen : {V : Type 0} (es : List (ℕ × V)) → Rise es → IsRisen (map (λ e. e.0) es)
keys_risen [] h = tt
keys_risen (e ∷ es) h = (each_mapped (λ f. f.0) (λ k. e.0 < k) es h.0, keys_risen es h.1)

each_key : {V : Type 0} (P : ℕ → Type 0) (m : FinMap nat_cmp V) → ((n : ℕ) (v : V) → get m n ≡ Some v → P n)
    → AllByRecursion P (keys m)
each_key {V} P m h = by_entries (entries m) (each-from_every (λ n v. P n) m h)
  where
    by_entries : (es : List (ℕ × V)) → EachEntry (λ n v. P n) es → AllByRecursion P (map (λ e. e.0) es)
    by_entries [] all = tt
    by_entries (e ∷ es) all = (all.0, by_entries es all.1)

found_listed : (es : Entries) (n v : ℕ) → find nat_cmp n es ≡ Some v → IsListed n (map (λ e. e.0) es)
found_listed [] n v is = none_some v is
found_listed (e ∷ es) n v is = elim (cases_eq n e.0) [
  | inl same ↦ inl same
  | inr apart ↦ inr (found_listed es n v (sym (found_other e es n apart) ∙ is))
]

-- if each want is at most 999,999,999 (`AreWants`), so is each of their amounts
pub amounts_are_low : (wants : FinMap nat_cmp ℕ) → AreWants wants → All (λ want. want ≤ most_amount) (amounts_of wants)
amounts_are_low wants low =
    All-from_recursion (λ want. want ≤ most_amount) (amounts_of wants)
    (by_entries (entries wants) (each-from_every (λ n want. want ≤ most_amount) wants low))
  where
    by_entries : (es : Entries) → EachEntry (λ n want. want ≤ most_amount) es
        → AllByRecursion (λ want. want ≤ most_amount) (map (λ e. e.1) es)
    by_entries [] all = tt
    by_entries (e ∷ es) all = (all.0, by_entries es all.1)

-- ---- the wants for one pot

-- `asked_by` gives, by a unit's number, the pot that it asks for, if any; `wants` has by unit how much it wants of it
module _ (asked_by : ℕ → Option ℕ) (wants : FinMap nat_cmp ℕ) where
  -- the wants for a pot have a unit's want, if the unit asks for the pot, and else nothing
  pub want_at : (pot n : ℕ)
      → get (wants_for asked_by wants pot) n ≡ cond (asks_for pot (asked_by n)) (get wants n) None
  want_at pot n =
      get-retain_keys wants (λ k. asks_for pot (asked_by k)) n
      (λ k tie. ap (λ j. asks_for pot (asked_by j)) (sym (nat_cmp-IsAntisymmetric n k tie)))

  -- a unit with a want among those for a pot (`wants_for`) asks for the pot, and has the same want in `wants`
  pub asking : (pot n want : ℕ) → get (wants_for asked_by wants pot) n ≡ Some want
      → (asked_by n ≡ Some pot) × (get wants n ≡ Some want)
  asking pot n want is = by_pot (asked_by n) refl (sym (want_at pot n) ∙ is)
    where
      by_pot : (o : Option ℕ) → asked_by n ≡ o → cond (asks_for pot o) (get wants n) None ≡ Some want
          → (asked_by n ≡ Some pot) × (get wants n ≡ Some want)
      by_pot None at h = none_some want h
      by_pot (Some j) at h = by_test (j == pot) refl h
        where
          by_test : (b : Bool) → (j == pot) ≡ b → cond b (get wants n) None ≡ Some want
              → (asked_by n ≡ Some pot) × (get wants n ≡ Some want)
          by_test true same h = (at ∙ ap Some (eqb-true j pot same), h)
          by_test false same h = none_some want h

  wanted_of : (pot n want : ℕ) → asked_by n ≡ Some pot → get wants n ≡ Some want
      → get (wants_for asked_by wants pot) n ≡ Some want
  wanted_of pot n want at wanted =
      want_at pot n ∙ ap (λ o. cond (asks_for pot o) (get wants n) None) at
      ∙ ap (λ b. cond b (get wants n) None) (same_number pot)
      ∙ wanted

-- ---- units with a want

-- `wants` has by unit how much it wants; `units` has in which region each unit is
module _ (wants : FinMap nat_cmp ℕ) (units : FinMap nat_cmp Unit) where
  -- a unit, by its number, is in region `r` and has a want
  abbrev pub IsTaker : ℕ → ℕ → Type 0
  IsTaker r n = ((u : Unit) × (get units n ≡ Some u) × (u.region ≡ r)) × HasValue wants n

  is_taker : (r n want : ℕ) → get (wants_at wants units r) n ≡ Some want → IsTaker r n
  is_taker r n want is =
      let (at, wanted) = asking (region_of_unit units) wants r n want is in
      (by_unit (get units n) refl at, (want, wanted))
    where
      by_unit : (o : Option Unit) → get units n ≡ o → option_map (λ u. u.region) o ≡ Some r
          → (u : Unit) × (get units n ≡ Some u) × (u.region ≡ r)
      by_unit None is at = none_some r at
      by_unit (Some u) is at = (u, is, same_Some _ _ at)

  takers_each : (r : ℕ) → AllByRecursion (IsTaker r) (takers_in wants units r)
  takers_each r = each_key (IsTaker r) (wants_at wants units r) (is_taker r)

  -- the units of region `r` that have a want are listed by rising numbers
  pub takers_risen : (r : ℕ) → IsRisen (takers_in wants units r)
  takers_risen r = keys_risen (entries (wants_at wants units r)) (entries_rise (wants_at wants units r))

  -- a unit's want is among the wants of the region that the unit is in (`wants_at`)
  pub taker_wants : (n want : ℕ) (u : Unit) → get wants n ≡ Some want → get units n ≡ Some u
      → get (wants_at wants units u.region) n ≡ Some want
  taker_wants n want u wanted is =
      wanted_of (region_of_unit units) wants u.region n want (ap (option_map (λ (v : Unit). v.region)) is) wanted

  -- a unit that has a want is listed among the takers of its region
  pub taker_listed : (n want : ℕ) (u : Unit) → get wants n ≡ Some want → get units n ≡ Some u
      → IsListed n (takers_in wants units u.region)
  taker_listed n want u wanted is =
      let claims = wants_at wants units u.region in
      found_listed (entries claims) n want (sym (get-entries claims n) ∙ taker_wants n want u wanted is)

-- ---- shares of all regions

-- `pot_of` gives the pot of a region by its number; `wants` has by unit how much it wants of its region's pot
module _ (pot_of : ℕ → ℕ) (wants : FinMap nat_cmp ℕ) (units : FinMap nat_cmp Unit) where
  -- the units of region `r` that have a want, each with its share of the region's pot
  abbrev given_in : ℕ → Entries
  given_in r = shares_in pot_of wants units r

  -- a unit with a share in region `r` is in the region and has a want
  pub given_takes : (r n s : ℕ) → find nat_cmp n (given_in r) ≡ Some s → IsTaker wants units r n
  given_takes r n s is =
      zip_found (IsTaker wants units r) (takers_in wants units r) (shares (pot_of r) (wants_in wants units r)) n s
      (takers_each wants units r) is

  -- no unit has two shares in region `r`
  pub given_apart : (r : ℕ) → IsApart (given_in r)
  given_apart r =
      zip_apart (takers_in wants units r) (shares (pot_of r) (wants_in wants units r)) (takers_risen wants units r)

  -- if a unit has a share in region `q` and one in region `r`, the shares are equal, since a unit is in one region
  gives_one : (n q r s t : ℕ) → find nat_cmp n (given_in q) ≡ Some s → find nat_cmp n (given_in r) ≡ Some t → s ≡ t
  gives_one n q r s t is also =
      let ((u, at, here), _) = given_takes q n s is in
      let ((v, at_too, here_too), _) = given_takes r n t also in
      let unit : u ≡ v = cc in
      let region : q ≡ r = sym here ∙ ap (λ (w : Unit). w.region) unit ∙ here_too in
      let share : Some s ≡ Some t = sym is ∙ ap (λ k. find nat_cmp n (given_in k)) region ∙ also in
      cc

-- `pot_of` gives the pot of a region by its number; `wants` has by unit how much it wants of its region's pot
module _ (pot_of : ℕ → ℕ) (wants : FinMap nat_cmp ℕ) (c : CampaignValue) where
  -- the share of a unit (`share_of`) is the one found under its number among the shares of all regions
  pub found_is : (n : ℕ)
      → share_of pot_of wants c n ≡ find nat_cmp n (flat_map (shares_in pot_of wants c.units) (keys c.regions))
  unfolding pot_shares
  found_is n = get-from_entries nat_cmp_total (flat_map (shares_in pot_of wants c.units) (keys c.regions)) n

  -- a unit's share in a region of the campaign is its share among those of all regions (`share_of`)
  pub given_is : (r n s : ℕ) → HasValue c.regions r → find nat_cmp n (shares_in pot_of wants c.units r) ≡ Some s
      → share_of pot_of wants c n ≡ Some s
  given_is r n s (q, is) found =
      found_is n
      ∙ there (shares_in pot_of wants c.units) n r s (λ k t also. gives_one pot_of wants c.units n k r t s also found) found (keys c.regions) (sym (contains_key-keys c.regions r) ∙ ap is_some is)

  -- each share listed for a region of the campaign is its unit's share among those of all regions (`share_of`)
  pub region_agrees : (r : ℕ) → HasValue c.regions r
      → AllByRecursion (λ e. share_of pot_of wants c e.0 ≡ Some e.1) (shares_in pot_of wants c.units r)
  region_agrees r region =
      each_found (λ e. share_of pot_of wants c e.0 ≡ Some e.1) (shares_in pot_of wants c.units r)
      (given_apart pot_of wants c.units r) (λ n s is. given_is r n s region is)

-- ---- the laws of `pot_shares`

-- in a region of the campaign, the units that have a want get the shares of its pot by their wants, by rising number
pub shares_each_pot : SharesEachPot
shares_each_pot pot_of wants c r region =
    let takers = takers_in wants c.units r in
    let given = shares (pot_of r) (wants_in wants c.units r) in
    let claims : Entries = entries (wants_at wants c.units r) in
    let long : length given ≡ length takers = length-shares (pot_of r) (wants_in wants c.units r) ∙ length-map claims (λ e. e.1) ∙ sym (length-map claims (λ e. e.0)) in
    zip_all (share_of pot_of wants c) takers given long (given_apart pot_of wants c.units r) (λ n s is. given_is pot_of wants c r n s region is)

each_has_share_within_want : (g : ℕ → Option ℕ) (es : Entries) (ss : List ℕ) → map g (map (λ e. e.0) es) ≡ map Some ss
    → ((i : ℕ) → get_or ss i 0 ≤ get_or (map (λ e. e.1) es) i 0)
    → EachEntry (λ n want. (share : ℕ) × (g n ≡ Some share) × (share ≤ want)) es
each_has_share_within_want g [] ss same low = tt
each_has_share_within_want g (e ∷ es) [] same low = cc
each_has_share_within_want g (e ∷ es) (s ∷ ss) same low =
    ((s, (cc), low 0), each_has_share_within_want g es ss (cc) (λ i. low (suc i)))

-- each unit with a want that is in a region of the campaign gets a share, of at most its want
pub each_taker_gets : EachTakerGets
each_taker_gets pot_of wants c n want u wanted is region =
    let claims = wants_at wants c.units u.region in
    let given = shares (pot_of u.region) (wants_in wants c.units u.region) in
    every-from_each (λ k w. (share : ℕ) × (share_of pot_of wants c k ≡ Some share) × (share ≤ w)) claims
    (each_has_share_within_want (share_of pot_of wants c) (entries claims) given (shares_each_pot pot_of wants c u.region region) (share_at_most (pot_of u.region) (wants_in wants c.units u.region)))
    n want (taker_wants wants c.units n want u wanted is)

-- a unit with a share wants at least that much, and is in a region of the campaign
pub only_takers_get : OnlyTakersGet
only_takers_get pot_of wants c n s is =
    let (r, region, given) = somewhere (shares_in pot_of wants c.units) n s (keys c.regions) (sym (found_is pot_of wants c n) ∙ is) in
    let ((u, at, here), (want, wanted)) = given_takes pot_of wants c.units r n s given in
    let is_at : HasValue c.regions u.region = subst (HasValue c.regions) (sym here) (has_value_if_some (get c.regions r) (contains_key-keys c.regions r ∙ region)) in
    let (t, also, low) = each_taker_gets pot_of wants c n want u wanted at is_at in
    let same : t ≡ s = cc in
    (want, u, wanted, subst (λ k. k ≤ want) same low, at, is_at)

-- a unit with a share of a pot has a want, and the share is at most its want
pub pots_give : (pot_of : ℕ → ℕ) (c : CampaignValue) (wants : FinMap nat_cmp ℕ) (n share : ℕ)
    → get (pot_shares pot_of wants c) n ≡ Some share → (want : ℕ) × (get wants n ≡ Some want) × (share ≤ want)
pots_give pot_of c wants n share is = let (want, u, wanted, low, at, region) = only_takers_get pot_of wants c n share is in (want, wanted, low)

mapped_with_default : (g : ℕ → Option ℕ) (ns ss : List ℕ) → map g ns ≡ map Some ss
    → map (λ n. unwrap_or (g n) 0) ns ≡ ss
mapped_with_default g ns ss h = mapped ns ∙ ap (map (λ o. unwrap_or o 0)) h ∙ back ss
  where
    mapped : (ns : List ℕ) → map (λ n. unwrap_or (g n) 0) ns ≡ map (λ o. unwrap_or o 0) (map g ns)
    mapped [] = refl
    mapped (n ∷ ns) = ap (λ l. unwrap_or (g n) 0 ∷ l) (mapped ns)

    back : (ss : List ℕ) → map (λ o. unwrap_or o 0) (map Some ss) ≡ ss
    back [] = refl
    back (s ∷ ss) = ap (λ l. s ∷ l) (back ss)

-- the units of a region of the campaign together get its whole pot, or all that they want where that is less
pub gives_each_pot : GivesEachPot
gives_each_pot pot_of wants c r region =
    ap sum (mapped_with_default (share_of pot_of wants c) (takers_in wants c.units r) (shares (pot_of r) (wants_in wants c.units r)) (shares_each_pot pot_of wants c r region))
    ∙ all_is_given (pot_of r) (wants_in wants c.units r)

-- where two campaigns have a region with the same pot, the same units with a want and the same wants, the shares there
-- are equal
pub other_regions_do_not_count : OtherRegionsDoNotCount
other_regions_do_not_count pot_of other_pots wants other_wants c other r here there pots takers wanted =
    shares_each_pot pot_of wants c r here
    ∙ ap (map Some) (ap (λ p. shares p (wants_in wants c.units r)) pots ∙ ap (shares (other_pots r)) wanted)
    ∙ sym (shares_each_pot other_pots other_wants other r there)
    ∙ ap (map (share_of other_pots other_wants other)) (sym takers)
