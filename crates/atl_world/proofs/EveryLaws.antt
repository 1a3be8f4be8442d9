-- Laws of what holds of each value of a map (`Every`) or entry of a list (`EachEntry`), and of which numbers have a
-- value (`HasValue`). They say so after an insertion, by the list of a map's entries, and with a function applied to
-- each value. P is the condition on a number and its value. m is the map, v the value put in under the number k, and n
-- any number. `es` are entries, each a number with its value, and e is the first of them.
use Rattle.std.proofs.Common.{◌≡◌, ◌≢◌, ◌==◌, ◌↔◌, ℕ, zero, suc, ◌<◌, Bool, true, false, cond, List, [], ◌∷◌, length, get_or, map, filter, Option, Some, None, option_map, refl, sym, ap, ◌∙◌, subst, arith}
use Rattle.std.specs.declared.cmp.Ordering.TheVariants.{Less, Equal, Greater}
use Rattle.std.specs.List.{list_any}
use Rattle.std.specs.Ordering.{nat_cmp, is_eq, is_lt}
use Rattle.std.specs.Cmp.{nat_cmp_total, ranked}
use Rattle.std.specs.FinMap.{FinMap, get, insert, find, entries, entries_sorted, is_sorted, get-entries, get-insert, get-empty, empty, nat_cmp-IsAntisymmetric}
use Rattle.std.specs.FinMap.Entries.{below_all}
use Rattle.std.proofs.lemmas.Bool.{and_parts, false≢true, or_parts}
use Rattle.atl_world.specs.Sums.{numbers_where, map_values}
use Rattle.atl_world.proofs.MappedLaws.{get-mapped}
use Rattle.atl_world.proofs.SumLaws.{chosen-cons}
use Rattle.atl_world.proofs.GeneralLaws.{is_true}
use Rattle.atl_world.specs.Every.{EachEntry, Every, HasValue}
use Rattle.std.proofs.lemmas.Bool.Decides.{nat_tests}

-- None is never Some x: from their equality anything follows
pub none_some : {A P : Type 0} (x : A) → None ≡ Some x → P
none_some x e = cc

-- ---- a value put in

module _ {V : Type 0} where
  pub every-empty : (P : ℕ → V → Type 0) → Every P (empty {X = V} {R = nat_cmp})
  every-empty P n v is = none_some v (sym (get-empty nat_cmp n) ∙ is)

  pub every-insert : (P : ℕ → V → Type 0) (m : FinMap nat_cmp V) (k : ℕ) (v : V) → P k v → Every P m
      → Every P (insert m k v)
  every-insert P m k v here old n x is =
      elim (nat_cmp n k) as (λ o. nat_cmp n k ≡ o → cond (is_eq o) (Some v) (get m n) ≡ Some x → P n x) [
        | Less ↦ λ _. old n x
        | Equal ↦ λ e same. let at : n ≡ k = nat_cmp-IsAntisymmetric n k e in let one : v ≡ x = cc in rw (at, ← one) here
        | Greater ↦ λ _. old n x
      ] refl (sym (get-insert nat_cmp_total m k v n) ∙ is)

  -- what a map has under n once v is put in under k: v where n is k, else what it had
  abbrev at_or : FinMap nat_cmp V → ℕ → V → ℕ → Option V
  at_or m k v n = cond (is_eq (nat_cmp n k)) (Some v) (get m n)

  there_by : (m : FinMap nat_cmp V) (k n : ℕ) (v : V) → (x : V) × (at_or m k v n ≡ Some x) → HasValue (insert m k v) n
  there_by m k n v (x, is) = (x, get-insert nat_cmp_total m k v n ∙ is)

  pub there-new : (m : FinMap nat_cmp V) (k : ℕ) (v : V) → HasValue (insert m k v) k
  there-new m k v =
      there_by m k k v (elim (nat_cmp k k) as (λ o. nat_cmp k k ≡ o → (x : V) × (cond (is_eq o) (Some v) (get m k) ≡ Some x)) [
        | Less ↦ λ e. let l = ranked k k Less (sym e) in absurd (omega arith)
        | Equal ↦ λ _. (v, refl)
        | Greater ↦ λ e. let l = ranked k k Greater (sym e) in absurd (omega arith)
      ] refl)

  pub there-insert : (m : FinMap nat_cmp V) (k n : ℕ) (v : V) → HasValue m n → HasValue (insert m k v) n
  there-insert m k n v (x, is) =
      there_by m k n v (elim (nat_cmp n k) as (λ o. (y : V) × (cond (is_eq o) (Some v) (get m n) ≡ Some y)) [ Less ↦ (x, is) | Equal ↦ (v, refl) | Greater ↦ (x, is) ])

  pub get-insert_other : (m : FinMap nat_cmp V) (k n : ℕ) (v : V) → n ≢ k → get (insert m k v) n ≡ get m n
  get-insert_other m k n v apart =
      get-insert nat_cmp_total m k v n
      ∙ elim (nat_cmp n k) as (λ o. nat_cmp n k ≡ o → cond (is_eq o) (Some v) (get m n) ≡ get m n) [
        | Less ↦ λ _. refl
        | Equal ↦ λ o. absurd (apart (nat_cmp-IsAntisymmetric n k o))
        | Greater ↦ λ _. refl
      ] refl

  -- ---- the entries of a map

  -- a number that is less than all numbers of the entries has no value among them
  pub not_below : (k : ℕ) (es : List (ℕ × V)) → below_all nat_cmp k es ≡ true → find nat_cmp k es ≡ None
  not_below k [] h = refl
  not_below k (e ∷ es) h =
      elim (nat_cmp k e.0) as (λ o. is_lt o ≡ true → cond (is_eq o) (Some e.1) (find nat_cmp k es) ≡ None) [
        | Less ↦ λ _. not_below k es (and_parts _ _ h).1
        | Equal ↦ λ g. absurd (false≢true g)
        | Greater ↦ λ g. absurd (false≢true g)
      ] (and_parts _ _ h).0

  -- if entries without their first one, e, have v under n, they have v under n with e in front too, if they are sorted
  pub later : (e : ℕ × V) (es : List (ℕ × V)) (n : ℕ) (v : V) → is_sorted nat_cmp (e ∷ es) ≡ true
      → find nat_cmp n es ≡ Some v → find nat_cmp n (e ∷ es) ≡ Some v
  later e es n v s is =
      elim (nat_cmp n e.0) as (λ o. nat_cmp n e.0 ≡ o → cond (is_eq o) (Some e.1) (find nat_cmp n es) ≡ Some v) [
        | Less ↦ λ _. is
        | Equal ↦ λ o. none_some v (sym (not_below e.0 es (and_parts _ _ s).0) ∙ ap (λ k. find nat_cmp k es) (sym (nat_cmp-IsAntisymmetric n e.0 o)) ∙ is)
        | Greater ↦ λ _. is
      ] refl

  pub first : (e : ℕ × V) (es : List (ℕ × V)) → find nat_cmp e.0 (e ∷ es) ≡ Some e.1
  first e es =
      elim (nat_cmp e.0 e.0) as (λ o. nat_cmp e.0 e.0 ≡ o → cond (is_eq o) (Some e.1) (find nat_cmp e.0 es) ≡ Some e.1) [
        | Less ↦ λ o. let l = ranked e.0 e.0 Less (sym o) in absurd (omega arith)
        | Equal ↦ λ _. refl
        | Greater ↦ λ o. let l = ranked e.0 e.0 Greater (sym o) in absurd (omega arith)
      ] refl

  -- a condition that holds of each entry holds of what a look-up finds among the entries
  pub found_of : (P : ℕ → V → Type 0) (es : List (ℕ × V)) (n : ℕ) (v : V) → EachEntry P es → find nat_cmp n es ≡ Some v
      → P n v
  found_of P [] n v h is = none_some v is
  found_of P (e ∷ es) n v h is =
      elim (nat_cmp n e.0) as (λ o. nat_cmp n e.0 ≡ o → cond (is_eq o) (Some e.1) (find nat_cmp n es) ≡ Some v → P n v) [
        | Less ↦ λ _. found_of P es n v h.1
        | Equal ↦ λ o same. let at : n ≡ e.0 = nat_cmp-IsAntisymmetric n e.0 o in let one : e.1 ≡ v = cc in rw (at, ← one) h.0
        | Greater ↦ λ _. found_of P es n v h.1
      ] refl is

  -- a condition that holds of all that look-ups find among sorted entries holds of each entry
  pub each_of : (P : ℕ → V → Type 0) (es : List (ℕ × V)) → is_sorted nat_cmp es ≡ true
      → ((n : ℕ) (v : V) → find nat_cmp n es ≡ Some v → P n v) → EachEntry P es
  each_of P [] s h = tt
  each_of P (e ∷ es) s h =
      (h e.0 e.1 (first e es), each_of P es (and_parts _ _ s).1 (λ n v is. h n v (later e es n v s is)))

  pub sorted : (m : FinMap nat_cmp V) → is_sorted nat_cmp (entries m) ≡ true
  sorted m = is_true _ (entries_sorted m)

  pub every-from_each : (P : ℕ → V → Type 0) (m : FinMap nat_cmp V) → EachEntry P (entries m) → Every P m
  every-from_each P m h n v is = found_of P (entries m) n v h (sym (get-entries m n) ∙ is)

  pub each-from_every : (P : ℕ → V → Type 0) (m : FinMap nat_cmp V) → Every P m → EachEntry P (entries m)
  each-from_every P m h = each_of P (entries m) (sorted m) (λ n v is. h n v (get-entries m n ∙ is))

  fails : (p : V → Bool) (es : List (ℕ × V)) (n : ℕ) (v : V) → list_any (λ e. p e.1) es ≡ false
      → find nat_cmp n es ≡ Some v → p v ≡ false
  fails p [] n v h is = none_some v is
  fails p (e ∷ es) n v h is =
      let apart = or_parts (p e.1) (list_any (λ e. p e.1) es) h in
      elim (nat_cmp n e.0) as (λ o. cond (is_eq o) (Some e.1) (find nat_cmp n es) ≡ Some v → p v ≡ false) [
        | Less ↦ fails p es n v apart.1
        | Equal ↦ λ same. let one : e.1 ≡ v = cc in rw (← one) apart.0
        | Greater ↦ fails p es n v apart.1
      ] is

  -- if the value of no entry passes the test p, each value of the map fails it
  pub every-from_none : (p : V → Bool) (m : FinMap nat_cmp V) → list_any (λ e. p e.1) (entries m) ≡ false
      → Every (λ n v. p v ≡ false) m
  every-from_none p m h n v is = fails p (entries m) n v h (sym (get-entries m n) ∙ is)

  -- ---- the numbers whose values pass a test

  -- p is the test that a value passes, and d what a look-up in a list gives beyond its end
  module _ (p : V → Bool) where
    -- the numbers of the entries of a list whose values pass the test p, in the order of the list
    abbrev chosen : List (ℕ × V) → List ℕ
    chosen es = map (λ e. e.0) (filter (λ e. p e.1) es)

    abbrev Passing : List (ℕ × V) → ℕ → Type 0
    Passing es n = (v : V) × (find nat_cmp n es ≡ Some v) × (p v ≡ true)

    after : (e : ℕ × V) (es : List (ℕ × V)) (n : ℕ) → is_sorted nat_cmp (e ∷ es) ≡ true → Passing es n
        → Passing (e ∷ es) n
    after e es n s (v, is, h) = (v, later e es n v s is, h)

    -- if each number chosen from the list without its first entry e has a value that passes the test p, so has each
    -- number chosen from the whole sorted list (b says whether e passes)
    listed_in : (b : Bool) (e : ℕ × V) (es : List (ℕ × V)) → p e.1 ≡ b → is_sorted nat_cmp (e ∷ es) ≡ true → (d : ℕ)
        → ((i : ℕ) → i < length (chosen es) → Passing es (get_or (chosen es) i d))
        → (i : ℕ) → i < length (cond b (e.0 ∷ chosen es) (chosen es))
        → Passing (e ∷ es) (get_or (cond b (e.0 ∷ chosen es) (chosen es)) i d)
    listed_in true e es t s d rest zero h = (e.1, first e es, t)
    listed_in true e es t s d rest (suc i) h = after e es (get_or (chosen es) i d) s (rest i (omega arith))
    listed_in false e es t s d rest i h = after e es (get_or (chosen es) i d) s (rest i h)

    listed : (es : List (ℕ × V)) → is_sorted nat_cmp es ≡ true → (d i : ℕ) → i < length (chosen es)
        → Passing es (get_or (chosen es) i d)
    listed [] s d i h = absurd (omega arith)
    listed (e ∷ es) s d i h =
        subst (λ (ns : List ℕ). i < length ns → Passing (e ∷ es) (get_or ns i d)) (sym (chosen-cons p e es))
        (listed_in (p e.1) e es refl s d (listed es (and_parts _ _ s).1 d) i) h

    -- the number at an index i of the list that `numbers_where` gives has a value in the map, which passes the test p
    pub passes-listed : (m : FinMap nat_cmp V) (i d : ℕ) → i < length (numbers_where p m)
        → (v : V) × (get m (get_or (numbers_where p m) i d) ≡ Some v) × (p v ≡ true)
    passes-listed m i d h = let (v, is, t) = listed (entries m) (sorted m) d i h in (v, get-entries m (get_or (numbers_where p m) i d) ∙ is, t)

-- ---- a map with f at each value

-- f maps the values of a map; the numbers stay
module _ {V W : Type 0} (f : V → W) where
  under : (o : Option V) (x : W) → option_map f o ≡ Some x → (v : V) × (o ≡ Some v) × (f v ≡ x)
  under None x is = none_some x is
  under (Some v) x is = let same : f v ≡ x = cc in (v, refl, same)

  pub every-mapped : (P : ℕ → W → Type 0) (m : FinMap nat_cmp V) → Every (λ n v. P n (f v)) m → Every P (map_values f m)
  every-mapped P m h n x is = let (v, there, same) = under (get m n) x (sym (get-mapped f m n) ∙ is) in subst (P n) same (h n v there)

  pub there-mapped : (m : FinMap nat_cmp V) (n : ℕ) → HasValue (map_values f m) n ↔ HasValue m n
  there-mapped m n = (back, forth)
    where
      back : HasValue (map_values f m) n → HasValue m n
      back (x, is) = let (v, there, same) = under (get m n) x (sym (get-mapped f m n) ∙ is) in (v, there)

      forth : HasValue m n → HasValue (map_values f m) n
      forth (v, is) = (f v, get-mapped f m n ∙ ap (option_map f) is)

pub same_number : (a : ℕ) → (a == a) ≡ true
same_number a = grind (arith, nat_tests)

pub other_number : (a b : ℕ) → a ≢ b → (a == b) ≡ false
other_number a b ne = grind (arith, nat_tests)
