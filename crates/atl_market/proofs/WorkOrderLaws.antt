-- Laws of the orders of WORK: no two have the same key, so the code's sorted list is the one that is defined. `os` or
-- `ts` are the month-long orders of the mailings, and the writers are the units for which their own faction wrote one
-- of them. The code adds an order of WORK for each unit with men that isn't a writer.
use Rattle.std.proofs.Common.{◌≡◌, ℕ, ◌≢◌, ◌==◌, ◌<◌, ◌&&◌, ◌||◌, ◌++◌, not, Bool, true, false, cond, List, [], ◌∷◌, map, filter, get_or, is_some, Some, refl, sym, ap, subst, ◌∙◌, inl, inr, arith, IsPermutation, flat_map}
use Rattle.std.specs.Prelude.{nat_lt}
use Rattle.std.specs.declared.cmp.Ordering.{Ordering}
use Rattle.std.specs.declared.cmp.Ordering.TheVariants.{Less, Equal, Greater}
use Rattle.std.specs.Ordering.{nat_cmp, eq_by_cmp, is_eq, is_lt}
use Rattle.std.specs.Cmp.{IsTotalOrder, Equal-is, nat_cmp_total}
use Rattle.std.specs.Cmp.Lexicographic.{slice_cmp, nat_list_cmp_total}
use Rattle.std.specs.List.{AllByRecursion, IsDistinct}
use Rattle.std.specs.List.Sorted.{IsSortedByKey}
use Rattle.std.specs.FinMap.{FinMap, IsAntisymmetric, empty, entries, entries-insert, entries_sorted, from_entries, get, get-empty, get-insert, insert, is_sorted, put, values, slice_cmp-IsAntisymmetric, nat_cmp-IsAntisymmetric}
use Rattle.std.specs.FinMap.Entries.{below_all, by_order}
use Rattle.std.proofs.lemmas.Bool.{and_parts, cases_eq, false_from_ne_true, false≢true, not-true, eq-eqb}
use Rattle.atl_world.proofs.GeneralLaws.{equality_is_symmetric, is_true, each_follows}
use Rattle.atl_world.specs.Every.{EachEntry}
use Rattle.atl_campaign.specs.Campaign.{CampaignValue}
use Rattle.atl_records.specs.declared.records.Unit.{Unit}
use Rattle.atl_campaign.proofs.ReadBackLaws.{append_apart, entries_rise, flat_apart}
use Rattle.atl_campaign.proofs.GroupLaws.{filter_apart, filter_each}
use Rattle.atl_world.proofs.EveryLaws.{each-from_every, get-insert_other, other_number, same_number}
use Rattle.atl_records.proofs.AmountListLaws.{all_append}
use Rattle.atl_campaign.proofs.RegionLaws.{get-insert_same}
use Rattle.atl_phase.specs.Month.{MonthValue}
use Rattle.atl_phase.specs.PhaseOrders.{Task, is_month_long, key_of, orders_by_unit, task_of, sorted_by}
use Rattle.atl_phase.specs.declared.phase_order.Arrangement.TheVariants.{ByUnit}
use Rattle.atl_phase.specs.declared.phase_order.PhaseOrder.{PhaseOrder}
use Rattle.atl_phase.proofs.MappedLaws.{no_entries}
use Rattle.atl_phase.proofs.OrderKeyLaws.{listed_tasks}
use Rattle.atl_phase.specs.OrderEffects.{is_of_faction}
use Rattle.atl_pots.specs.Puts.{with_entries}
use Rattle.atl_market.specs.Idle.{all_idle_orders, all_work, idle_order, own_unit, own_writers}
use Rattle.atl_market.specs.Unordered.{has_own_order}
use Rattle.atl_market.specs.Work.{idle_task, idle_work, is_idle, is_work, work_orders, written_work}
use Rattle.atl_market.proofs.WantLaws.{appended_entries}
use mathlib.Core.Bool.{or-false}

-- ---- numbers that stay in a map

still_in_after_insert : (m : FinMap nat_cmp ℕ) (k v n : ℕ) → is_some (get m n) ≡ true
    → is_some (get (insert m k v) n) ≡ true
still_in_after_insert m k v n h =
    ap is_some (get-insert nat_cmp_total m k v n)
    ∙ elim (is_eq (nat_cmp n k)) as (λ b. is_some (cond b (Some v) (get m n)) ≡ true) [ true ↦ refl | false ↦ h ]

inserted_is_in : (m : FinMap nat_cmp ℕ) (n v : ℕ) → is_some (get (insert m n v) n) ≡ true
inserted_is_in m n v = ap is_some (get-insert_same m n v)

still_in_after_entries : (m : FinMap nat_cmp ℕ) (es : List (ℕ × ℕ)) (n : ℕ) → is_some (get m n) ≡ true
    → is_some (get (with_entries m es) n) ≡ true
still_in_after_entries m [] n h = h
still_in_after_entries m (e ∷ es) n h =
    still_in_after_entries (insert m e.0 e.1) es n (still_in_after_insert m e.0 e.1 n h)

-- ---- values that a map lists, each under its own key, differ in their keys

-- `R` compares keys, and finds only equal ones equal (`exact`); `key` gives the key of a value
module _ {K X : Type 0} (R : K → K → Ordering) (exact : IsAntisymmetric R) (key : X → K) where
  abbrev AreKeyed : List (K × X) → Type 0
  AreKeyed = AllByRecursion (λ e. e.0 ≡ key e.1)

  keyed-put : (x : X) (es : List (K × X)) → AreKeyed es → AreKeyed (put R (key x) x es)
  keyed-put x [] all = (refl, tt)
  keyed-put x (e ∷ es) all =
      elim (R (key x) e.0) as (λ r. R (key x) e.0 ≡ r → AreKeyed (by_order r ((key x, x) ∷ e ∷ es) ((e.0, x) ∷ es) (e ∷ put R (key x) x es))) [
        | Less ↦ λ _. (refl, all)
        | Equal ↦ λ o. (sym (exact (key x) e.0 o), all.1)
        | Greater ↦ λ _. (all.0, keyed-put x es all.1)
      ] refl

  keyed-listed : IsTotalOrder R → (xs : List X) → AreKeyed (entries (from_entries {R = R} (map (λ x. (key x, x)) xs)))
  keyed-listed o [] = subst AreKeyed (sym (no_entries R)) tt
  keyed-listed o (x ∷ xs) =
      subst AreKeyed (sym (entries-insert o (from_entries (map (λ x. (key x, x)) xs)) (key x) x)) (keyed-put x (entries (from_entries (map (λ x. (key x, x)) xs))) (keyed-listed o xs))

  apart_of : (o : Ordering) → is_lt o ≡ true → is_eq o ≡ false
  apart_of Less h = refl
  apart_of Equal h = absurd (false≢true h)
  apart_of Greater h = refl

  others : (x : X) (k : K) (es : List (K × X)) → k ≡ key x → below_all R k es ≡ true → AreKeyed es
      → AllByRecursion (λ y. eq_by_cmp R (key x) (key y) ≡ false) (map (λ e. e.1) es)
  others x k [] is low all = tt
  others x k (e ∷ es) is low all =
      let parts = and_parts _ _ low in
      (ap is_eq (λ i. R (sym is i) (sym all.0 i)) ∙ apart_of (R k e.0) parts.0, others x k es is parts.1 all.1)

  listed_apart : (es : List (K × X)) → is_sorted R es ≡ true → AreKeyed es
      → IsDistinct (λ x y. eq_by_cmp R (key x) (key y)) (map (λ e. e.1) es)
  unfolding IsDistinct
  listed_apart [] up all = tt
  listed_apart (e ∷ es) up all = let parts = and_parts _ _ up in (others e.1 e.0 es all.0 parts.0 all.1, listed_apart es parts.1 all.1)

  -- no two values of the map of some values, each put in under its key, have the same key
  values_apart : IsTotalOrder R → (xs : List X)
      → IsDistinct (λ x y. eq_by_cmp R (key x) (key y)) (values (from_entries {R = R} (map (λ x. (key x, x)) xs)))
  values_apart o xs = let m = from_entries {R = R} (map (λ x. (key x, x)) xs) in listed_apart (entries m) (is_true _ (entries_sorted m)) (keyed-listed o xs)

-- ---- keys that differ

abbrev work_key : Task → List ℕ
work_key = key_of ByUnit

-- whether two orders have the same key: unit, line, faction and index in the mailing
abbrev pub have_same_key : Task → Task → Bool
have_same_key a b = eq_by_cmp (slice_cmp nat_cmp) (work_key a) (work_key b)

keys_tie : (a b : Task) → have_same_key a b ≡ true → work_key a ≡ work_key b
keys_tie a b h =
    slice_cmp-IsAntisymmetric nat_cmp-IsAntisymmetric (work_key a) (work_key b)
    ((Equal-is (slice_cmp nat_cmp (work_key a) (work_key b))).0 h)

other_orders_differ_in_key : (a b : Task) → (a.unit ≡ b.unit → a.faction ≡ b.faction → ⊥) → have_same_key a b ≡ false
other_orders_differ_in_key a b differ =
    false_from_ne_true (have_same_key a b)
    (λ h. let e = keys_tie a b h in differ (ap (λ k. get_or k 0 0) e) (ap (λ k. get_or k 2 0) e))

-- no two of a month's month-long orders that count have the same key
pub month_long_keys_differ : (m : MonthValue) → IsDistinct have_same_key (orders_by_unit is_month_long m)
month_long_keys_differ m =
    values_apart (slice_cmp nat_cmp) (slice_cmp-IsAntisymmetric nat_cmp-IsAntisymmetric) (key_of ByUnit)
    nat_list_cmp_total _

-- ---- the units that have an order of their own faction

module _ (c : CampaignValue) where
  abbrev IsAmongWriters : FinMap nat_cmp ℕ → Task → Type 0
  IsAmongWriters writers o = is_of_faction o.faction (get c.units o.unit) ≡ true → is_some (get writers o.unit) ≡ true

  own_is_listed : (m : FinMap nat_cmp ℕ) (os : List Task)
      → AllByRecursion (IsAmongWriters (with_entries m (flat_map (own_unit c) os))) os
  own_is_listed m [] = tt
  own_is_listed m (o ∷ os) =
      let rest = flat_map (own_unit c) os in
      let both = appended_entries m (own_unit c o) rest in (
        (λ own. ap (λ writers. is_some (get writers o.unit)) both ∙ still_in_after_entries (with_entries m (own_unit c o)) rest o.unit (ap (λ b. is_some (get (with_entries m (cond b ((o.unit, o.faction) ∷ []) [])) o.unit)) own ∙ inserted_is_in m o.unit o.faction)),
        subst (λ writers. AllByRecursion (IsAmongWriters writers) os) (sym both) (own_is_listed (with_entries m (own_unit c o)) os),
      )

  -- ---- the work of units without an order

  -- `os` are written orders; the writers are the units for which their own faction wrote one of them
  module _ (os : List Task) where
    abbrev writers : FinMap nat_cmp ℕ
    writers = own_writers c os

    -- the unit of an order is there, isn't in the map of writers, and is of the faction that the order is from
    pub record IsIdle (o : Task) : Type 0 where
      pub unit : Unit
      pub there : get c.units o.unit ≡ Some unit
      pub own : o.faction ≡ unit.faction
      pub unordered : is_some (get writers o.unit) ≡ false

    -- the order of WORK that the code adds for unit n, if it adds one, is `IsIdle`: n is there, the order is of n's own
    -- faction, and that faction wrote none of `os` for n
    idle_if : (n : ℕ) (u : Unit) (b : Bool) → (nat_lt 0 u.holding.men && not (is_some (get writers n))) ≡ b
        → get c.units n ≡ Some u → AllByRecursion IsIdle (cond b (idle_task n u.faction ∷ []) [])
    idle_if n u true is there =
        (record { unit = u; there = there; own = refl; unordered = not-true _ (and_parts _ _ is).1 }, tt)
    idle_if n u false is there = tt

    idle_each : (es : List (ℕ × Unit)) → EachEntry (λ n u. get c.units n ≡ Some u) es
        → AllByRecursion IsIdle (flat_map (idle_order writers) es)
    idle_each [] h = tt
    idle_each ((n, u) ∷ es) h =
        all_append IsIdle (idle_order writers (n, u)) (flat_map (idle_order writers) es) (idle_if n u _ refl h.0)
        (idle_each es h.1)

    each_idle : AllByRecursion IsIdle (all_idle_orders c os)
    each_idle = idle_each (entries c.units) (each-from_every (λ n u. get c.units n ≡ Some u) c.units (λ n u is. is))

    of_unit : (e : ℕ × Unit) → AllByRecursion (λ o. o.unit ≡ e.0) (idle_order writers e)
    of_unit (n, u) =
        elim (nat_lt 0 u.holding.men && not (is_some (get writers n))) as
        (λ b. AllByRecursion (λ (o : Task). o.unit ≡ n) (cond b (idle_task n u.faction ∷ []) []))
        [ true ↦ (refl, tt) | false ↦ tt ]

    -- the code adds at most one order of WORK for a unit
    just_one : (e : ℕ × Unit) → IsDistinct have_same_key (idle_order writers e)
    unfolding IsDistinct
    just_one (n, u) =
        elim (nat_lt 0 u.holding.men && not (is_some (get writers n))) as
        (λ b. IsDistinct have_same_key (cond b (idle_task n u.faction ∷ []) [])) [ true ↦ (tt, tt) | false ↦ tt ]

    idle_apart : IsDistinct have_same_key (all_idle_orders c os)
    idle_apart =
        flat_apart have_same_key (idle_order writers) (λ (e f : ℕ × Unit). e.0 < f.0) (λ e o. o.unit ≡ e.0)
        (λ e f a b low mine other. other_orders_differ_in_key a b (λ same _. absurd (omega (arith, low, mine, other, same)))) of_unit just_one (entries c.units) (entries_rise c.units)

    -- ---- written orders, and the added ones

    written_idle : (o i : Task) → IsAmongWriters writers o → IsIdle i → have_same_key o i ≡ false
    written_idle o i listed idle =
        other_orders_differ_in_key o i (λ unit faction.
        let there : get c.units o.unit ≡ Some idle.unit = ap (get c.units) unit ∙ idle.there in
        let own : is_of_faction o.faction (get c.units o.unit) ≡ true = ap (is_of_faction o.faction) there ∙ eq-eqb idle.unit.faction o.faction (sym idle.own ∙ sym faction) in
        false≢true (sym (ap (λ n. is_some (get writers n)) unit ∙ idle.unordered) ∙ listed own))

    -- if no two of the orders `os` have the same key, no two of the orders of WORK made of them (`all_work`) do
    pub work_apart : IsDistinct have_same_key os → IsDistinct have_same_key (all_work c os)
    work_apart apart =
        let chosen = filter (λ (o : Task). is_work o.order_value.verb) os in
        append_apart have_same_key chosen (all_idle_orders c os) (filter_apart (λ o. is_work o.order_value.verb) have_same_key os apart) idle_apart
        (each_follows (IsAmongWriters writers) (λ o. AllByRecursion (λ i. have_same_key o i ≡ false) (all_idle_orders c os)) (λ o listed. each_follows IsIdle (λ i. have_same_key o i ≡ false) (λ i idle. written_idle o i listed idle) (all_idle_orders c os) each_idle) chosen
        (filter_each (λ o. is_work o.order_value.verb) (IsAmongWriters writers) os (own_is_listed empty os)))

-- ---- who has an order

-- After the writers of some orders are put into a map, the map has unit n exactly if it had n before, or if n's own
-- faction wrote one of these orders for n.
writes_own : (c : CampaignValue) (os : List Task) (n : ℕ) (u : Unit) → get c.units n ≡ Some u → (m : FinMap nat_cmp ℕ)
    → is_some (get (with_entries m (flat_map (own_unit c) os)) n) ≡ (has_own_order os n u || is_some (get m n))
writes_own c [] n u is m = refl
writes_own c (o ∷ os) n u is m =
    ap (λ (k : FinMap nat_cmp ℕ). is_some (get k n)) (appended_entries m (own_unit c o) (flat_map (own_unit c) os))
    ∙ writes_own c os n u is (with_entries m (own_unit c o)) ∙ ap (λ b. has_own_order os n u || b) one
    ∙ swapped (has_own_order os n u) (o.unit == n && o.faction == u.faction) (is_some (get m n))
  where
    swapped : (a b d : Bool) → (a || (b || d)) ≡ ((b || a) || d)
    swapped true true d = refl
    swapped true false d = refl
    swapped false true d = refl
    swapped false false d = refl

    here : o.unit ≡ n → is_of_faction o.faction (get c.units o.unit) ≡ (u.faction == o.faction)
    here same = ap (λ k. is_of_faction o.faction (get c.units k)) same ∙ ap (is_of_faction o.faction) is

    put_for : (b : Bool) → o.unit ≡ n
        → is_some (get (with_entries m (cond b ((o.unit, o.faction) ∷ []) [])) n) ≡ (b || is_some (get m n))
    put_for true same =
        ap (λ k. is_some (get (insert m o.unit o.faction) k)) (sym same) ∙ inserted_is_in m o.unit o.faction
    put_for false same = refl

    put_elsewhere : (b : Bool) → n ≢ o.unit → get (with_entries m (cond b ((o.unit, o.faction) ∷ []) [])) n ≡ get m n
    put_elsewhere true apart = get-insert_other m o.unit n o.faction apart
    put_elsewhere false apart = refl

    one : is_some (get (with_entries m (own_unit c o)) n)
        ≡ ((o.unit == n && o.faction == u.faction) || is_some (get m n))
    one = elim (cases_eq n o.unit) [
      | inl same ↦
          put_for (is_of_faction o.faction (get c.units o.unit)) (sym same)
          ∙ ap (λ b. b || is_some (get m n)) (here (sym same) ∙ equality_is_symmetric u.faction o.faction)
          ∙ sym (ap (λ b. (b && o.faction == u.faction) || is_some (get m n)) (ap (λ k. o.unit == k) same ∙ same_number o.unit))
      | inr apart ↦
          ap is_some (put_elsewhere (is_of_faction o.faction (get c.units o.unit)) apart)
          ∙ sym (ap (λ b. (b && o.faction == u.faction) || is_some (get m n)) (other_number o.unit n (λ same. apart (sym same))))
    ]

is_writer : (c : CampaignValue) (os : List Task) (n : ℕ) (u : Unit) → get c.units n ≡ Some u
    → is_some (get (own_writers c os) n) ≡ has_own_order os n u
is_writer c os n u is =
    writes_own c os n u is empty ∙ ap (λ o. has_own_order os n u || is_some o) (get-empty nat_cmp n)
    ∙ or-false (has_own_order os n u)

-- `ts` are the written orders: units with one of their own faction get no order of WORK
module _ (c : CampaignValue) (ts : List Task) where
  abbrev of_idle : List (ℕ × Unit) → List Task
  of_idle es = map (λ e. idle_task e.0 e.1.faction) (filter (is_idle ts) es)

  one_idle : (n : ℕ) (u : Unit) → get c.units n ≡ Some u
      → idle_order (own_writers c ts) (n, u) ≡ cond (is_idle ts (n, u)) (idle_task n u.faction ∷ []) []
  one_idle n u is =
      ap (λ b. cond (nat_lt 0 u.holding.men && not b) (idle_task n u.faction ∷ []) []) (is_writer c ts n u is)

  idle_are : (es : List (ℕ × Unit)) → EachEntry (λ n u. get c.units n ≡ Some u) es
      → flat_map (idle_order (own_writers c ts)) es ≡ of_idle es
  idle_are [] h = refl
  idle_are ((n, u) ∷ es) h =
      ap (λ os. os ++ flat_map (idle_order (own_writers c ts)) es) (one_idle n u h.0)
      ∙ ap (λ os. cond (is_idle ts (n, u)) (idle_task n u.faction ∷ []) [] ++ os) (idle_are es h.1)
      ∙ by_test (is_idle ts (n, u))
    where
      by_test : (b : Bool)
          → cond b (idle_task n u.faction ∷ []) [] ++ of_idle es
          ≡ map (λ e. idle_task e.0 e.1.faction) (cond b ((n, u) ∷ filter (is_idle ts) es) (filter (is_idle ts) es))
      by_test true = refl
      by_test false = refl

  -- the code's list of all orders of WORK (`all_work`), not sorted yet, is that of the definition
  pub all_are : all_work c ts ≡ written_work ts ++ idle_work c ts
  all_are =
      ap (λ os. written_work ts ++ os)
      (idle_are (entries c.units) (each-from_every (λ n u. get c.units n ≡ Some u) c.units (λ n u is. is)))

-- The code's list of all orders of WORK, sorted by its keys, is the list of the definition (`work_orders`). Here `os`
-- is the code's list before it is sorted, and `list` after that.
pub work_sorted : (c : CampaignValue) (m : MonthValue) (os list : List PhaseOrder)
    → map task_of os ≡ all_work c (orders_by_unit is_month_long m) → IsPermutation os list
    → IsSortedByKey (λ o. key_of ByUnit (task_of o)) (slice_cmp nat_cmp) list → map task_of list ≡ work_orders c m
unfolding work_orders
work_sorted c m os list are moved up =
    let ts = orders_by_unit is_month_long m in
    listed_tasks (key_of ByUnit) os list (all_work c ts) are (work_apart c ts (month_long_keys_differ m)) moved up
    ∙ ap (sorted_by (key_of ByUnit)) (all_are c ts)
