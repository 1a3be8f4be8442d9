-- Laws of the keys of orders: no two orders have one key, and orders sorted by key are what the map of orders lists. A
-- key (`key_of`) is the list of numbers that an order is sorted by, in arrangement `a`: by unit first, or by faction.
-- `ts` are orders; `os` is what the code sorts into `list`. `is_of` says which verbs a phase has.
use Rattle.std.proofs.Common.{◌≡◌, ℕ, ◌+◌, ◌≤◌, ◌<◌, Bool, false, List, [], ◌∷◌, map, get_or, refl, sym, ap, subst, ◌∙◌, arith, IsPermutation, flat_map}
use mathlib.Core.List.{map-map}
use Rattle.std.specs.Ordering.{nat_cmp, eq_by_cmp}
use Rattle.std.specs.Cmp.{nat_cmp_total}
use Rattle.std.specs.Cmp.Lexicographic.{slice_cmp, nat_list_cmp_total}
use Rattle.std.specs.List.{IsDistinct, AllByRecursion}
use Rattle.std.specs.List.Sorted.{IsSortedByKey}
use Rattle.std.specs.FinMap.{FinMap, entries, values, from_entries, slice_cmp-IsAntisymmetric, nat_cmp-IsAntisymmetric}
use Rattle.std.proofs.lemmas.Bool.{false_from_ne_true}
use Rattle.std.proofs.lemmas.List.Folds.{flat_map-map}
use Rattle.std.proofs.lemmas.List.Sorted.{All-permutation}
use Rattle.std.proofs.lemmas.Map.Views.{tells_apart}
use Rattle.atl_orders.specs.declared.mailing.Mailing.{Mailing}
use Rattle.atl_world.specs.declared.verb.Verb.{Verb}
use Rattle.atl_orders.specs.Mailing.{EntryValue, Reading, reading_of}
use Rattle.atl_campaign.proofs.GroupLaws.{filter_apart, filter_each}
use Rattle.atl_world.proofs.KeyLaws.{IsDistinct-of_map}
use Rattle.atl_campaign.proofs.ReadBackLaws.{entries_rise, flat_apart}
use Rattle.atl_phase.specs.declared.order_indices.OrderIndex.{OrderIndex}
use Rattle.atl_phase.specs.declared.phase_order.Arrangement.{Arrangement}
use Rattle.atl_phase.specs.declared.phase_order.Arrangement.TheVariants.{ByUnit, ByFaction}
use Rattle.atl_phase.specs.declared.phase_order.PhaseOrder.{PhaseOrder}
use Rattle.atl_phase.specs.Month.{Aliases, by_faction}
use Rattle.atl_phase.specs.PhaseOrders.{Task, key_of, sorted_by, task_of, tasks_for, tasks_from, tasks_of, tasks_of_phase, unit_of}
use Rattle.atl_phase.specs.OrderIndices.{AreByFaction, AreIndicesByMailing, AreOrderIndices, IsThere, all_tasks, key_by, task_at}
use Rattle.atl_phase.proofs.MapOfListLaws.{entries-sorted, entries_of}
use Rattle.atl_phase.proofs.MonthLaws.{by_faction_is, under_faction}
use Rattle.atl_world.proofs.GeneralLaws.{each_follows}

-- ---- keys that differ

-- whether two orders have the same key in an arrangement
abbrev pub same_key : Arrangement → Task → Task → Bool
same_key a t u = eq_by_cmp (slice_cmp nat_cmp) (key_of a t) (key_of a u)

same_key_same_index : (a : Arrangement) (t u : Task) → key_of a t ≡ key_of a u
    → (t.faction ≡ u.faction) × (t.index ≡ u.index)
same_key_same_index ByUnit t u e = (ap (λ key. get_or key 2 0) e, ap (λ key. get_or key 3 0) e)
same_key_same_index ByFaction t u e = (ap (λ key. get_or key 0 0) e, ap (λ key. get_or key 3 0) e)

other_key : (a : Arrangement) (t u : Task) → (t.faction ≡ u.faction → t.index ≡ u.index → ⊥) → same_key a t u ≡ false
other_key a t u other = false_from_ne_true (same_key a t u) (λ h.
    let same = same_key_same_index a t u (tells_apart (slice_cmp-IsAntisymmetric nat_cmp-IsAntisymmetric) (key_of a t) (key_of a u) h) in
    other same.0 same.1)

-- the orders of mailings, each with its key in arrangement `a`: the list of numbers that it is sorted by (`key_of`)
module _ (a : Arrangement) (aliases : Aliases) where
  from_low : (faction low index : ℕ) (es : List EntryValue) → low ≤ index
      → AllByRecursion (λ t. (t.faction ≡ faction) × (low ≤ t.index)) (tasks_from aliases faction index es)
  from_low faction low index [] le = tt
  from_low faction low index (e ∷ es) le = ((refl, le), from_low faction low (index + 1) es (omega arith))

  apart_within : (faction index : ℕ) (es : List EntryValue)
      → IsDistinct (same_key a) (tasks_from aliases faction index es)
  unfolding IsDistinct
  apart_within faction index [] = tt
  apart_within faction index (e ∷ es) =
      let first : Task = record { faction = faction; unit = unit_of aliases faction e.target; line = e.line; index = index; order_value = e.order_value } in
      let rest = tasks_from aliases faction (index + 1) es in (
        each_follows (λ t. (t.faction ≡ faction) × (index + 1 ≤ t.index)) (λ t. same_key a first t ≡ false) (λ t h. other_key a first t (λ _ same. omega (arith, h.1, same))) rest (from_low faction (index + 1) (index + 1) es (omega arith)),
        apart_within faction (index + 1) es,
      )

  -- no two of the orders of all mailings (`readings`) that count for a phase have the same key
  pub all_apart : (is_of : Verb → Bool) (readings : FinMap nat_cmp Reading)
      → IsDistinct (same_key a) (tasks_of_phase is_of aliases (entries readings))
  all_apart is_of readings =
      flat_apart (same_key a) (λ e. tasks_for is_of (tasks_of aliases e.0 e.1)) (λ (e f : ℕ × Reading). e.0 < f.0) (λ e t. t.faction ≡ e.0)
      (λ e f t u less own other. other_key a t u (λ same _. omega (arith, less, own, other, same)))
      (λ e. filter_each _ (λ t. t.faction ≡ e.0) (tasks_of aliases e.0 e.1) (each_follows (λ t. (t.faction ≡ e.0) × (0 ≤ t.index)) (λ t. t.faction ≡ e.0) (λ t h. h.0) (tasks_of aliases e.0 e.1) (from_low e.0 0 0 e.1.entries (omega arith))))
      (λ e. filter_apart _ (same_key a) (tasks_of aliases e.0 e.1) (apart_within e.0 0 e.1.entries))
      (entries readings) (entries_rise readings)

-- ---- as they are collected, and as the map lists them

-- elements sorted by the keys of their orders have these orders sorted by key (`sorted_by`), if no two keys are equal
sorted_by_keys : {X : Type 0} (as_task : X → Task) (key : Task → List ℕ) (os list : List X) (ts : List Task)
    → map as_task os ≡ ts → IsDistinct (λ t u. eq_by_cmp (slice_cmp nat_cmp) (key t) (key u)) ts → IsPermutation os list
    → IsSortedByKey (λ o. key (as_task o)) (slice_cmp nat_cmp) list → map as_task list ≡ sorted_by key ts
sorted_by_keys {X = X} as_task key os list ts are apart p up =
    let entry : X → List ℕ × Task = λ o. (key (as_task o), as_task o) in
    let same : Task → Task → Bool = λ t u. eq_by_cmp (slice_cmp nat_cmp) (key t) (key u) in
    let paired : Task → List ℕ × Task = λ t. (key t, t) in
    let sorted = entries-sorted nat_list_cmp_total (slice_cmp-IsAntisymmetric nat_cmp-IsAntisymmetric) entry os list p (IsDistinct-of_map as_task same os (subst (IsDistinct same) (sym are) apart)) up in
    sym (ap (map (λ e. e.1)) sorted ∙ map-map (λ (e : List ℕ × Task). e.1) entry list)
    ∙ ap (λ es. values (from_entries {R = slice_cmp nat_cmp} es)) (sym (map-map paired as_task os) ∙ ap (map paired) are)

-- The code sorts its orders `os` by a key into `list`, and no two of them have one key. Then `list` has the orders
-- `ts`, which are those of `os`, as the definition sorts them (`sorted_by`).
pub listed_tasks : (key : Task → List ℕ) (os list : List PhaseOrder) (ts : List Task) → map task_of os ≡ ts
    → IsDistinct (λ t u. eq_by_cmp (slice_cmp nat_cmp) (key t) (key u)) ts → IsPermutation os list
    → IsSortedByKey (λ o. key (task_of o)) (slice_cmp nat_cmp) list → map task_of list ≡ sorted_by key ts
listed_tasks = sorted_by_keys task_of

-- the orders of a phase that count of all mailings, mailing by mailing, are those of the readings in the map by
-- faction, if the mailings are sorted by faction
all_tasks_are : (is_of : Verb → Bool) (aliases : Aliases) (ms : List Mailing) → AreByFaction ms
    → all_tasks is_of aliases ms ≡ tasks_of_phase is_of aliases (entries (by_faction (map reading_of ms)))
all_tasks_are is_of aliases ms h =
    let of_reading : ℕ × Reading → List Task = λ e. tasks_for is_of (tasks_of aliases e.0 e.1) in
    sym (ap (λ (c : FinMap nat_cmp Reading). flat_map of_reading (entries c)) (by_faction_is ms) ∙ ap (flat_map of_reading) (entries_of nat_cmp_total under_faction ms h) ∙ flat_map-map of_reading under_faction ms)

-- ---- the indices of all orders

sorted_by_order_keys : (a : Arrangement) (ms : List Mailing) (list : List OrderIndex)
    → IsSortedByKey (key_by a) (slice_cmp nat_cmp) list
    → IsSortedByKey (λ p. key_of a (task_at ms p)) (slice_cmp nat_cmp) list
sorted_by_order_keys ByUnit ms list up = up
sorted_by_order_keys ByFaction ms list up = up

-- The indices `os` name all orders that count and have a verb that passes `is_of`, mailing by mailing. Sorted by their
-- own keys into `list`, they name these orders as arrangement `a` sorts them (`AreOrderIndices`). For this the mailings
-- `ms` are sorted by faction, no two of one faction.
pub sorted_places : (is_of : Verb → Bool) (a : Arrangement) (aliases : Aliases) (ms : List Mailing) (os list : List OrderIndex)
    → AreByFaction ms → AreIndicesByMailing is_of aliases ms os → IsPermutation os list
    → IsSortedByKey (key_by a) (slice_cmp nat_cmp) list
    → AreOrderIndices is_of a aliases ms list
sorted_places is_of a aliases ms os list h are p up = record {
  there = All-permutation (IsThere ms) os list p are.there;
  tasks = sorted_by_keys (task_at ms) (key_of a) os list _ (are.tasks ∙ all_tasks_are is_of aliases ms h) (all_apart a aliases is_of (by_faction (map reading_of ms))) p (sorted_by_order_keys a ms list up);
}
