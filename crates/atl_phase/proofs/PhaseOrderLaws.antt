-- Laws of the orders of a phase: each is in the mailing of its faction, and has a verb of the phase, one that passes
-- `is_of`. The arrangement `a` says what orders are sorted by first, unit or faction. A key (`key_of`) is the list of
-- numbers that an order is sorted by.
use Rattle.std.proofs.Common.{◌≡◌, ℕ, suc, ◌+◌, Bool, true, ◌&&◌, List, [], ◌∷◌, map, slice_get, Some, All, refl, sym, subst, arith}
use Rattle.std.specs.declared.cmp.Ordering.{Ordering}
use Rattle.std.specs.declared.cmp.Ordering.TheVariants.{Less, Equal, Greater}
use Rattle.std.specs.Ordering.{nat_cmp}
use Rattle.std.specs.Cmp.{IsTotalOrder}
use Rattle.std.specs.Cmp.Lexicographic.{slice_cmp, nat_list_cmp_total}
use Rattle.std.specs.List.{AllByRecursion}
use Rattle.std.specs.FinMap.{FinMap, IsAntisymmetric, entries, entries-insert, from_entries, get, nat_cmp-IsAntisymmetric, put, slice_cmp-IsAntisymmetric}
use Rattle.std.specs.FinMap.Entries.{by_order}
use Rattle.std.proofs.lemmas.Bool.{and_parts}
use Rattle.std.proofs.lemmas.List.Elements.{All-from_recursion, All-map, recursion_from_All}
use Rattle.atl_world.specs.declared.verb.Verb.{Verb}
use Rattle.atl_orders.specs.Mailing.{EntryValue, Reading}
use Rattle.atl_world.specs.Every.{EachEntry}
use Rattle.atl_world.proofs.EveryLaws.{each-from_every}
use Rattle.atl_records.proofs.AmountListLaws.{all_append}
use Rattle.atl_campaign.proofs.GroupLaws.{kept}
use Rattle.atl_phase.specs.declared.phase_order.Arrangement.{Arrangement}
use Rattle.atl_phase.specs.Month.{Aliases}
use Rattle.atl_phase.specs.PhaseOrders.{IsInMailing, OrdersAreInMailings, Task, key_of, order_counts, orders_of, tasks_for, tasks_from, tasks_of, tasks_of_phase, under_keys}
use Rattle.atl_phase.proofs.MappedLaws.{no_entries}
use Rattle.atl_world.proofs.GeneralLaws.{each_follows}

-- ---- what is so of each entry is so of each that a map lists

-- P is a property of a key (K) with its value (X), and R compares keys
module _ {K X : Type 0} (R : K → K → Ordering) (P : K → X → Type 0) where
  abbrev Entries : List (K × X) → Type 0
  Entries = AllByRecursion (λ e. P e.0 e.1)

  entries-put : IsAntisymmetric R → (k : K) (v : X) (es : List (K × X)) → P k v → Entries es → Entries (put R k v es)
  entries-put anti k v [] h all = (h, tt)
  entries-put anti k v (e ∷ es) h all =
      elim (R k e.0) as (λ r. R k e.0 ≡ r → Entries (by_order r ((k, v) ∷ e ∷ es) ((e.0, v) ∷ es) (e ∷ put R k v es))) [
        | Less ↦ λ o. (h, all)
        | Equal ↦ λ o. (subst (λ j. P j v) (anti k e.0 o) h, all.1)
        | Greater ↦ λ o. (all.0, entries-put anti k v es h all.1)
      ] refl

  entries-listed : IsTotalOrder R → IsAntisymmetric R → (key : X → K) (xs : List X)
      → AllByRecursion (λ x. P (key x) x) xs → Entries (entries (from_entries {R = R} (map (λ x. (key x, x)) xs)))
  entries-listed o anti key [] all = subst Entries (sym (no_entries R)) tt
  entries-listed o anti key (x ∷ xs) all =
      let m = from_entries (map (λ x. (key x, x)) xs) in
      subst Entries (sym (entries-insert o m (key x) x)) (entries-put anti (key x) x (entries m) all.0 (entries-listed o anti key xs all.1))

-- ---- the orders of a phase

-- a phase with the verbs that pass `is_of`, and what was read of each faction's mailing, by faction (`readings`)
module _ (is_of : Verb → Bool) (aliases : Aliases) (readings : FinMap nat_cmp Reading) where
  -- the order is in its faction's mailing, counts there, and has a verb of the phase
  pub record IsPhaseOrder (t : Task) : Type 0 where
    pub there : IsInMailing aliases readings t
    pub passes : (is_of t.order_value.verb && order_counts (tasks_of aliases t.faction there.reading) t) ≡ true

  counted : (f : ℕ) (r : Reading) → get readings f ≡ Some r → (index : ℕ) (es : List EntryValue)
      → ((j : ℕ) (e : EntryValue) → slice_get es j ≡ Some e → slice_get r.entries (index + j) ≡ Some e) →
      AllByRecursion (λ t. (is_of t.order_value.verb && order_counts (tasks_of aliases f r) t) ≡ true → IsPhaseOrder t) (tasks_from aliases f index es)
  counted f r h index [] whole = tt
  counted f r h index (e ∷ es) whole =
      let first : index + 0 ≡ index = omega arith in (
        λ passes. record {
          there = record { reading = r; entry = e; of_faction = h; at_index = subst (λ n. slice_get r.entries n ≡ Some e) first (whole 0 e refl); for_unit = refl; on_line = refl; says = refl };
          passes = passes;
        },
        counted f r h (index + 1) es (λ j x is. let next : index + suc j ≡ (index + 1) + j = omega arith in subst (λ n. slice_get r.entries n ≡ Some x) next (whole (suc j) x is)),
      )

  all_count : (es : List (ℕ × Reading)) → EachEntry (λ f r. get readings f ≡ Some r) es
      → AllByRecursion IsPhaseOrder (tasks_of_phase is_of aliases es)
  all_count [] h = tt
  all_count (e ∷ es) h =
      let ts = tasks_of aliases e.0 e.1 in
      all_append IsPhaseOrder (tasks_for is_of ts) (tasks_of_phase is_of aliases es)
      (kept _ IsPhaseOrder ts (counted e.0 e.1 h.0 0 e.1.entries (λ j x is. let at : j ≡ 0 + j = omega arith in subst (λ n. slice_get e.1.entries n ≡ Some x) at is))) (all_count es h.1)

  -- in the map of a phase's orders by key each is under its own key, in its faction's mailing, counts, and has a verb of
  -- the phase
  pub orders_count : (a : Arrangement)
      → AllByRecursion (λ e. (e.0 ≡ key_of a e.1) × IsPhaseOrder e.1) (entries (under_keys (key_of a) (tasks_of_phase is_of aliases (entries readings))))
  orders_count a =
      let ts = tasks_of_phase is_of aliases (entries readings) in
      entries-listed (slice_cmp nat_cmp) (λ k t. (k ≡ key_of a t) × IsPhaseOrder t) nat_list_cmp_total (slice_cmp-IsAntisymmetric nat_cmp-IsAntisymmetric) (key_of a) ts
      (each_follows IsPhaseOrder (λ t. (key_of a t ≡ key_of a t) × IsPhaseOrder t) (λ t h. (refl, h)) ts (all_count (entries readings) (each-from_every (λ f r. get readings f ≡ Some r) readings (λ f r is. is))))

  of_each : (P : Task → Type 0) → ((t : Task) → IsPhaseOrder t → P t) → (a : Arrangement)
      → All P (orders_of is_of a aliases readings)
  of_each P so a =
      let es = entries (under_keys (key_of a) (tasks_of_phase is_of aliases (entries readings))) in
      All-map P (λ (e : List ℕ × Task). e.1) es (All-from_recursion (λ e. P e.1) es (each_follows (λ e. (e.0 ≡ key_of a e.1) × IsPhaseOrder e.1) (λ e. P e.1) (λ e h. so e.1 h.1) es (orders_count a)))

-- each order of a phase is in the mailing of its faction (`OrdersAreInMailings`)
pub orders_are_in_mailings : OrdersAreInMailings
orders_are_in_mailings is_of a aliases readings =
    of_each is_of aliases readings (IsInMailing aliases readings) (λ t h. h.there) a

-- each order of a phase has a verb of the phase
pub orders_have_verbs : (is_of : Verb → Bool) (a : Arrangement) (aliases : Aliases) (readings : FinMap nat_cmp Reading)
    → AllByRecursion (λ t. is_of t.order_value.verb ≡ true) (orders_of is_of a aliases readings)
orders_have_verbs is_of a aliases readings =
    recursion_from_All (λ t. is_of t.order_value.verb ≡ true) _
    (of_each is_of aliases readings (λ t. is_of t.order_value.verb ≡ true) (λ t h. (and_parts _ _ h.passes).0) a)
