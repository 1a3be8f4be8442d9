-- Laws of the orders of one phase, which are picked from the gathered indices of all orders that count. An index says
-- in which mailing of the list `ms` an order is, and where there; `places` are indices. An arrangement `a` says what
-- orders are sorted by first, unit or faction.
use Rattle.std.proofs.Common.{◌≡◌, ℕ, ◌+◌, ◌<◌, Bool, true, false, true≢false, cond, ◌&&◌, List, [], ◌∷◌, ◌++◌, map, filter, take, length, get_or, IfOk, Result, Vec, refl, sym, ap, ap₂, ◌∙◌}
use Rattle.std.proofs.lemmas.List.{append-nil, map_more, map_push}
use Rattle.std.specs.Ordering.{nat_cmp, eq_by_cmp}
use Rattle.std.specs.Cmp.Lexicographic.{slice_cmp, nat_list_cmp_total}
use Rattle.std.specs.List.{IsDistinct}
use Rattle.std.specs.FinMap.{FinMap, entries, values, from_entries, slice_cmp-IsAntisymmetric, nat_cmp-IsAntisymmetric}
use Rattle.std.proofs.lemmas.List.Elements.{filter-append, filter_agree}
use Rattle.std.proofs.lemmas.Result.{IfOk-weaker}
use Rattle.atl_orders.specs.declared.mailing.Mailing.{Mailing}
use Rattle.atl_world.specs.declared.verb.Verb.{Verb}
use Rattle.atl_orders.specs.Mailing.{Reading, reading_of}
use Rattle.atl_campaign.proofs.GroupLaws.{filter_both}
use Rattle.atl_world.proofs.KeyLaws.{IsDistinct-map}
use Rattle.atl_phase.specs.declared.order_indices.OrderIndex.{OrderIndex}
use Rattle.atl_phase.specs.declared.phase_order.Arrangement.{Arrangement}
use Rattle.atl_phase.specs.declared.phase_order.PhaseOrder.{PhaseOrder}
use Rattle.atl_phase.specs.Month.{Aliases, by_faction}
use Rattle.atl_phase.specs.PhaseOrders.{Task, key_of, order_counts, orders_of, sorted_by, task_of, tasks_for, tasks_of, tasks_of_phase, under_keys}
use Rattle.atl_phase.specs.OrderIndices.{AreOrderIndices, has_verb, task_at, tasks_picked}
use Rattle.atl_phase.proofs.MapOfListLaws.{entries-passing}
use Rattle.atl_phase.proofs.OrderKeyLaws.{all_apart, same_key}

-- for `sorted-passing`: to map elements by f and keep those that pass p is to keep those whose f passes p, and map them
pub filter-map : {X Y : Type 0} (p : Y → Bool) (f : X → Y) (xs : List X)
    → filter p (map f xs) ≡ map f (filter (λ x. p (f x)) xs)
filter-map p f [] = refl
filter-map p f (x ∷ xs) =
    let rest = filter-map p f xs in
    elim (p (f x)) as (λ b. cond b (f x ∷ filter p (map f xs)) (filter p (map f xs)) ≡ map f (cond b (x ∷ filter (λ x. p (f x)) xs) (filter (λ x. p (f x)) xs))) [
      | true ↦ ap (λ ys. f x ∷ ys) rest
      | false ↦ rest
    ]

-- to sort by `key_of` what of `ts` passes a test p is to sort all and keep what passes, if no two have one key
pub sorted-passing : (a : Arrangement) (p : Task → Bool) (ts : List Task) → IsDistinct (same_key a) ts
    → sorted_by (key_of a) (filter p ts) ≡ filter p (sorted_by (key_of a) ts)
sorted-passing a p ts apart =
    let entry : Task → List ℕ × Task = λ t. (key_of a t, t) in
    ap (λ fs. values (from_entries {R = slice_cmp nat_cmp} fs)) (sym (filter-map (λ (e : List ℕ × Task). p e.1) entry ts))
    ∙ ap (map (λ e. e.1)) (entries-passing nat_list_cmp_total (slice_cmp-IsAntisymmetric nat_cmp-IsAntisymmetric) p (map entry ts) (IsDistinct-map entry (λ e f. eq_by_cmp (slice_cmp nat_cmp) e.0 f.0) ts apart))
    ∙ sym (filter-map p (λ e. e.1) (entries (under_keys (key_of a) ts)))

-- a test i that passes only what w passes, and another test o: what passes i and o are those that pass w and o, and i
narrow : (w i o : Bool) → i ≡ (w && i) → (i && o) ≡ ((w && o) && i)
narrow true true true h = refl
narrow true true false h = refl
narrow true false true h = refl
narrow true false false h = refl
narrow false true o h = absurd (true≢false h)
narrow false false o h = refl

-- a test made twice gives what it gives once
pub twice : (b : Bool) → b ≡ (b && b)
twice true = refl
twice false = refl

-- `wide` says for which verbs the indices of orders were gathered, `is_of` which verbs the phase has; each verb of the
-- phase is among the former (`within`)
module _ (wide is_of : Verb → Bool) (within : (v : Verb) → is_of v ≡ (wide v && is_of v)) (aliases : Aliases) where
  picked_tasks : (es : List (ℕ × Reading))
      → tasks_of_phase is_of aliases es ≡ filter (has_verb is_of) (tasks_of_phase wide aliases es)
  picked_tasks [] = refl
  picked_tasks (e ∷ es) =
      let ts = tasks_of aliases e.0 e.1 in
      let counts : Task → Bool = λ t. wide t.order_value.verb && order_counts ts t in
      ap₂ (λ us vs. us ++ vs) (filter_agree (λ t. has_verb is_of t && order_counts ts t) (λ t. counts t && has_verb is_of t) (λ t. narrow (wide t.order_value.verb) (is_of t.order_value.verb) (order_counts ts t) (within t.order_value.verb)) ts ∙ sym (filter_both counts (has_verb is_of) ts)) (picked_tasks es)
      ∙ sym (filter-append (has_verb is_of) (tasks_for wide ts) (tasks_of_phase wide aliases es))

  picked_orders : (a : Arrangement) (readings : FinMap nat_cmp Reading) (ts : List Task)
      → ts ≡ orders_of wide a aliases readings → filter (has_verb is_of) ts ≡ orders_of is_of a aliases readings
  picked_orders a readings ts all =
      ap (filter (has_verb is_of)) all ∙ sym (sorted-passing a (has_verb is_of) _ (all_apart a aliases wide readings))
      ∙ ap (sorted_by (key_of a)) (sym (picked_tasks (entries readings)))

  -- Where the code's result r is Ok, its list has the orders of the phase, sorted as `a` says, if it has those picked
  -- from `places`. These name all orders that count and have a verb that passes `wide`, sorted as `a` says. The code
  -- reads the mailings `ms` as `ns`, and `places` as `qs`.
  pub picked_list : {Z E : Type 0} (a : Arrangement) (ms ns : List Mailing) (places qs : List OrderIndex) (r : Result (Vec PhaseOrder Z) E)
      → ns ≡ ms → qs ≡ places → AreOrderIndices wide a aliases ms places
      → IfOk r (λ list. map task_of list.items ≡ tasks_picked is_of ns qs)
      → IfOk r (λ list. map task_of list.items ≡ orders_of is_of a aliases (by_faction (map reading_of ms)))
  picked_list a ms ns places qs r same_mailings same_places all =
      IfOk-weaker r (λ list. map task_of list.items ≡ tasks_picked is_of ns qs) (λ list. map task_of list.items ≡ orders_of is_of a aliases (by_faction (map reading_of ms)))
      (λ list is. is ∙ (λ i. tasks_picked is_of (same_mailings i) (same_places i)) ∙ picked_orders a (by_faction (map reading_of ms)) _ all.tasks)

-- The new list has the orders that are picked from the indices up to and with index i, if the old list has those picked
-- from the indices before i. The new list is the old one and order o, which the index at i (p) names, if the verb of o
-- is the phase's (`is_of`, `b`), and else the old one.
pub picked_more : (is_of : Verb → Bool) (ms : List Mailing) (places : List OrderIndex) (i : ℕ) (p : OrderIndex) (o : PhaseOrder) (list new : List PhaseOrder) (b : Bool)
    → i < length places → p ≡ get_or places i p → task_of o ≡ task_at ms p
    → map task_of list ≡ tasks_picked is_of ms (take i places) → is_of o.order.now.verb ≡ b
    → new ≡ cond b (list ++ o ∷ []) list → map task_of new ≡ tasks_picked is_of ms (take (i + 1) places)
picked_more is_of ms places i p o list new b h at task before verb is =
    ap (map task_of) is ∙ by_test b
    ∙ ap₂ (λ us c. us ++ cond c (task_at ms p ∷ []) []) before (sym verb ∙ ap (has_verb is_of) task)
    ∙ ap (λ q. tasks_picked is_of ms (take i places) ++ filter (has_verb is_of) (task_at ms q ∷ [])) at
    ∙ sym (ap (filter (has_verb is_of)) (map_more (task_at ms) places i p h) ∙ filter-append (has_verb is_of) (map (task_at ms) (take i places)) (task_at ms (get_or places i p) ∷ []))
  where
    by_test : (c : Bool)
        → map task_of (cond c (list ++ o ∷ []) list) ≡ map task_of list ++ cond c (task_at ms p ∷ []) []
    by_test true = map_push task_of list o ∙ ap (λ t. map task_of list ++ t ∷ []) task
    by_test false = sym (append-nil (map task_of list))
