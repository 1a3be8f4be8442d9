-- Laws of slots: no two orders that a phase carries out are of one faction, for one unit and of one slot. A slot is a
-- group of verbs of which a unit carries out one order a month.
use Rattle.std.proofs.Common.{◌≡◌, ◌==◌, ℕ, suc, zero, ◌<◌, Bool, true, false, List, [], ◌∷◌, slice_get, Option, Some, None, refl, sym, ap, ◌∙◌, arith}
use Rattle.std.proofs.lemmas.Bool.{and_parts, false_from_ne_true, false≢true}
use Rattle.std.proofs.lemmas.List.Elements.{All-from_recursion, recursion_from_All}
use Rattle.std.proofs.lemmas.Map.Keys.{IsDistinct-from_sorted}
use Rattle.std.proofs.lemmas.Option.{same_Some}
use Rattle.std.specs.Cmp.{eq_by_cmp_equiv}
use Rattle.std.specs.Ordering.{eq_by_cmp, nat_cmp}
use Rattle.std.specs.Cmp.Lexicographic.{slice_cmp, nat_list_cmp_total}
use Rattle.std.specs.List.{AllByRecursion, IsDistinct}
use Rattle.std.specs.FinMap.{FinMap, entries, get}
use Rattle.atl_world.specs.Worlds.{WorldValue}
use Rattle.atl_world.proofs.GeneralLaws.{is_equal}
use Rattle.atl_orders.specs.Bounds.{LinesRise}
use Rattle.atl_orders.specs.Mailing.{EntryValue, Reading}
use Rattle.atl_world.specs.Verbs.{row_of}
use Rattle.atl_world.specs.declared.verb.Slot.{Slot}
use Rattle.atl_world.specs.declared.verb.Slot.TheVariants.{MonthLong, Selling, Buying, Taxing, Recruiting}
use Rattle.atl_world.specs.declared.verb.Verb.{Verb}
use Rattle.atl_world.proofs.KeyLaws.{IsDistinct-map}
use Rattle.atl_phase.specs.declared.phase_order.Arrangement.{Arrangement}
use Rattle.atl_phase.specs.Month.{Aliases}
use Rattle.atl_phase.specs.Fit.{AreFit}
use Rattle.atl_phase.specs.PhaseOrders.{Task, counts_in_slot, key_of, last_line, order_counts, slot_number, tasks_of, tasks_of_phase, under_keys}
use Rattle.atl_phase.specs.OneOrder.{OneOrderCounts, are_same_slot, share_slot}
use Rattle.atl_phase.proofs.MapOfListLaws.{by_key, entries_rise}
use Rattle.atl_phase.proofs.PhaseOrderLaws.{IsPhaseOrder, orders_count}

-- ---- lines

-- where the lines of a mailing's orders (`es`) rise from above n on (`LinesRise`), that of the order e at i is above n
pub entry_line_above : (n i : ℕ) (es : List EntryValue) (e : EntryValue) → LinesRise n es → slice_get es i ≡ Some e
    → n < e.line
entry_line_above n i [] e rise is = cc
entry_line_above n zero (x ∷ es) e rise is = let same = ap (λ (y : EntryValue). y.line) (same_Some x e is) in omega (arith, same, rise.0)
entry_line_above n (suc i) (x ∷ es) e rise is = let after = entry_line_above x.line i es e rise.1 is in omega (arith, after, rise.0)

-- two entries of a mailing with one line have one index, since the lines are strictly ascending (`LinesRise`)
same_place : (n : ℕ) (es : List EntryValue) (i j : ℕ) (d e : EntryValue) → LinesRise n es → slice_get es i ≡ Some d
    → slice_get es j ≡ Some e → d.line ≡ e.line → i ≡ j
same_place n [] i j d e rise one two line = cc
same_place n (x ∷ es) zero zero d e rise one two line = refl
same_place n (x ∷ es) zero (suc j) d e rise one two line =
    let first = ap (λ (y : EntryValue). y.line) (same_Some x d one) in
    let after = entry_line_above x.line j es e rise.1 two in
    absurd (omega (arith, first, after, line))
same_place n (x ∷ es) (suc i) zero d e rise one two line =
    let first = ap (λ (y : EntryValue). y.line) (same_Some x e two) in
    let after = entry_line_above x.line i es d rise.1 one in
    absurd (omega (arith, first, after, line))
same_place n (x ∷ es) (suc i) (suc j) d e rise one two line = ap suc (same_place x.line es i j d e rise.1 one two line)

-- ---- slots

slots_are : (s o : Slot) → (slot_number s == slot_number o) ≡ true → s ≡ o
slots_are MonthLong MonthLong same = refl
slots_are Selling Selling same = refl
slots_are Buying Buying same = refl
slots_are Taxing Taxing same = refl
slots_are Recruiting Recruiting same = refl
slots_are s o same = cc

line_of : (ts : List Task) (t : Task) (s : Slot) (o : Option Slot) → o ≡ Some s → counts_in_slot ts t o ≡ true
    → t.line ≡ last_line s t.unit ts
line_of ts t s None is there = cc
line_of ts t s (Some x) is there =
    is_equal t.line (last_line x t.unit ts) there ∙ ap (λ y. last_line y t.unit ts) (same_Some x s is)

one_line : (ts us : List Task) (t o : Task) → ts ≡ us → t.unit ≡ o.unit
    → are_same_slot (row_of t.order_value.verb).slot (row_of o.order_value.verb).slot ≡ true → order_counts ts t ≡ true
    → order_counts us o ≡ true → t.line ≡ o.line
one_line ts us t o same unit share one two =
    by_slots (row_of t.order_value.verb).slot (row_of o.order_value.verb).slot refl refl share
  where
    by_slots : (a b : Option Slot) → (row_of t.order_value.verb).slot ≡ a → (row_of o.order_value.verb).slot ≡ b
        → are_same_slot a b ≡ true → t.line ≡ o.line
    by_slots None b first second never = cc
    by_slots (Some s) None first second never = cc
    by_slots (Some s) (Some x) first second alike =
        let slot = slots_are s x alike in
        line_of ts t s _ first one ∙ ap (λ y. last_line y t.unit ts) slot ∙ ap (λ n. last_line x n ts) unit
        ∙ ap (last_line x o.unit) same ∙ sym (line_of us o x _ second two)

-- ---- the orders of a phase

-- if P holds of each element, and no two elements pass the test e, no two pass the test f, which fails where e does
distinct_also : {X : Type 0} (P : X → Type 0) (e f : X → X → Bool)
    → ((x y : X) → P x → P y → e x y ≡ false → f x y ≡ false) → (xs : List X) → AllByRecursion P xs → IsDistinct e xs
    → IsDistinct f xs
unfolding IsDistinct
distinct_also P e f also [] all apart = tt
distinct_also P e f also (x ∷ xs) all apart = (
  recursion_from_All (λ y. f x y ≡ false) xs (λ k d l. also x _ all.0 (All-from_recursion P xs all.1 k d l) (All-from_recursion (λ y. e x y ≡ false) xs apart.0 k d l)),
  distinct_also P e f also xs all.1 apart.1,
)

-- a phase with the verbs that pass `is_of`, and its orders, sorted as `a` says; the readings of the mailings, by
-- faction (`readings`), fit the world (`fit`)
module _ (w : WorldValue) (is_of : Verb → Bool) (a : Arrangement) (aliases : Aliases) (readings : FinMap nat_cmp Reading) (fit : AreFit w readings) where
  are_one : (t o : Task) → IsPhaseOrder is_of aliases readings t → IsPhaseOrder is_of aliases readings o
      → share_slot t o ≡ true → t ≡ o
  are_one t o one two share =
      let first = and_parts _ _ share in
      let second = and_parts _ _ first.1 in
      let unit = is_equal t.unit o.unit first.0 in
      let faction = is_equal t.faction o.faction second.0 in
      let r = one.there.reading in
      let reading : r ≡ two.there.reading = same_Some r two.there.reading (sym one.there.of_faction ∙ ap (get readings) faction ∙ two.there.of_faction) in
      let tasks : tasks_of aliases t.faction r ≡ tasks_of aliases o.faction two.there.reading = ap (λ f. tasks_of aliases f r) faction ∙ ap (tasks_of aliases o.faction) reading in
      let line = one_line (tasks_of aliases t.faction r) (tasks_of aliases o.faction two.there.reading) t o tasks unit second.1 (and_parts _ _ one.passes).1 (and_parts _ _ two.passes).1 in
      let at : slice_get r.entries o.index ≡ Some two.there.entry = ap (λ (x : Reading). slice_get x.entries o.index) reading ∙ two.there.at_index in
      let index = same_place 0 r.entries t.index o.index one.there.entry two.there.entry (fit t.faction r one.there.of_faction).lines one.there.at_index at (one.there.on_line ∙ line ∙ sym two.there.on_line) in
      let entry : one.there.entry ≡ two.there.entry = same_Some one.there.entry two.there.entry (sym one.there.at_index ∙ ap (slice_get r.entries) index ∙ at) in
      let said = sym one.there.says ∙ ap (λ (e : EntryValue). e.order_value) entry ∙ two.there.says in
      λ i. record { faction = faction i; unit = unit i; line = line i; index = index i; order_value = said i }

  abbrev UnderKey : List ℕ × Task → Type 0
  UnderKey e = (e.0 ≡ key_of a e.1) × IsPhaseOrder is_of aliases readings e.1

  abbrev one_key : List ℕ × Task → List ℕ × Task → Bool
  one_key e f = eq_by_cmp (slice_cmp nat_cmp) e.0 f.0

  slots_apart : (e f : List ℕ × Task) → UnderKey e → UnderKey f → one_key e f ≡ false → share_slot e.1 f.1 ≡ false
  slots_apart e f one two apart = false_from_ne_true (share_slot e.1 f.1) (λ share.
      let same : f.0 ≡ e.0 = two.0 ∙ ap (key_of a) (sym (are_one e.1 f.1 one.1 two.1 share)) ∙ sym one.0 in
      false≢true (sym apart ∙ ap (eq_by_cmp (slice_cmp nat_cmp) e.0) same ∙ (eq_by_cmp_equiv nat_list_cmp_total).refl e.0))

-- if the mailings can be read with the world, no two orders that a phase carries out are of one faction, for one unit
-- and of one slot (`OneOrderCounts`)
pub one_order_counts : OneOrderCounts
one_order_counts w is_of a aliases readings fit =
    let keyed = under_keys (key_of a) (tasks_of_phase is_of aliases (entries readings)) in
    let es = entries keyed in
    IsDistinct-map (λ (e : List ℕ × Task). e.1) share_slot es
    (distinct_also (UnderKey w is_of a aliases readings fit) (one_key w is_of a aliases readings fit) (λ e f. share_slot e.1 f.1) (slots_apart w is_of a aliases readings fit) es (orders_count is_of aliases readings a)
    (IsDistinct-from_sorted (by_key nat_list_cmp_total) es (entries_rise nat_list_cmp_total keyed)))
