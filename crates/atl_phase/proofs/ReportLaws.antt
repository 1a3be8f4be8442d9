-- A law of the orders of a phase: among them is each order that counts and has a verb of the phase, and only once; no
-- other is of its faction and on its line. So a phase that gives each of its orders an event gives it just one.
use Rattle.std.proofs.Common.{◌≡◌, ◌≢◌, ◌==◌, ◌&&◌, ℕ, suc, zero, ◌+◌, ◌≤◌, ◌<◌, Bool, true, false, cond, List, [], ◌∷◌, ◌++◌, map, filter, flat_map, slice_get, Some, refl, sym, ap, ap₂, ◌∙◌, arith}
use mathlib.Core.Bool.{and_comm}
use Rattle.std.proofs.lemmas.Bool.{true≢false}
use Rattle.std.proofs.lemmas.List.Elements.{filter-append, filter_agree}
use Rattle.std.proofs.lemmas.Option.{same_Some}
use Rattle.std.specs.Cmp.Lexicographic.{slice_cmp, nat_list_cmp_total}
use Rattle.std.specs.FinMap.{FinMap, entries, entries-insert, find, from_entries, get-entries, put, values}
use Rattle.std.specs.List.{AllByRecursion}
use Rattle.std.specs.Ordering.{eq_by_cmp, nat_cmp}
use Rattle.atl_world.proofs.GeneralLaws.{key_itself, same_key}
use Rattle.atl_world.specs.Worlds.{WorldValue}
use Rattle.atl_orders.specs.Bounds.{LinesRise}
use Rattle.atl_orders.specs.Mailing.{EntryValue, Reading}
use Rattle.atl_world.specs.declared.verb.Verb.{Verb}
use Rattle.atl_world.proofs.EveryLaws.{other_number, same_number}
use Rattle.atl_campaign.proofs.GroupLaws.{filter_both}
use Rattle.atl_campaign.proofs.ReadBackLaws.{Rise, entries_rise}
use Rattle.atl_phase.specs.declared.phase_order.Arrangement.{Arrangement}
use Rattle.atl_phase.specs.Fit.{AreFit}
use Rattle.atl_phase.specs.Month.{Aliases}
use Rattle.atl_phase.specs.PhaseOrders.{IsInMailing, Task, key_of, order_counts, orders_of, tasks_for, tasks_from, tasks_of, unit_of}
use Rattle.atl_phase.proofs.MappedLaws.{no_entries}
use Rattle.atl_phase.proofs.OneOrderLaws.{entry_line_above}
use Rattle.atl_phase.proofs.OrderKeyLaws.{all_apart}
use Rattle.atl_phase.proofs.PickedLaws.{sorted-passing}

-- ---- the orders on one line of one faction

-- the order that an entry of a faction's mailing is, at its index
abbrev task_for : Aliases → (faction index : ℕ) → EntryValue → Task
task_for aliases faction index e =
    record { faction = faction; unit = unit_of aliases faction e.target; line = e.line; index = index; order_value = e.order_value }

-- a conjunction is false, if its second part is
pub second_false : (a b : Bool) → b ≡ false → (a && b) ≡ false
second_false true b fails = fails
second_false false b fails = refl

-- the orders that a faction wrote on one line of its mailing: both are given by number
module _ (aliases : Aliases) (faction line : ℕ) where
  -- whether an order is of the faction and on the line
  abbrev pub is_at : Task → Bool
  is_at u = u.faction == faction && u.line == line

  -- an order that isn't of the faction and on the line is left out
  left_out : (u : Task) (us : List Task) → is_at u ≡ false → filter is_at us ≡ [] → filter is_at (u ∷ us) ≡ []
  left_out u us fails rest = ap (λ b. cond b (u ∷ filter is_at us) (filter is_at us)) fails ∙ rest

  none_above : (f index low : ℕ) (es : List EntryValue) → line ≤ low → LinesRise low es
      → filter is_at (tasks_from aliases f index es) ≡ []
  none_above f index low [] le rise = refl
  none_above f index low (e ∷ es) le rise =
      left_out (task_for aliases f index e) (tasks_from aliases f (index + 1) es)
      (second_false (f == faction) (e.line == line) (other_number e.line line (λ same. let above = rise.0 in absurd (omega (arith, same, above, le)))))
      (none_above f (index + 1) e.line es (let above = rise.0 in omega (arith, above, le)) rise.1)

  none_of : (f index : ℕ) (es : List EntryValue) → f ≢ faction → filter is_at (tasks_from aliases f index es) ≡ []
  none_of f index [] other = refl
  none_of f index (e ∷ es) other =
      left_out (task_for aliases f index e) (tasks_from aliases f (index + 1) es) (ap (λ b. b && (e.line == line)) (other_number f faction other)) (none_of f (index + 1) es other)

  -- of the faction's entries the one on the line is left
  one_left : (index low i : ℕ) (es : List EntryValue) (e : EntryValue) → LinesRise low es → slice_get es i ≡ Some e
      → e.line ≡ line → filter is_at (tasks_from aliases faction index es) ≡ task_for aliases faction (index + i) e ∷ []
  one_left index low i [] e rise is on = cc
  one_left index low zero (x ∷ es) e rise is on =
      let same : x ≡ e = same_Some x e is in
      let x_on : x.line ≡ line = ap (λ (y : EntryValue). y.line) same ∙ on in
      let first = task_for aliases faction index x in
      let rest = filter is_at (tasks_from aliases faction (index + 1) es) in
      let here : is_at first ≡ true = ap₂ (λ a b. a && b) (same_number faction) (ap (λ n. n == line) x_on ∙ same_number line) in
      let le : line ≤ x.line = omega (arith, x_on) in
      let at : index ≡ index + 0 = omega arith in
      ap (λ b. cond b (first ∷ rest) rest) here
      ∙ ap (λ us. first ∷ us) (none_above faction (index + 1) x.line es le rise.1)
      ∙ ap₂ (λ y j. task_for aliases faction j y ∷ []) same at
  one_left index low (suc i) (x ∷ es) e rise is on =
      let above = entry_line_above x.line i es e rise.1 is in
      let first = task_for aliases faction index x in
      let rest = filter is_at (tasks_from aliases faction (index + 1) es) in
      let past : is_at first ≡ false = second_false (faction == faction) (x.line == line) (other_number x.line line (λ same. absurd (omega (arith, same, above, on)))) in
      let next : (index + 1) + i ≡ index + suc i = omega arith in
      ap (λ b. cond b (first ∷ rest) rest) past ∙ one_left (index + 1) x.line i es e rise.1 is on
      ∙ ap (λ j. task_for aliases faction j e ∷ []) next

-- an order in a mailing isn't on line 0, if the mailings (`readings`) can be read with the world
pub line_of_order : (w : WorldValue) (aliases : Aliases) (readings : FinMap nat_cmp Reading) → AreFit w readings
    → (t : Task) → IsInMailing aliases readings t → 0 < t.line
line_of_order w aliases readings fit t there =
    let above = entry_line_above 0 t.index there.reading.entries there.entry (fit t.faction there.reading there.of_faction).lines there.at_index in
    let on = there.on_line in
    omega (arith, above, on)

-- ---- the orders of a phase

-- to keep of `us` what passes the test p, and of this what passes q, is to keep what passes q, and then p
pub in_turn : (p q : Task → Bool) (us : List Task) → filter q (filter p us) ≡ filter p (filter q us)
in_turn p q us =
    filter_both p q us ∙ filter_agree (λ u. p u && q u) (λ u. q u && p u) (λ u. and_comm (p u) (q u)) us
    ∙ sym (filter_both q p us)

-- a list that has order t if b is true, and else no order, stays as it is when sorted by the numbers of `key_of a`
pub alone : (t : Task) (a : Arrangement) (b : Bool)
    → values (from_entries {R = slice_cmp nat_cmp} (map (λ u. (key_of a u, u)) (cond b (t ∷ []) [])))
    ≡ cond b (t ∷ []) []
alone t a true =
    ap (map (λ e. e.1)) (entries-insert nat_list_cmp_total (from_entries {R = slice_cmp nat_cmp} []) (key_of a t) t ∙ ap (put (slice_cmp nat_cmp) (key_of a t) t) (no_entries (slice_cmp nat_cmp)))
alone t a false = ap (map (λ e. e.1)) (no_entries (slice_cmp nat_cmp))

-- order t, which is in its faction's mailing (`there`), and a phase with the verbs that pass `is_of`; the mailings by
-- faction (`readings`) can be read with the world (`fit`)
module _ (w : WorldValue) (aliases : Aliases) (readings : FinMap nat_cmp Reading) (fit : AreFit w readings) (t : Task) (there : IsInMailing aliases readings t) (is_of : Verb → Bool) where
  -- whether an order is of the faction and on the line of order t
  abbrev pub is_there : Task → Bool
  is_there = is_at aliases t.faction t.line

  -- whether order t is one of the phase's: it has a verb of the phase, and counts in its mailing
  abbrev pub is_of_phase : Bool
  is_of_phase = is_of t.order_value.verb && order_counts (tasks_of aliases t.faction there.reading) t

  -- order t, if it is one of the phase's
  abbrev pub if_of_phase : List Task
  if_of_phase = cond is_of_phase (t ∷ []) []

  -- the orders of the phase in a faction's mailing
  abbrev of_mailing : ℕ × Reading → List Task
  of_mailing e = tasks_for is_of (tasks_of aliases e.0 e.1)

  -- of the orders of the mailing of t's faction only t is left
  in_own_mailing : filter is_there (tasks_of aliases t.faction there.reading) ≡ t ∷ []
  in_own_mailing =
      let h = there in
      let e = h.entry in
      let at : 0 + t.index ≡ t.index = omega arith in
      one_left aliases t.faction t.line 0 0 t.index h.reading.entries e (fit t.faction h.reading h.of_faction).lines h.at_index h.on_line
      ∙ (λ i. record { faction = t.faction; unit = h.for_unit i; line = h.on_line i; index = at i; order_value = h.says i } ∷ [])

  -- of the orders of the phase in the mailing of t's faction only t is left, if it is one of the phase's
  own_mailing_left : filter is_there (of_mailing (t.faction, there.reading)) ≡ if_of_phase
  own_mailing_left =
      let us = tasks_of aliases t.faction there.reading in
      let p = λ (u : Task). is_of u.order_value.verb && order_counts us u in
      in_turn p is_there us ∙ ap (filter p) in_own_mailing

  -- of the orders of the phase in other factions' mailings none is left
  others_left : (es : List (ℕ × Reading)) → AllByRecursion (λ e. e.0 ≢ t.faction) es
      → filter is_there (flat_map of_mailing es) ≡ []
  others_left [] all = refl
  others_left (e ∷ es) all =
      let us = tasks_of aliases e.0 e.1 in
      let p = λ (u : Task). is_of u.order_value.verb && order_counts us u in
      filter-append is_there (of_mailing e) (flat_map of_mailing es)
      ∙ ap₂ (λ xs ys. xs ++ ys) (in_turn p is_there us ∙ ap (filter p) (none_of aliases t.faction t.line e.0 0 e.1.entries all.0)) (others_left es all.1)

  -- entries with higher numbers than the faction's are of other factions
  higher : (es : List (ℕ × Reading)) (n : ℕ) → n ≡ t.faction → AllByRecursion (λ e. n < e.0) es
      → AllByRecursion (λ e. e.0 ≢ t.faction) es
  higher [] n is all = tt
  higher (e ∷ es) n is all =
      ((λ same. let above = all.0 in absurd (omega (arith, same, above, is))), higher es n is all.1)

  -- of the orders of the phase in mailings by faction, among them that of t's faction, only t is left, if it is one
  -- of the phase's
  mailings_left : (es : List (ℕ × Reading)) → Rise es → find nat_cmp t.faction es ≡ Some there.reading
      → filter is_there (flat_map of_mailing es) ≡ if_of_phase
  mailings_left [] rise found = cc
  mailings_left (e ∷ es) rise found = by_test (mailings_left es rise.1) (eq_by_cmp nat_cmp t.faction e.0) refl found
    where
      -- whether the first mailing is that of t's faction (b) or not
      by_test : (find nat_cmp t.faction es ≡ Some there.reading → filter is_there (flat_map of_mailing es) ≡ if_of_phase)
          → (b : Bool) → eq_by_cmp nat_cmp t.faction e.0 ≡ b
          → cond b (Some e.1) (find nat_cmp t.faction es) ≡ Some there.reading
          → filter is_there (flat_map of_mailing (e ∷ es)) ≡ if_of_phase
      by_test rest true is here =
          let faction = same_key t.faction e.0 is in
          let reading = same_Some e.1 there.reading here in
          let own : filter is_there (of_mailing e) ≡ if_of_phase = (λ i. filter is_there (tasks_for is_of (tasks_of aliases (sym faction i) (reading i)))) ∙ own_mailing_left in
          filter-append is_there (of_mailing e) (flat_map of_mailing es)
          ∙ ap₂ (λ xs ys. xs ++ ys) own (others_left es (higher es e.0 (sym faction) rise.0))
          ∙ nothing_after is_of_phase
        where
          nothing_after : (b : Bool) → cond b (t ∷ []) [] ++ [] ≡ cond b (t ∷ []) []
          nothing_after true = refl
          nothing_after false = refl
      by_test rest false is later =
          let us = tasks_of aliases e.0 e.1 in
          let p = λ (u : Task). is_of u.order_value.verb && order_counts us u in
          let other : e.0 ≢ t.faction = λ same. absurd (true≢false (sym (key_itself t.faction) ∙ ap (eq_by_cmp nat_cmp t.faction) (sym same) ∙ is)) in
          filter-append is_there (of_mailing e) (flat_map of_mailing es)
          ∙ ap₂ (λ xs ys. xs ++ ys) (in_turn p is_there us ∙ ap (filter p) (none_of aliases t.faction t.line e.0 0 e.1.entries other)) (rest later)

  -- of the orders of the phase none but t is of t's faction and on t's line; t is among them just once, if it is one of
  -- the phase's, and otherwise not at all
  pub one_in_phase : (a : Arrangement) → filter is_there (orders_of is_of a aliases readings) ≡ if_of_phase
  one_in_phase a =
      let us = flat_map of_mailing (entries readings) in
      sym (sorted-passing a is_there us (all_apart a aliases is_of readings))
      ∙ ap (λ vs. values (from_entries {R = slice_cmp nat_cmp} (map (λ u. (key_of a u, u)) vs))) (mailings_left (entries readings) (entries_rise readings) (sym (get-entries readings t.faction) ∙ there.of_faction))
      ∙ alone t a is_of_phase
