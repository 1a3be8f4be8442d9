-- Laws of QUIT: units leave, what they had is booked as gone, and structures get other owners; the campaign stays
-- steady. A unit is no worse off, unless its faction quits by an order for a unit that was its own as the phase began.
-- A unit is no worse off (`IsNoWorse`) with the same faction, region, structure, name and guard flag, and no fewer men,
-- no less money, items or days. In the laws e is an entry of the books, s and t are things, and h is what a unit holds.
-- `es` and `xs` list items with their amounts, and i is an index within `xs`.
use Rattle.std.proofs.Common.{◌≡◌, ◌≢◌, ◌==◌, ℕ, ◌+◌, ◌*◌, ◌≤◌, ◌<◌, not, Bool, true, false, cond, List, [], ◌∷◌, length, drop, get_or, Option, Some, None, refl, sym, ap, subst, ◌∙◌, inl, inr, arith}
use Rattle.std.specs.Prelude.{ℤ, pos, neg_ℤ, ◌+ℤ◌, IfSome, fold, unwrap_or, if◌then◌else◌}
use Rattle.std.proofs.lemmas.Int.{ints}
use Rattle.std.proofs.lemmas.Bool.Decides.{nat_tests}
use Rattle.std.proofs.lemmas.Bool.{and_parts, eq-eqb}
use Rattle.std.proofs.lemmas.List.{drop_more}
use Rattle.std.specs.declared.cmp.Ordering.TheVariants.{Less, Equal, Greater}
use Rattle.std.specs.Ordering.{nat_cmp, is_eq}
use Rattle.std.specs.Cmp.{ranked}
use Rattle.std.specs.FinMap.{FinMap, entries, find, get, get-entries, is_sorted, len, nat_cmp-IsAntisymmetric, remove}
use Rattle.atl_world.specs.Worlds.{WorldValue}
use Rattle.atl_world.specs.Sums.{sum_over}
use Rattle.atl_lines.specs.declared.order.Operands.TheVariants as operands
use Rattle.atl_lines.specs.Orders.{OperandsValue}
use Rattle.atl_records.specs.Books.{BooksValue, amount_in, booked, entry_index, thing_index, amount_number}
use Rattle.atl_campaign.specs.Covers.{MarksChanges}
use Rattle.atl_campaign.specs.Marking.{mark_amount}
use Rattle.atl_records.specs.declared.books.BooksEntry.{BooksEntry}
use Rattle.atl_records.specs.declared.books.BooksEntry.TheVariants.{Left, Lost}
use Rattle.atl_records.specs.declared.books.Thing.{Thing}
use Rattle.atl_records.specs.declared.books.Thing.TheVariants.{Item, Money, People}
use Rattle.atl_records.specs.declared.event.EventFault.{EventFault}
use Rattle.atl_records.specs.declared.event.EventFault.TheVariants.{WrongNumber}
use Rattle.atl_records.specs.declared.event.Outcome.TheVariants.{Done}
use Rattle.atl_records.specs.declared.records.Faction.{Faction}
use Rattle.atl_records.specs.declared.records.Unit.{Unit}
use Rattle.atl_world.specs.Every.{EachEntry, Every, HasValue}
use Rattle.atl_campaign.specs.Founding.{thing_count}
use Rattle.atl_campaign.specs.Good.{IsSteady}
use Rattle.atl_records.specs.Holdings.{HoldingValue}
use Rattle.atl_records.specs.Limits.{entry_count}
use Rattle.atl_campaign.specs.Owners.{heir, without_unit, without_unit_at}
use Rattle.atl_campaign.specs.Campaign.{MarkedCampaign, CampaignValue, numbers_of_faction}
use Rattle.atl_records.specs.Amounts.{unit_amount}
use Rattle.atl_campaign.specs.Totals.{Balances, total}
use Rattle.atl_records.proofs.BookLaws.{booked-after_booking, plus_zero}
use Rattle.atl_records.proofs.EveryEntryLaws.{entry_small}
use Rattle.atl_campaign.proofs.CoverLaws.{marks-amount}
use Rattle.atl_world.proofs.EveryLaws.{same_number, each-from_every, not_below, sorted}
use Rattle.atl_campaign.proofs.LeavingLaws.{only_reduced, steady-without, total-without}
use Rattle.atl_campaign.proofs.RegionLaws.{steady-amount}
use Rattle.atl_records.proofs.RemovedLaws.{get-remove_other, sum_over-remove, every-remove}
use Rattle.atl_campaign.proofs.NumberListLaws.{IsListed, listed_passing}
use Rattle.atl_phase.specs.Meaning.{BookBound, IsNear, both_move, most_moved, moves_only, Condition}
use Rattle.atl_phase.specs.Bounds.{HasRoom, HaveRoom, IsOrderly, IsUnitOf, StepsWell, UsesBound, items_bound}
use Rattle.atl_phase.specs.Outcomes.{fault_or}
use Rattle.atl_phase.specs.PhaseOrders.{Task, orders_of}
use Rattle.atl_phase.specs.NoWorse.{IsNoWorse}
use Rattle.atl_phase.specs.OrderEffects.{IsStillThere, is_of_faction, is_own, meaning_by_orders}
use Rattle.atl_phase.proofs.HeldLaws.{all_held_within, sum_within}
use Rattle.atl_phase.proofs.BookingLaws.{booked-near, booked-room, within-neg}
use Rattle.atl_phase.proofs.MeaningLaws.{amount_room_for_less, near_more, near_same, near_twice, room_less}
use Rattle.atl_phase.proofs.OutcomeLaws.{none_fits, not_apart}
use Rattle.atl_phase.proofs.NoWorseLaws.{no_worse}
use Rattle.atl_phase.proofs.OrderEffectLaws.{bound_used_near, no_worse_is_relation, well_same, well_twice, orders_fit, orders_leave_others}
use Rattle.atl_phase.proofs.StructureLaws.{handed_is}
use Rattle.atl_instant.specs.Quit.{after_leaving, loss_entry, loss_under, quit, quit_affects, quit_effect, quit_fault, quit_moves, quit_remaining, quit_step, with_all_losses, with_item_loss, with_loss, without_leaver, QuitsByOwnUnit, is_quitting, quit_keeps, quit_meaning}
use Rattle.atl_phase.specs.Month.{MonthValue}
use Rattle.atl_phase.specs.Fit.{AreFit}
use Rattle.atl_phase.specs.declared.phase_order.Arrangement.TheVariants.{ByUnit}

-- ---- things and entries

-- an amount of the second thing, counted as an amount of the first: the amount itself if both are the same thing, and 0
-- otherwise
abbrev pub amount_as_thing : Thing → Thing → ℕ → ℕ
amount_as_thing s t amount = cond (thing_index s == thing_index t) amount 0

-- the bound on the books for the loss of an amount of a thing: the amount under the entry of its loss (`loss_entry`),
-- and 0 under any other entry
abbrev loss_bound : BooksEntry → Thing → ℕ → ℕ
loss_bound e t n = if entry_index e == entry_index (loss_entry t) then n else 0

same_thing : (s t : Thing) → thing_index s ≡ thing_index t → s ≡ t
same_thing Money Money e = refl
same_thing Money People e = absurd (omega (arith, e))
same_thing Money (Item j) e = absurd (omega (arith, e))
same_thing People Money e = absurd (omega (arith, e))
same_thing People People e = refl
same_thing People (Item j) e = absurd (omega (arith, e))
same_thing (Item i) Money e = absurd (omega (arith, e))
same_thing (Item i) People e = absurd (omega (arith, e))
same_thing (Item i) (Item j) e = let same : i ≡ j = omega (arith, e) in ap Item same

-- booking an amount of thing t as gone moves thing s only within `loss_bound`: by at most this amount if s is t, under
-- the entry of its loss alone
loss_within_bound : (amount : ℕ) (t : Thing) (e : BooksEntry) (s : Thing)
    → moves_only amount (loss_entry t) t e s ≤ loss_bound e s (amount_as_thing s t amount)
loss_within_bound amount t e s = by_number (amount_number e s == amount_number (loss_entry t) t) refl
  where
    at_place : (b d : Bool) → b ≡ true → d ≡ true → amount ≤ cond b (cond d amount 0) 0
    at_place true true f g = omega arith
    at_place true false f g = cc
    at_place false d f g = cc

    by_number : (b : Bool) → (amount_number e s == amount_number (loss_entry t) t) ≡ b
        → (if b then amount else 0) ≤ loss_bound e s (amount_as_thing s t amount)
    by_number true is =
        let same : entry_count * thing_index s + entry_index e ≡ entry_count * thing_index t + entry_index (loss_entry t) = grind (arith, nat_tests) in
        let small = entry_small e in
        let small_gone = entry_small (loss_entry t) in
        let thing : thing_index s ≡ thing_index t = omega arith in
        let goes : entry_index (loss_entry s) ≡ entry_index (loss_entry t) = ap (λ x. entry_index (loss_entry x)) (same_thing s t thing) in
        let entry : entry_index e ≡ entry_index (loss_entry s) = omega arith in
        at_place (entry_index e == entry_index (loss_entry s)) (thing_index s == thing_index t) (let f : (entry_index e == entry_index (loss_entry s)) ≡ true = grind (arith, nat_tests) in f) (let g : (thing_index s == thing_index t) ≡ true = grind (arith, nat_tests) in g)
    by_number false is = omega arith

under_sum : (e : BooksEntry) (s : Thing) (x y m n : ℕ) → x ≤ loss_bound e s m → y ≤ loss_bound e s n
    → x + y ≤ loss_bound e s (m + n)
under_sum e s x y m n = by_test (entry_index e == entry_index (loss_entry s))
  where
    by_test : (b : Bool) → x ≤ (if b then m else 0) → y ≤ (if b then n else 0) → x + y ≤ (if b then m + n else 0)
    by_test true k l = omega arith
    by_test false k l = omega arith

-- ---- what is booked of some items

-- how much of a thing a list of items with their amounts has: for an item the sum of its amounts, else 0
abbrev pub held_in_items : List (ℕ × ℕ) → Thing → ℕ
held_in_items [] s = 0
held_in_items (e ∷ es) s = amount_as_thing s (Item e.0) e.1 + held_in_items es s

items_within : (es : List (ℕ × ℕ)) (e : BooksEntry) (s : Thing)
    → items_bound es e s ≤ loss_bound e s (held_in_items es s)
items_within [] e s = omega arith
items_within (x ∷ xs) e s =
    under_sum e s (moves_only x.1 Lost (Item x.0) e s) (items_bound xs e s) (amount_as_thing s (Item x.0) x.1)
    (held_in_items xs s) (loss_within_bound x.1 (Item x.0) e s) (items_within xs e s)

other_item_adds_nothing : (b : Bool) (x y : ℕ) → b ≡ false → cond b x 0 + y ≡ y
other_item_adds_nothing true x y e = cc
other_item_adds_nothing false x y e = omega arith

-- a list of items has no money
pub no_money : (es : List (ℕ × ℕ)) → held_in_items es Money ≡ 0
no_money [] = refl
no_money (e ∷ es) =
    other_item_adds_nothing (0 == 2 + e.0) e.1 (held_in_items es Money)
    (let apart : (0 == 2 + e.0) ≡ false = grind (arith, nat_tests) in apart)
    ∙ no_money es

-- a list of items has no people
pub no_people : (es : List (ℕ × ℕ)) → held_in_items es People ≡ 0
no_people [] = refl
no_people (e ∷ es) =
    other_item_adds_nothing (1 == 2 + e.0) e.1 (held_in_items es People)
    (let apart : (1 == 2 + e.0) ≡ false = grind (arith, nat_tests) in apart)
    ∙ no_people es

-- in a list of items sorted by number, the sum of the amounts of item j is the one amount that the search finds; 0
-- where it finds none
pub list_amount_is_found : (j : ℕ) (es : List (ℕ × ℕ)) → is_sorted nat_cmp es ≡ true
    → held_in_items es (Item j) ≡ unwrap_or (find nat_cmp j es) 0
list_amount_is_found j [] s = refl
list_amount_is_found j (e ∷ es) s =
    let rest = list_amount_is_found j es (and_parts _ _ s).1 in
    elim (nat_cmp j e.0) as (λ o. nat_cmp j e.0 ≡ o → cond (2 + j == 2 + e.0) e.1 0 + held_in_items es (Item j) ≡ unwrap_or (cond (is_eq o) (Some e.1) (find nat_cmp j es)) 0) [
      | Less ↦ λ o. let l = ranked j e.0 Less (sym o) in other_item_adds_nothing (2 + j == 2 + e.0) e.1 (held_in_items es (Item j)) (let t : (2 + j == 2 + e.0) ≡ false = grind (arith, nat_tests) in t) ∙ rest
      | Equal ↦ λ o.
          let same : j ≡ e.0 = nat_cmp-IsAntisymmetric j e.0 o in
          here (2 + j == 2 + e.0) e.1 (held_in_items es (Item j)) (let t : (2 + j == 2 + e.0) ≡ true = grind (arith, nat_tests) in t)
          (rest ∙ ap (λ k. unwrap_or (find nat_cmp k es) 0) same ∙ ap (λ (p : Option ℕ). unwrap_or p 0) (not_below e.0 es (and_parts _ _ s).0))
      | Greater ↦ λ o. let l = ranked j e.0 Greater (sym o) in other_item_adds_nothing (2 + j == 2 + e.0) e.1 (held_in_items es (Item j)) (let t : (2 + j == 2 + e.0) ≡ false = grind (arith, nat_tests) in t) ∙ rest
    ] refl
  where
    here : (b : Bool) (x y : ℕ) → b ≡ true → y ≡ 0 → cond b x 0 + y ≡ x
    here true x y t none = omega (arith, none)
    here false x y t none = cc

-- ---- what is booked of all that is held

abbrev held_of_thing : HoldingValue → Thing → ℕ
held_of_thing h s =
    amount_as_thing s People h.men + (amount_as_thing s Money h.money + held_in_items (entries h.items) s)

-- the bound on the books for booking as gone all that a unit has: men as left, its money and each item as lost
abbrev pub held_moves : HoldingValue → BookBound
held_moves h =
    both_move (moves_only h.men Left People) (both_move (moves_only h.money Lost Money) (items_bound (entries h.items)))

held_is_unit_amount : (h : HoldingValue) (s : Thing) → held_of_thing h s ≡ unit_amount s h
held_is_unit_amount h Money = sum h.money (held_in_items (entries h.items) Money) (no_money (entries h.items))
  where
    sum : (m n : ℕ) → n ≡ 0 → 0 + (m + n) ≡ m
    sum m n e = omega (arith, e)
held_is_unit_amount h People = sum h.men (held_in_items (entries h.items) People) (no_people (entries h.items))
  where
    sum : (m n : ℕ) → n ≡ 0 → m + (0 + n) ≡ m
    sum m n e = omega (arith, e)
held_is_unit_amount h (Item j) =
    sum (2 + j == 1) (2 + j == 0) h.men h.money (held_in_items (entries h.items) (Item j)) (let t : (2 + j == 1) ≡ false = grind (arith, nat_tests) in t) (let t : (2 + j == 0) ≡ false = grind (arith, nat_tests) in t)
    ∙ list_amount_is_found j (entries h.items) (sorted h.items)
    ∙ ap (λ (o : Option ℕ). unwrap_or o 0) (sym (get-entries h.items j))
  where
    sum : (b d : Bool) (m n k : ℕ) → b ≡ false → d ≡ false → cond b m 0 + (cond d n 0 + k) ≡ k
    sum false false m n k e f = omega arith
    sum true d m n k e f = cc
    sum false true m n k e f = cc

-- booking all that a unit holds as gone moves a thing only within `loss_under`: by at most what the unit holds of it,
-- under the entry of its loss alone
pub moves_what_leaves : (h : HoldingValue) (e : BooksEntry) (s : Thing) → held_moves h e s ≤ loss_under e s h
moves_what_leaves h e s =
    subst (λ n. held_moves h e s ≤ loss_bound e s n) (held_is_unit_amount h s)
    (under_sum e s (moves_only h.men Left People e s) (moves_only h.money Lost Money e s + items_bound (entries h.items) e s) (amount_as_thing s People h.men) (amount_as_thing s Money h.money + held_in_items (entries h.items) s) (loss_within_bound h.men People e s)
    (under_sum e s (moves_only h.money Lost Money e s) (items_bound (entries h.items) e s) (amount_as_thing s Money h.money) (held_in_items (entries h.items) s) (loss_within_bound h.money Money e s) (items_within (entries h.items) e s)))

-- ---- a campaign in which amounts of things are booked as gone

-- Campaign d is c with `gone` of each thing booked as gone: it is steady, and only the books differ.
pub record BooksAsGone (w : WorldValue) (gone : Thing → ℕ) (book_bound : BookBound) (c d : CampaignValue) : Type 0 where
  pub steady : IsSteady w d
  -- what the books have of each thing falls by `gone` of it
  pub sum_falls : (s : Thing) → booked c.books s ≡ booked d.books s +ℤ pos (gone s)
  -- no amount of the books moves further than its bound
  pub near : (e : BooksEntry) (s : Thing) → IsNear (book_bound e s) (amount_in c.books e s) (amount_in d.books e s)
  pub same : d ≡ record c { books = d.books }

-- two steps that book something as gone, each within a bound (`BooksAsGone`), book together the sum of both, within the
-- sum of the bounds
books_twice : {o p : Thing → ℕ} {i j : BookBound} (w : WorldValue) (a b c : CampaignValue) → BooksAsGone w o i a b
    → BooksAsGone w p j b c → BooksAsGone w (λ s. o s + p s) (both_move i j) a c
books_twice {o} {p} {i} {j} w a b c one two = record {
  steady = two.steady;
  sum_falls = λ s. grouped (booked a.books s) (booked b.books s) (booked c.books s) (o s) (p s) (one.sum_falls s) (two.sum_falls s);
  near = λ e s. near_twice (i e s) (j e s) (amount_in a.books e s) (amount_in b.books e s) (amount_in c.books e s) (one.near e s) (two.near e s);
  same = two.same ∙ ap (λ (s : CampaignValue). record s { books = c.books }) one.same;
}
  where
    grouped : (x y z : ℤ) (m n : ℕ) → x ≡ y +ℤ pos m → y ≡ z +ℤ pos n → x ≡ z +ℤ pos (m + n)
    grouped x y z m n e f = omega (arith, ints, e, f)

-- Booking an amount of a thing as gone lowers what the books have of it by that amount, under the entry of its loss
-- alone, and changes nothing else (`BooksAsGone`). For this the thing is of the world, and the campaign is steady. It
-- stays steady.
pub books_one : (w : WorldValue) (c : CampaignValue) (t : Thing) (amount : ℕ) → thing_index t < thing_count w
    → IsSteady w c
    → BooksAsGone w (λ s. amount_as_thing s t amount) (moves_only amount (loss_entry t) t) c (with_loss c t amount)
books_one w c t amount inside steady = record {
  steady = steady-amount w c (loss_entry t) t (neg_ℤ (pos amount)) inside steady;
  sum_falls = λ s.
      less (booked c.books s) (thing_index s == thing_index t) amount
      ∙ ap (λ z. z +ℤ pos (amount_as_thing s t amount)) (sym (booked-after_booking c.books (loss_entry t) t (neg_ℤ (pos amount)) s));
  near = booked-near c.books (loss_entry t) t (neg_ℤ (pos amount)) amount (within-neg amount amount (omega arith));
  same = refl;
}
  where
    less : (z : ℤ) (b : Bool) (a : ℕ) → z ≡ (z +ℤ cond b (neg_ℤ (pos a)) (pos 0)) +ℤ pos (cond b a 0)
    less z true a = omega (arith, ints)
    less z false a = omega (arith, ints)

books_items : (w : WorldValue) (c : CampaignValue) (es : List (ℕ × ℕ)) → EachEntry (λ i a. i < length w.items) es
    → IsSteady w c → BooksAsGone w (held_in_items es) (items_bound es) c (fold with_item_loss c es)
books_items w c [] known steady = record {
  steady = steady;
  sum_falls = λ s. plus_zero (booked c.books s);
  near = λ e s. near_same 0 (amount_in c.books e s);
  same = refl;
}
books_items w c ((i, a) ∷ es) known steady =
    let one = books_one w c (Item i) a (omega (arith, known.0)) steady in
    books_twice w c (with_item_loss c (i, a)) (fold with_item_loss (with_item_loss c (i, a)) es) one (books_items w (with_item_loss c (i, a)) es known.1 one.steady)

-- Booking all that a unit has as gone lowers what the books have of each thing by what the unit has of it, within the
-- bound `held_moves`, and changes nothing else (`BooksAsGone`). For this its items are of the world, and the campaign
-- is steady. It stays steady.
pub books_all : (w : WorldValue) (c : CampaignValue) (h : HoldingValue) → Every (λ i a. i < length w.items) h.items
    → IsSteady w c → BooksAsGone w (held_of_thing h) (held_moves h) c (with_all_losses c h)
books_all w c h known steady =
    let men = with_loss c People h.men in
    let money = with_loss men Money h.money in
    let one = books_one w c People h.men (omega arith) steady in
    let two = books_one w men Money h.money (omega arith) one.steady in
    let three = books_items w money (entries h.items) (each-from_every (λ i a. i < length w.items) h.items known) two.steady in
    books_twice w c men (with_all_losses c h) one (books_twice w men money (with_all_losses c h) two three)

-- ---- what the code books, and marks

-- if an amount is booked as gone, which makes d of c, and this amount of the books is marked, then no mark is lost and
-- all that changed is marked
pub marks-loss : (c d : MarkedCampaign) (t : Thing) (amount : ℕ) → d.value ≡ with_loss c.value t amount
    → d.marks ≡ mark_amount c (loss_entry t) t → MarksChanges c d
marks-loss c d t amount what marks =
    let all = marks-amount c (loss_entry t) t (neg_ℤ (pos amount)) in
    rw (what, marks) (record { stay = all.stay; covers = all.covers })

-- books with room for the loss of an amount of a thing, and for the bound `next` besides, have room for this amount
-- under the entry of its loss
pub room_for_loss : (t : Thing) (amount : ℕ) (next : BookBound) (c : CampaignValue)
    → HaveRoom (both_move (moves_only amount (loss_entry t) t) next) c
    → HasRoom amount (amount_in c.books (loss_entry t) t)
room_for_loss t amount next c room =
    amount_room_for_less amount (moves_only amount (loss_entry t) t (loss_entry t) t + next (loss_entry t) t) (amount_in c.books (loss_entry t) t)
    (at_least (amount_number (loss_entry t) t == amount_number (loss_entry t) t) (next (loss_entry t) t) (same_number (amount_number (loss_entry t) t))) (room (loss_entry t) t)
  where
    at_least : (b : Bool) (m : ℕ) → b ≡ true → amount ≤ (if b then amount else 0) + m
    at_least true m t = omega arith
    at_least false m t = cc

-- books with room for the loss of an amount of a thing, and for the bound `next` besides, have room for `next` once the
-- amount is booked as gone
pub room_after_loss : (t : Thing) (amount : ℕ) (next : BookBound) (c : CampaignValue)
    → HaveRoom (both_move (moves_only amount (loss_entry t) t) next) c → HaveRoom next (with_loss c t amount)
room_after_loss t amount next c room =
    booked-room c.books (loss_entry t) t (neg_ℤ (pos amount)) amount (within-neg amount amount (omega arith)) next room

-- books with room for the loss of the items from i on have room for that of the item at i and those after, as one list
pub room_for_item_and_later : (xs : List (ℕ × ℕ)) (i : ℕ) (c : CampaignValue) → i < length xs
    → HaveRoom (items_bound (drop i xs)) c
    → HaveRoom (items_bound (get_or xs i (0, 0) ∷ drop (i + 1) xs)) c
room_for_item_and_later xs i c inside room = subst (λ l. HaveRoom (items_bound l) c) (drop_more xs i (0, 0) inside) room

-- books with room for the loss of the items from i on have room for that of the item at i
pub room_for_item : (xs : List (ℕ × ℕ)) (i : ℕ) (c : CampaignValue) → i < length xs
    → HaveRoom (items_bound (drop i xs)) c
    → HasRoom (get_or xs i (0, 0)).1 (amount_in c.books Lost (Item (get_or xs i (0, 0)).0))
room_for_item xs i c inside room = let x : ℕ × ℕ = get_or xs i (0, 0) in room_for_loss (Item x.0) x.1 (items_bound (drop (i + 1) xs)) c (room_for_item_and_later xs i c inside room)

-- if the items from i on are all of the world, so are the item at i and those after it, as one list
pub known_ahead : (w : WorldValue) (xs : List (ℕ × ℕ)) (i : ℕ) → i < length xs
    → EachEntry (λ j a. j < length w.items) (drop i xs)
    → EachEntry (λ j a. j < length w.items) (get_or xs i (0, 0) ∷ drop (i + 1) xs)
known_ahead w xs i inside known = subst (EachEntry (λ j a. j < length w.items)) (drop_more xs i (0, 0) inside) known

-- in a steady campaign each item that unit n holds is of the world
pub known_held : (w : WorldValue) (c : CampaignValue) (n : ℕ) (u : Unit) → get c.units n ≡ Some u → IsSteady w c
    → EachEntry (λ j a. j < length w.items) (entries u.holding.items)
known_held w c n u is steady =
    each-from_every (λ j a. j < length w.items) u.holding.items (steady.known.units n u is).items

-- books with room for what all units may lose (`quit_remaining`) have room for all that unit n (u) has
pub held_room : (c : CampaignValue) (n : ℕ) (u : Unit) → get c.units n ≡ Some u → HaveRoom (quit_remaining c) c
    → HaveRoom (held_moves u.holding) c
held_room c n u is room =
    room_less (held_moves u.holding) (quit_remaining c) c
    (λ e t. within (held_moves u.holding e t) (loss_under e t u.holding) (sum_over (λ (x : Unit). loss_under e t x.holding) (remove c.units n)) (quit_remaining c e t) (moves_what_leaves u.holding e t) (sum_over-remove c.units n (λ (x : Unit). loss_under e t x.holding) u is))
    room
  where
    within : (a b s r : ℕ) → a ≤ b → s + b ≡ r → a ≤ r
    within a b s r l e = omega (arith, l, e)

-- ---- a unit that leaves

books_leave_total : (c : CampaignValue) (books : BooksValue) (t : Thing)
    → total (record c { books = books }) t ≡ total c t
unfolding total
books_leave_total c books t = refl

-- unit n (u) of the steady campaign c leaves with all that it has
module _ (w : WorldValue) (c : CampaignValue) (n : ℕ) (u : Unit) (is : get c.units n ≡ Some u) (steady : IsSteady w c) where
  -- the campaign in which all that the unit holds is booked as gone, before the unit is removed
  abbrev booked_off : CampaignValue
  booked_off = with_all_losses c u.holding

  abbrev after_leave : CampaignValue
  after_leave = without_unit booked_off n

  all_is_booked : BooksAsGone w (held_of_thing u.holding) (held_moves u.holding) c booked_off
  all_is_booked = books_all w c u.holding (steady.known.units n u is).items steady

  there : get booked_off.units n ≡ Some u
  there = ap (λ (s : CampaignValue). get s.units n) all_is_booked.same ∙ is

  -- after unit n left, the units are those from before without unit n
  pub units_left : after_leave.units ≡ remove c.units n
  units_left =
      (only_reduced w booked_off n u there).units ∙ ap (λ (s : CampaignValue). remove s.units n) all_is_booked.same

  balanced : Balances c → Balances after_leave
  balanced old t =
      let only = only_reduced w booked_off n u there in
      let totals : total booked_off t ≡ total c t = ap (λ s. total s t) all_is_booked.same ∙ books_leave_total c booked_off.books t in
      total_stays_booked (total after_leave t) (unit_amount t u.holding) (total booked_off t) (total c t) (held_of_thing u.holding t) (booked c.books t) (booked booked_off.books t) (total-without w booked_off n u there t) totals (held_is_unit_amount u.holding t) (old t) (all_is_booked.sum_falls t)
      ∙ ap (λ (books : BooksValue). booked books t) (sym only.books)
    where
      total_stays_booked : (a h b d o : ℕ) (z y : ℤ) → a + h ≡ b → b ≡ d → o ≡ h → pos d ≡ z → z ≡ y +ℤ pos o
          → pos a ≡ y
      total_stays_booked a h b d o z y e f g k l = omega (arith, ints, e, f, g, k, l)

  uses_bound : (e : BooksEntry) (t : Thing)
      → UsesBound (quit_remaining c e t) (quit_remaining after_leave e t) (amount_in c.books e t) (amount_in after_leave.books e t)
  uses_bound e t =
      let only = only_reduced w booked_off n u there in
      let reserves : quit_remaining after_leave e t + loss_under e t u.holding ≡ quit_remaining c e t =
      ap (λ (m : FinMap nat_cmp Unit). sum_over (λ (x : Unit). loss_under e t x.holding) m + loss_under e t u.holding) units_left ∙ sum_over-remove c.units n (λ (x : Unit). loss_under e t x.holding) u is in
      subst (λ (books : BooksValue). UsesBound (quit_remaining c e t) (quit_remaining after_leave e t) (amount_in c.books e t) (amount_in books e t)) (sym only.books)
      (bound_used_near (loss_under e t u.holding) (quit_remaining c e t) (quit_remaining after_leave e t) (amount_in c.books e t) (amount_in booked_off.books e t) reserves
      (near_more (held_moves u.holding e t) (loss_under e t u.holding) (amount_in c.books e t) (amount_in booked_off.books e t) (moves_what_leaves u.holding e t) (all_is_booked.near e t)))

  leaving_well : StepsWell IsSteady quit_remaining w c after_leave
  leaving_well =
      let only = only_reduced w booked_off n u there in
      record {
        holds_still = steady-without w booked_off n u there all_is_booked.steady;
        same_month = record {
          month = only.month ∙ ap (λ (s : CampaignValue). s.month) all_is_booked.same;
          reports = only.reports ∙ ap (λ (s : CampaignValue). s.reports) all_is_booked.same;
          count = ap len only.factions ∙ ap (λ (s : CampaignValue). len s.factions) all_is_booked.same;
          factions = λ k h. subst (λ (m : FinMap nat_cmp Faction). HasValue m k) (only.factions ∙ ap (λ (s : CampaignValue). s.factions) all_is_booked.same) h;
        };
        balances = balanced;
        uses_bound = uses_bound;
      }

-- Once unit n, if it is there, left with all that it has, a steady campaign is still steady, in its month and in
-- balance. No amount of the books moved further than what may still be booked (`quit_remaining`) fell (`StepsWell`).
pub left_well : (w : WorldValue) (c : CampaignValue) (n : ℕ) → IsSteady w c
    → StepsWell IsSteady quit_remaining w c (after_leaving c n)
unfolding after_leaving
left_well w c n steady = by_unit (get c.units n) refl
  where
    by_unit : (o : Option Unit) → get c.units n ≡ o → StepsWell IsSteady quit_remaining w c (without_leaver c n o)
    by_unit None is = well_same w c steady
    by_unit (Some u) is = leaving_well w c n u is steady

removal_keeps_others : (c : CampaignValue) (n k : ℕ) → k ≢ n → get (without_unit c n).units k ≡ get c.units k
unfolding without_unit
removal_keeps_others c n k apart = elim (get c.units n) as (λ o. get (without_unit_at c n o).units k ≡ get c.units k) [
  | None ↦ refl
  | Some u ↦
      ap (λ (d : CampaignValue). get d.units k) (handed_is (record c { units = remove c.units n }) u.structure n (heir c u.structure n)) ∙ get-remove_other c.units n k apart
]

item_losses_keep_units : (c : CampaignValue) (es : List (ℕ × ℕ)) → (fold with_item_loss c es).units ≡ c.units
item_losses_keep_units c [] = refl
item_losses_keep_units c (e ∷ es) = item_losses_keep_units (with_item_loss c e) es

leaving_keeps_others : (c : CampaignValue) (n k : ℕ) → k ≢ n → get (after_leaving c n).units k ≡ get c.units k
unfolding after_leaving
leaving_keeps_others c n k apart = by_unit (get c.units n)
  where
    by_unit : (o : Option Unit) → get (without_leaver c n o).units k ≡ get c.units k
    by_unit None = refl
    by_unit (Some u) =
        removal_keeps_others (with_all_losses c u.holding) n k apart
        ∙ ap (λ (m : FinMap nat_cmp Unit). get m k) (item_losses_keep_units _ (entries u.holding.items))

-- ---- all units of a faction

-- Once the units `ns`, those that are there, left one by one, a steady campaign is still steady, in its month and in
-- balance. No amount of the books moved further than what may still be booked (`quit_remaining`) fell (`StepsWell`).
pub all_left_well : (w : WorldValue) (c : CampaignValue) (ns : List ℕ) → IsSteady w c
    → StepsWell IsSteady quit_remaining w c (fold after_leaving c ns)
all_left_well w c [] steady = well_same w c steady
all_left_well w c (n ∷ ns) steady =
    let one = left_well w c n steady in
    well_twice w c (after_leaving c n) (fold after_leaving (after_leaving c n) ns) one (all_left_well w (after_leaving c n) ns one.holds_still)

-- after the units of the list `ns` left one by one, each unit k that isn't in the list is as it was
pub all_leaving_keep_others : (c : CampaignValue) (ns : List ℕ) (k : ℕ) → ((n : ℕ) → IsListed n ns → k ≢ n)
    → get (fold after_leaving c ns).units k ≡ get c.units k
all_leaving_keep_others c [] k apart = refl
all_leaving_keep_others c (n ∷ ns) k apart =
    all_leaving_keep_others (after_leaving c n) ns k (λ m listed. apart m (inr listed))
    ∙ leaving_keeps_others c n k (apart n (inl refl))

-- ---- one order

-- P holds of the campaign after an order of QUIT, if P holds of the campaign before. Where the order has the number of
-- the unit's faction, P must also hold of the campaign after this faction's units left.
pub quit_cases : (P : CampaignValue → Type 0) (c : CampaignValue) (number : ℕ) (u : Unit) → P c
    → (number ≡ u.faction → P (fold after_leaving c (numbers_of_faction u.faction c.units))) → P (quit number c u).0
unfolding quit
quit_cases P c number u same leave = by_fault (quit_fault number u) refl
  where
    by_fault : (f : Option EventFault) → quit_fault number u ≡ f
        → P (fault_or c f (fold after_leaving c (numbers_of_faction u.faction c.units), Done 0)).0
    by_fault (Some fault) e = same
    by_fault None e = leave (not_apart number u.faction (none_fits (not (number == u.faction)) WrongNumber [] e).0)

-- An order of QUIT with `number` for unit u, with a fault or without, keeps a steady campaign steady, its month and its
-- balance. No amount of the books moves further than what may still be booked (`quit_remaining`) falls (`StepsWell`).
pub quit_well : (w : WorldValue) (c : CampaignValue) (number : ℕ) (u : Unit) → IsSteady w c
    → StepsWell IsSteady quit_remaining w c (quit number c u).0
quit_well w c number u steady =
    quit_cases (λ d. StepsWell IsSteady quit_remaining w c d) c number u (well_same w c steady)
    (λ own. all_left_well w c (numbers_of_faction u.faction c.units) steady)

-- after an order of QUIT for unit u, unit k is as it was, if the order has not the number of u's faction, or k is of
-- another faction
pub quit_stays : (c : CampaignValue) (number : ℕ) (u : Unit) (k : ℕ) (x : Unit) → get c.units k ≡ Some x
    → (number ≡ u.faction → u.faction ≢ x.faction) → get (quit number c u).0.units k ≡ Some x
quit_stays c number u k x here other =
    quit_cases (λ d. get d.units k ≡ Some x) c number u here (λ own. all_leaving_keep_others c (numbers_of_faction u.faction c.units) k (λ m listed. stays (other own) m listed) ∙ here)
  where
    stays : u.faction ≢ x.faction → (m : ℕ) → IsListed m (numbers_of_faction u.faction c.units) → k ≢ m
    stays apart m listed same =
        let (v, at, t) = listed_passing (λ (y : Unit). y.faction == u.faction) c.units m listed in
        let one : Some v ≡ Some x = sym at ∙ ap (get c.units) (sym same) ∙ here in
        let unit : v ≡ x = cc in
        let faction : v.faction ≡ u.faction = grind (arith, nat_tests) in
        apart (sym faction ∙ ap (λ (y : Unit). y.faction) unit)

-- ---- the phase

-- in a steady campaign all that QUIT may still book (`quit_remaining`) is within the bound of the phase (`quit_moves`)
remaining_within : (w : WorldValue) (c : CampaignValue) → IsSteady w c → (e : BooksEntry) (t : Thing)
    → quit_remaining c e t ≤ quit_moves e t
remaining_within w c steady e t = by_test (entry_index e == entry_index (loss_entry t))
  where
    none : (s n : ℕ) → s ≤ n * 0 → s ≤ 0
    none s n l = omega (arith, l)

    by_test : (b : Bool)
        → sum_over (λ (u : Unit). if b then unit_amount t u.holding else 0) c.units ≤ (if b then most_moved else 0)
    by_test true = all_held_within w c steady t
    by_test false =
        none (sum_over (λ (u : Unit). 0) c.units) (length (entries c.units))
        (sum_within (λ (u : Unit). 0) 0 (entries c.units) (each-from_every (λ n u. 0 ≤ 0) c.units (λ n u is. omega arith)))

-- In a steady campaign a QUIT for a unit of its writer's faction leaves a unit no worse off, unless the unit's faction
-- wrote it, with its own number. If it can be read with the world, the campaign stays steady, in its month and in
-- balance, and no more is booked than the leaving units had.
pub quit_orderly : IsOrderly quit_step IsSteady quit_remaining quit_moves quit_affects IsNoWorse
quit_orderly = record {
  well = λ w a c t x steady fit own. well w c x steady t.order_value.operands;
  unaffected_is_relation = no_worse_is_relation;
  is_unaffected = λ w a c t x steady own n u here other. is_unaffected w c t x steady own n u here t.order_value.operands (λ says. other says);
  bounded = remaining_within;
}
  where
    well : (w : WorldValue) (c : CampaignValue) (x : Unit) → IsSteady w c → (s : OperandsValue)
        → IfSome (quit_effect s) (λ effect. StepsWell IsSteady quit_remaining w c (effect c x).0)
    well w c x steady (operands.Number number) = quit_well w c number x steady
    well w c x steady other = tt

    is_unaffected : (w : WorldValue) (c : CampaignValue) (t : Task) (x : Unit) → IsSteady w c → IsUnitOf c t x
        → (n : ℕ) (u : Unit) → get c.units n ≡ Some u → (s : OperandsValue)
        → ((t.faction ≡ u.faction) × (s ≡ operands.Number u.faction) → ⊥)
        → IfSome (quit_effect s) (λ effect. IsStillThere IsNoWorse (effect c x).0 n u)
    is_unaffected w c t x steady own n u here (operands.Number number) other =
        record { unit = u; there = quit_stays c number x n u here (λ says same. other (sym own.faction ∙ same, ap operands.Number (says ∙ same))); is_unaffected = no_worse u }
    is_unaffected w c t x steady own n u here said other = tt

-- ---- no unit comes, and none changes

abbrev HasAllUnitsOf : CampaignValue → CampaignValue → Type 0
HasAllUnitsOf c d = Every (λ k u. get c.units k ≡ Some u) d.units

leaving_adds_no_unit : (w : WorldValue) (c : CampaignValue) (n : ℕ) → IsSteady w c → HasAllUnitsOf c (after_leaving c n)
unfolding after_leaving
leaving_adds_no_unit w c n steady = by_unit (get c.units n) refl
  where
    by_unit : (o : Option Unit) → get c.units n ≡ o → HasAllUnitsOf c (without_leaver c n o)
    by_unit None is = λ k u there. there
    by_unit (Some x) is =
        subst (λ (m : FinMap nat_cmp Unit). Every (λ k u. get c.units k ≡ Some u) m) (sym (units_left w c n x is steady)) (every-remove c.units n (λ k u. get c.units k ≡ Some u) (λ k u there. there))

all_leaving_add_no_unit : (w : WorldValue) (c : CampaignValue) (ns : List ℕ) → IsSteady w c
    → HasAllUnitsOf c (fold after_leaving c ns)
all_leaving_add_no_unit w c [] steady k u there = there
all_leaving_add_no_unit w c (n ∷ ns) steady k u there =
    leaving_adds_no_unit w c n steady k u
    (all_leaving_add_no_unit w (after_leaving c n) ns (left_well w c n steady).holds_still k u there)

quit_adds_no_unit : (w : WorldValue) (c : CampaignValue) (number : ℕ) (x : Unit) → IsSteady w c
    → HasAllUnitsOf c (quit number c x).0
quit_adds_no_unit w c number x steady =
    quit_cases (HasAllUnitsOf c) c number x (λ k u there. there)
    (λ own. all_leaving_add_no_unit w c (numbers_of_faction x.faction c.units) steady)

is_own_unit : (c : CampaignValue) (t : Task) (x : Unit) → IsUnitOf c t x → is_own c t ≡ true
is_own_unit c t x own = ap (is_of_faction t.faction) own.there ∙ eq-eqb x.faction t.faction own.faction

own_before : (c d : CampaignValue) (t : Task) → HasAllUnitsOf c d → is_own d t ≡ true → is_own c t ≡ true
own_before c d t some own = by_unit (get d.units t.unit) refl own
  where
    by_unit : (o : Option Unit) → get d.units t.unit ≡ o → is_of_faction t.faction o ≡ true → is_own c t ≡ true
    by_unit None is h = cc
    by_unit (Some u) is h = ap (is_of_faction t.faction) (some t.unit u is) ∙ h

-- ---- by the campaign as the phase begins

-- The campaign is steady, and each order that now is for a unit of the faction that wrote it (`is_own`) was so as the
-- phase began.
abbrev OwnSince : CampaignValue → Condition
OwnSince begun w c = IsSteady w c × ((t : Task) → is_own c t ≡ true → is_own begun t ≡ true)

-- `begun` is the campaign as the phase of QUIT begins
module _ (begun : CampaignValue) where
  since_well : (w : WorldValue) (c : CampaignValue) (x : Unit) → OwnSince begun w c → (s : OperandsValue)
      → IfSome (quit_effect s) (λ effect. StepsWell (OwnSince begun) quit_remaining w c (effect c x).0)
  since_well w c x since (operands.Number number) =
      let well = quit_well w c number x since.0 in
      record {
        holds_still = (well.holds_still, λ s mine. since.1 s (own_before c (quit number c x).0 s (quit_adds_no_unit w c number x since.0) mine));
        same_month = well.same_month;
        balances = well.balances;
        uses_bound = well.uses_bound;
      }
  since_well w c x since other = tt

  -- QUIT keeps what `OwnSince` says, and a unit is no worse off, unless its faction quits by an order for a unit that
  -- was its own as the phase began (`IsOrderly`, `QuitsByOwnUnit`)
  since_orderly : IsOrderly quit_step (OwnSince begun) quit_remaining quit_moves (QuitsByOwnUnit begun) IsNoWorse
  since_orderly = record {
    well = λ w a c t x since fit own. since_well w c x since t.order_value.operands;
    unaffected_is_relation = no_worse_is_relation;
    is_unaffected = λ w a c t x since own n u there other.
        quit_orderly.is_unaffected w a c t x since.0 own n u there (λ quits. other (record { own = since.1 t (is_own_unit c t x own); faction = quits.0; names_own_number = quits.1 }));
    bounded = λ w c since. quit_orderly.bounded w c since.0;
  }

-- If the campaign is steady before the phase, and the mailings can be read with the world, each unit is there after it,
-- and no worse off. Excepted are units whose faction quits by an order for a unit that was its own as the phase began.
pub quit_leaves_others : (w : WorldValue) (c : CampaignValue) (m : MonthValue) → IsSteady w c → AreFit w m.readings
    → quit_keeps w m c (quit_meaning w c m).0
unfolding meaning_by_orders
quit_leaves_others w c m steady fit =
    orders_leave_others quit_step (since_orderly c) w c m (orders_of is_quitting ByUnit m.aliases m.readings) (steady, λ t own. own) (orders_fit w m.aliases m.readings fit is_quitting)
