-- Laws of a phase that carries out its orders one by one: what holds after it, and which units it leaves alone. The
-- remaining bound of an amount of the books is how far the amount may still move. In an orderly phase (`IsOrderly`)
-- each order keeps `holds` true, the month and the books' balance, and moves no amount further than its remaining bound
-- falls. Each order leaves the units that it doesn't affect as `unaffected` says. In the laws r, s and t are remaining
-- bounds, and a, b and c an amount or a campaign, before, between and after two moves.
use Rattle.std.proofs.Common.{suc, zero, ◌≡◌, ◌==◌, ◌+◌, ℕ, ◌≤◌, ◌<◌, Bool, true, false, List, [], ◌∷◌, length, map, get_or, Option, Some, None, refl, sym, ap, subst, arith}
use Rattle.std.proofs.lemmas.Option.{same_Some}
use Rattle.std.specs.Prelude.{ℤ, fold, IfSome, if◌then◌else◌}
use Rattle.std.specs.List.{All, AllByRecursion, slice_get}
use Rattle.std.proofs.lemmas.List.Elements.{All-from_recursion, recursion_from_All}
use Rattle.std.specs.FinMap.{FinMap, get}
use Rattle.std.specs.Ordering.{nat_cmp}
use Rattle.std.proofs.lemmas.Int.{ints}
use Rattle.atl_world.specs.Worlds.{WorldValue}
use Rattle.atl_world.proofs.GeneralLaws.{is_equal}
use Rattle.atl_world.specs.declared.verb.Verb.{Verb}
use Rattle.atl_orders.specs.Bounds.{IsEntry, IsOrderOf, IsReading}
use Rattle.atl_orders.specs.Mailing.{EntryValue, Reading}
use Rattle.atl_records.specs.declared.books.BooksEntry.{BooksEntry}
use Rattle.atl_records.specs.declared.books.Thing.{Thing}
use Rattle.atl_records.specs.declared.event.Outcome.{Outcome}
use Rattle.atl_records.specs.declared.event.Outcome.TheVariants.{Fault}
use Rattle.atl_records.specs.declared.records.Unit.{Unit}
use Rattle.atl_records.specs.Books.{amount_in}
use Rattle.atl_campaign.specs.Campaign.{CampaignValue}
use Rattle.atl_phase.specs.Month.{Aliases, MonthValue}
use Rattle.atl_phase.specs.Fit.{AreFit}
use Rattle.atl_phase.specs.Meaning.{BookBound, Condition, IsNear, LeavesWell}
use Rattle.atl_phase.specs.Bounds.{HasRoom, HaveRoom, IsOrderly, IsUnaffectedRelation, IsUnitOf, RemainingBound, StepsWell, UsesBound}
use Rattle.atl_phase.specs.PhaseOrders.{IsInMailing, Task, orders_of, task_of}
use Rattle.atl_phase.specs.NoWorse.{IsNoWorse}
use Rattle.atl_phase.specs.OrderEffects.{AreUnaffected, Affects, IsStillThere, OrderEffect, Unaffected, OrderMeaning, faction_effect, effect_on, of_faction, one_order, order_result, with_event_of}
use Rattle.atl_phase.specs.declared.phase_order.Arrangement.{Arrangement}
use Rattle.atl_phase.specs.declared.phase_order.Arrangement.TheVariants.{ByUnit}
use Rattle.atl_phase.specs.declared.phase_order.PhaseOrder.{PhaseOrder}
use Rattle.atl_phase.proofs.FoldLaws.{each_mapped}
use Rattle.atl_phase.proofs.MeaningLaws.{same_month, same_month_twice}
use Rattle.atl_phase.proofs.NoWorseLaws.{no_worse, no_worse_twice}
use Rattle.atl_phase.proofs.PhaseOrderLaws.{orders_are_in_mailings, orders_have_verbs}

-- ---- amounts

-- an amount that stays, with a remaining bound that stays, keeps within the bound (`UsesBound`)
pub bound_unused : (r : ℕ) (a : ℤ) → UsesBound r r a a
bound_unused r a = record { above = omega (arith, ints); below = omega (arith, ints) }

pub bound_unused_by : (r s : ℕ) (a b : ℤ) → s ≡ r → b ≡ a → UsesBound r s a b
bound_unused_by r s a b e f = record { above = omega (arith, ints, e, f); below = omega (arith, ints, e, f) }

-- if an amount moves twice, each time within what its remaining bound falls, it moves within the fall of both together
pub bound_used_twice : (r s t : ℕ) (a b c : ℤ) → UsesBound r s a b → UsesBound s t b c → UsesBound r t a c
bound_used_twice r s t a b c one two =
    record { above = omega (arith, ints, one.above, two.above); below = omega (arith, ints, one.below, two.below) }

-- an amount that moves by at most x moves within what its remaining bound falls, if this falls by x to `left`
pub bound_used_near : (x remaining left : ℕ) (a b : ℤ) → left + x ≡ remaining → IsNear x a b
    → UsesBound remaining left a b
bound_used_near x remaining left a b e near =
    record { above = omega (arith, ints, e, near.above); below = omega (arith, ints, e, near.below) }

near_by_bound : (r s most : ℕ) (a b : ℤ) → r ≤ most → UsesBound r s a b → IsNear most a b
near_by_bound r s most a b l h = record { above = omega (arith, ints, h.above); below = omega (arith, ints, h.below) }

room_after_use : (r s : ℕ) (a b : ℤ) → UsesBound r s a b → HasRoom r a → HasRoom s b
room_after_use r s a b h room =
    record { above = omega (arith, ints, h.above, room.above); below = omega (arith, ints, h.below, room.below) }

-- ---- steps

-- a step that changes nothing keeps `holds`, month and balance and moves no amount (`StepsWell`), if `holds` is true of
-- the campaign
pub well_same : {holds : Condition} {remaining : RemainingBound} (w : WorldValue) (c : CampaignValue) → holds w c
    → StepsWell holds remaining w c c
well_same {holds} {remaining} w c h =
    record { holds_still = h; same_month = same_month c; balances = λ b. b; uses_bound = λ e t. bound_unused (remaining c e t) (amount_in c.books e t) }

-- two steps in turn, which each keep `holds`, month and balance and move the books within their bound, do so together
-- (`StepsWell`)
pub well_twice : {holds : Condition} {remaining : RemainingBound} (w : WorldValue) (a b c : CampaignValue)
    → StepsWell holds remaining w a b → StepsWell holds remaining w b c → StepsWell holds remaining w a c
well_twice {holds} {remaining} w a b c one two = record {
  holds_still = two.holds_still;
  same_month = same_month_twice a b c one.same_month two.same_month;
  balances = λ h. two.balances (one.balances h);
  uses_bound = λ e t. bound_used_twice (remaining a e t) (remaining b e t) (remaining c e t) (amount_in a.books e t) (amount_in b.books e t) (amount_in c.books e t) (one.uses_bound e t) (two.uses_bound e t);
}

-- books with room for what remains before a step (`StepsWell`) have room after it for what remains then
pub room_left : {holds : Condition} {remaining : RemainingBound} (w : WorldValue) (a b : CampaignValue)
    → StepsWell holds remaining w a b → HaveRoom (remaining a) a → HaveRoom (remaining b) b
room_left {holds} {remaining} w a b well room e t =
    room_after_use (remaining a e t) (remaining b e t) (amount_in a.books e t) (amount_in b.books e t)
    (well.uses_bound e t) (room e t)

-- a step that keeps `holds`, month and balance, and moves amounts within their remaining bounds (`StepsWell`), moves
-- them within the phase's bounds (`LeavesWell`), if these are at least as large
pub leaves_well : {holds : Condition} {remaining : RemainingBound} {book_bound : BookBound} (w : WorldValue) (a b : CampaignValue)
    → ((e : BooksEntry) (t : Thing) → remaining a e t ≤ book_bound e t) → StepsWell holds remaining w a b
    → LeavesWell holds book_bound w a b
leaves_well {holds} {remaining} {book_bound} w a b l h = record {
  leaves_it = h.holds_still;
  same_month = h.same_month;
  balances = h.balances;
  near = λ e t. near_by_bound (remaining a e t) (remaining b e t) (book_bound e t) (amount_in a.books e t) (amount_in b.books e t) (l e t) (h.uses_bound e t);
}

-- to be no worse off is reflexive and transitive, and keeps the faction (`IsUnaffectedRelation`)
pub no_worse_is_relation : IsUnaffectedRelation IsNoWorse
no_worse_is_relation = record { same = no_worse; transitive = no_worse_twice; faction = λ u v h. h.faction }

-- ---- orders

-- P holds of the campaign and outcome after a faction's order for unit n, if it holds in two cases. These are the
-- unchanged campaign with the fault NotYours, and what the effect makes where unit n is there and of this faction.
pub carried_cases : (P : CampaignValue × Outcome → Type 0) (effect : OrderEffect) (c : CampaignValue) (faction n : ℕ)
    → P (c, Fault 1) → ((u : Unit) → get c.units n ≡ Some u → u.faction ≡ faction → P (effect c u))
    → P (faction_effect effect c faction n)
carried_cases P effect c faction n other own = by_unit (get c.units n) refl
  where
    by_faction : (u : Unit) → get c.units n ≡ Some u → (b : Bool) → (u.faction == faction) ≡ b
        → P (effect_on effect c (if b then Some u else None))
    by_faction u there true is = own u there (is_equal u.faction faction is)
    by_faction u there false is = other

    by_unit : (o : Option Unit) → get c.units n ≡ o → P (effect_on effect c (of_faction faction o))
    by_unit None there = other
    by_unit (Some u) there = by_faction u there (u.faction == faction) refl

-- P holds of the campaign after order t, if it holds of the one before, and of the one that t's effect makes where t's
-- unit is there and of the writer's faction. `step` is the effect; with None the phase passes t over, nothing changes.
pub ordered_cases : (P : CampaignValue → Type 0) (step : Option OrderEffect) (c : CampaignValue) (t : Task) → P c
    → ((x : Unit) → IsUnitOf c t x → IfSome step (λ effect. P (effect c x).0))
    → P (order_result step c t.faction t.unit).0
ordered_cases P None c t same done = same
ordered_cases P (Some effect) c t same done =
    carried_cases (λ p. P p.0) effect c t.faction t.unit same
    (λ x there faction. done x (record { there = there; faction = faction }))

abbrev with_some : CampaignValue × Outcome → CampaignValue × Option Outcome
with_some p = (p.0, Some p.1)

-- campaign d and outcome o, which the effect of an order of `faction` for unit n makes, are the order's result,
-- with the outcome in `Some`, if the phase doesn't pass the order over
pub result_of_effect : (effect : OrderEffect) (c d : CampaignValue) (faction n : ℕ) (o : Outcome)
    → (d, o) ≡ faction_effect effect c faction n → (d, Some o) ≡ order_result (Some effect) c faction n
result_of_effect effect c d faction n o is = ap with_some is

-- a phase that is `IsOrderly`, and of which `step` says what one order does. Each order keeps `holds` true, and moves
-- no amount further than `remaining` falls. `unaffected` relates each unit that it doesn't affect to the unit after it.
module _ (step : OrderMeaning) {holds : Condition} {remaining : RemainingBound} {book_bound : BookBound} {affects : Affects} {unaffected : Unaffected} (orderly : IsOrderly step holds remaining book_bound affects unaffected) (w : WorldValue) where
  -- Each order that can be read with the world, with a fault or without, keeps `holds`, month and balance, and moves
  -- amounts within their remaining bounds (`StepsWell`). For this `holds` is true before.
  pub order_well : (a : Aliases) (c : CampaignValue) (t : Task) → holds w c → IsOrderOf w t.order_value
      → StepsWell holds remaining w c (order_result (step w a t) c t.faction t.unit).0
  order_well a c t h fit =
      ordered_cases (StepsWell holds remaining w c) (step w a t) c t (well_same w c h)
      (λ x own. orderly.well w a c t x h fit own)

  -- each unit that an order doesn't affect is there after it, and `unaffected` relates what it was to what it is then,
  -- if `holds` is true before the order, and its phase is `IsOrderly`
  order_leaves_others : (a : Aliases) (c : CampaignValue) (t : Task) → holds w c → (n : ℕ) (u : Unit)
      → get c.units n ≡ Some u → (affects t n u.faction → ⊥)
      → IsStillThere unaffected (order_result (step w a t) c t.faction t.unit).0 n u
  order_leaves_others a c t h n u there other =
      ordered_cases (λ d. IsStillThere unaffected d n u) (step w a t) c t (record { unit = u; there = there; is_unaffected = orderly.unaffected_is_relation.same u }) (λ x own. orderly.is_unaffected w a c t x h own n u there other)

  orders_leave_other : (c : CampaignValue) (m : MonthValue) (ts : List Task) → holds w c
      → AllByRecursion (λ t. IsOrderOf w t.order_value) ts → (n : ℕ) (u : Unit) → get c.units n ≡ Some u
      → AllByRecursion (λ t. affects t n u.faction → ⊥) ts
      → IsStillThere unaffected (fold (one_order step w) (c, m) ts).0 n u
  orders_leave_other c m [] h fit n u there others =
      record { unit = u; there = there; is_unaffected = orderly.unaffected_is_relation.same u }
  orders_leave_other c m (t ∷ ts) h fit n u there others =
      let next = one_order step w (c, m) t in
      let one = order_leaves_others m.aliases c t h n u there others.0 in
      let same_faction = orderly.unaffected_is_relation.faction u one.unit one.is_unaffected in
      let rest = orders_leave_other next.0 next.1 ts (order_well m.aliases c t h fit.0).holds_still fit.1 n one.unit one.there (subst (λ f. AllByRecursion (λ t. affects t n f → ⊥) ts) (sym same_faction) others.1) in
      record { unit = rest.unit; there = rest.there; is_unaffected = orderly.unaffected_is_relation.transitive u one.unit rest.unit one.is_unaffected rest.is_unaffected }

  -- Once the orders `ts` are carried out one after another, from campaign c and month m, each unit that none of them
  -- affects is still there, and changed at most as `unaffected` allows. For this `holds` is true before, and the orders
  -- can be read with the world.
  pub orders_leave_others : (c : CampaignValue) (m : MonthValue) (ts : List Task) → holds w c
      → All (λ t. IsOrderOf w t.order_value) ts
      → AreUnaffected affects unaffected ts c (fold (one_order step w) (c, m) ts).0
  orders_leave_others c m ts h fit n u there others =
      orders_leave_other c m ts h (recursion_from_All (λ t. IsOrderOf w t.order_value) ts fit) n u there (recursion_from_All (λ t. affects t n u.faction → ⊥) ts others)

-- ---- the orders of a phase

-- `w` is the world with which the mailings can be read
module _ (w : WorldValue) where
  fit_at : (es : List EntryValue) (k : ℕ) (e : EntryValue) → AllByRecursion (IsEntry w) es → slice_get es k ≡ Some e
      → IsEntry w e
  fit_at [] k e all is = cc
  fit_at (x ∷ es) zero e all is = subst (IsEntry w) (same_Some _ _ is) all.0
  fit_at (x ∷ es) (suc k) e all is = fit_at es k e all.1 is

  entry_fit : (r : Reading) (k : ℕ) (e : EntryValue) → IsReading w r → slice_get r.entries k ≡ Some e
      → IsOrderOf w e.order_value
  entry_fit r k e fit is = (fit_at r.entries k e (recursion_from_All (IsEntry w) r.entries fit.entries) is).order

  -- the readings of the mailings, by faction (`readings`), which fit the world (`fit`)
  module _ (aliases : Aliases) (readings : FinMap nat_cmp Reading) (fit : AreFit w readings) where
    in_mailing_in_bounds : (t : Task) → IsInMailing aliases readings t → IsOrderOf w t.order_value
    in_mailing_in_bounds t h =
        subst (IsOrderOf w) h.says
        (entry_fit h.reading t.index h.entry (fit t.faction h.reading h.of_faction) h.at_index)

    -- where the mailings can be read with the world, so can each order of a phase with the verbs that pass `is_of`
    pub orders_fit : (is_of : Verb → Bool)
        → All (λ t. IsOrderOf w t.order_value) (orders_of is_of ByUnit aliases readings)
    orders_fit is_of k d l = in_mailing_in_bounds _ (orders_are_in_mailings is_of ByUnit aliases readings k d l)

    -- a phase with the verbs that pass `is_of`, whose orders are sorted as `a` says. P is so of each order with such a
    -- verb that can be read with the world (`so`).
    module _ (is_of : Verb → Bool) (a : Arrangement) (P : Task → Type 0) (so : (t : Task) → is_of t.order_value.verb ≡ true → IsOrderOf w t.order_value → P t) where
      -- what is so (P) of all orders that have a verb of the phase and can be read with the world is so of each order
      -- of the phase
      pub each_order : All P (orders_of is_of a aliases readings)
      each_order k d l =
          so _ (All-from_recursion (λ t. is_of t.order_value.verb ≡ true) (orders_of is_of a aliases readings) (orders_have_verbs is_of a aliases readings) k d l)
          (in_mailing_in_bounds _ (orders_are_in_mailings is_of a aliases readings k d l))

      -- What is so (P) of all orders that have a verb of the phase and can be read with the world is so of the order o
      -- at i in `os`. This is the code's list of the phase's orders.
      pub listed_order : (os : List PhaseOrder) → map task_of os ≡ orders_of is_of a aliases readings
          → (i : ℕ) (o : PhaseOrder) → o ≡ get_or os i o → i < length os → P (task_of o)
      listed_order os are i o is inside =
          subst (λ x. P (task_of x)) (sym is)
          (each_mapped P task_of os (orders_of is_of a aliases readings) are each_order i o inside)

event_keeps_readings : (m : MonthValue) (t : Task) (o : Option Outcome) → (with_event_of m t o).readings ≡ m.readings
event_keeps_readings m t None = refl
event_keeps_readings m t (Some outcome) = refl

-- an order leaves the mailings of the month as they are; p is the campaign and the month before it
pub order_readings : (step : OrderMeaning) (w : WorldValue) (p : CampaignValue × MonthValue) (t : Task)
    → (one_order step w p t).1.readings ≡ p.1.readings
order_readings step w p t = event_keeps_readings p.1 t (order_result (step w p.1.aliases t) p.0 t.faction t.unit).1
