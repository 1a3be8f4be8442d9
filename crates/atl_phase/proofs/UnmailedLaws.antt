-- Laws of phases and the units of a faction that sent no mailing: these keep their names, items and men, less those who
-- starve. The starved are the men whom the month's Starved events report (`starved_in`). What a phase leaves to units,
-- it leaves if it keeps what `keeps` says. In the laws a change or a phase makes campaign d of c.
use Rattle.std.proofs.Common.{◌≡◌, ◌≢◌, ◌==◌, ℕ, ◌+◌, ◌-◌, ◌≤◌, ◌<◌, Bool, true, false, List, [], ◌∷◌, ◌++◌, Option, Some, None, refl, sym, ap, subst, ◌∙◌, inl, inr, arith}
use Rattle.std.proofs.lemmas.Option.{same_Some}
use Rattle.std.specs.Prelude.{IfSome, fold, option_map, if◌then◌else◌}
use Rattle.std.specs.List.{All, AllByRecursion}
use Rattle.std.specs.Ordering.{nat_cmp}
use Rattle.std.specs.FinMap.{FinMap, get, insert}
use Rattle.std.proofs.lemmas.Bool.{cases_eq}
use Rattle.std.proofs.lemmas.List.Elements.{recursion_from_All}
use Rattle.std.proofs.lemmas.List.Sums.{sum_by_push}
use Rattle.atl_world.specs.Worlds.{WorldValue}
use Rattle.atl_world.specs.Sums.{with_changed_value}
use Rattle.atl_world.specs.declared.verb.Verb.{Verb}
use Rattle.atl_orders.specs.Mailing.{Reading}
use Rattle.atl_records.specs.declared.event.Event.{Event}
use Rattle.atl_records.specs.declared.event.EventFault.{EventFault}
use Rattle.atl_records.specs.declared.event.Outcome.{Outcome}
use Rattle.atl_records.specs.declared.records.Unit.{Unit}
use Rattle.atl_world.specs.Every.{Every}
use Rattle.atl_records.specs.Holdings.{amount_of}
use Rattle.atl_campaign.specs.Campaign.{CampaignValue, with_guard}
use Rattle.atl_campaign.specs.Owners.{after_handover, with_position, with_place}
use Rattle.atl_world.proofs.EveryLaws.{get-insert_other, none_some}
use Rattle.atl_campaign.proofs.RegionLaws.{get-insert_same}
use Rattle.atl_phase.specs.Month.{Aliases, MonthValue}
use Rattle.atl_phase.specs.Meaning.{Frame, Meaning, both_keep, then_also}
use Rattle.atl_phase.specs.Outcomes.{fault_or}
use Rattle.atl_phase.specs.PhaseOrders.{Task, orders_of}
use Rattle.atl_phase.specs.NoWorse.{IsNoWorse}
use Rattle.atl_phase.specs.OrderEffects.{Affects, IsOwnOrder, IsStillThere, OrderMeaning, Unaffected, event_for, meaning_by_orders, one_order, order_result, others_unaffected, with_event_of}
use Rattle.atl_phase.specs.Bounds.{IsUnitOf}
use Rattle.atl_phase.specs.Unmailed.{IsLeft, IsLessBy, men_starved_by, starved_in}
use Rattle.atl_phase.specs.declared.phase_order.Arrangement.{Arrangement}
use Rattle.atl_phase.specs.declared.phase_order.Arrangement.TheVariants.{ByUnit}
use Rattle.atl_phase.proofs.OrderEffectLaws.{order_readings, ordered_cases}
use Rattle.atl_phase.proofs.StructureLaws.{at_number, get-changed, handed_is, placed_cases}
use Rattle.atl_phase.proofs.PhaseOrderLaws.{orders_are_in_mailings}

-- ---- phases one after the other

-- The phase keeps the mailings, takes back no Starved event, and leaves units of factions without a mailing their
-- names, their items, and their men less the starved.
pub record LeavesUnmailed (meaning : Meaning) (keeps : Frame) : Type 0 where
  pub readings : (w : WorldValue) (c : CampaignValue) (m : MonthValue) → (meaning w c m).1.readings ≡ m.readings
  -- of each unit the events report no fewer starved men than before the phase
  pub starved_reported : (w : WorldValue) (c : CampaignValue) (m : MonthValue) (n : ℕ)
      → starved_in m.events n ≤ starved_in (meaning w c m).1.events n
  -- If the phase keeps what `keeps` says, each unit of a faction without a mailing is there after it. It has its
  -- faction and name, no less of any item, and its men less exactly those whom the phase's events report as starved.
  pub left : (w : WorldValue) (c : CampaignValue) (m : MonthValue) → keeps w m c (meaning w c m).0 →
      Every (λ n u. get m.readings u.faction ≡ None → IsStillThere (IsLessBy (starved_in (meaning w c m).1.events n - starved_in m.events n)) (meaning w c m).0 n u) c.units

-- The phase takes back no Starved event, and may change the mailings. Units of factions without a mailing keep their
-- names, their items, and their men less the starved, or are removed if all their men starve.
pub record ClosesUnmailed (meaning : Meaning) (keeps : Frame) : Type 0 where
  -- of each unit the events report no fewer starved men than before the phase
  pub starved_reported : (w : WorldValue) (c : CampaignValue) (m : MonthValue) (n : ℕ)
      → starved_in m.events n ≤ starved_in (meaning w c m).1.events n
  -- If the phase keeps what `keeps` says, each unit of a faction without a mailing is left its faction and name, no
  -- less of any item, and its men less the starved. These are exactly those whom the phase's events report, and no more
  -- than it has. If all its men starve, it is removed instead (`IsLeft`).
  pub left : (w : WorldValue) (c : CampaignValue) (m : MonthValue) → keeps w m c (meaning w c m).0 →
      Every (λ n u. get m.readings u.faction ≡ None → IsLeft (starved_in (meaning w c m).1.events n - starved_in m.events n) (meaning w c m).0 n u) c.units

-- A unit that has y - x men less after one phase, and then z - y less after the next, has z - x less (`IsLessBy`). Of
-- its men x had starved before both phases, y by the end of the first, and z by the end of the second.
less_twice : (x y z : ℕ) (u v t : Unit) → x ≤ y → y ≤ z → IsLessBy (y - x) u v → IsLessBy (z - y) v t
    → IsLessBy (z - x) u t
less_twice x y z u v t l k one two = record {
  faction = two.faction ∙ one.faction;
  name = two.name ∙ one.name;
  men = less u.holding.men v.holding.men t.holding.men one.men two.men;
  items = λ i. omega (arith, one.items i, two.items i);
}
  where
    less : (a b d : ℕ) → b + (y - x) ≡ a → d + (z - y) ≡ b → d + (z - x) ≡ a
    less a b d e f = omega (arith, l, k)

-- if fewer men of a unit starved in two phases (z - x) than it had (a), fewer starved in the second (z - y) than were
-- left after the first (b)
some_left : (x y z a b : ℕ) → x ≤ y → y ≤ z → b + (y - x) ≡ a → z - x < a → z - y < b
some_left x y z a b l k e some = omega arith

-- if all men of a unit (a) starved in two phases (z - x), all who were left after the first (b) starved in the second
-- (z - y)
none_left : (x y z a b : ℕ) → x ≤ y → y ≤ z → b + (y - x) ≡ a → z - x ≡ a → z - y ≡ b
none_left x y z a b l k e all = omega arith

still_none : {first : Meaning} {early : Frame} → LeavesUnmailed first early
    → (w : WorldValue) (c : CampaignValue) (m : MonthValue) (f g : ℕ) → g ≡ f → get m.readings f ≡ None
    → get (first w c m).1.readings g ≡ None
still_none one w c m f g same none =
    ap (λ (r : FinMap nat_cmp Reading). get r g) (one.readings w c m) ∙ ap (get m.readings) same ∙ none

-- two phases, `first` and then `second`, with what each keeps: `early` for the first, and `late` for the second
module _ {first second : Meaning} {early late : Frame} where
  -- two phases in turn leave units of factions without a mailing their names and items, and their men less the starved
  -- (`LeavesUnmailed`), if each does
  pub both_leave : LeavesUnmailed first early → LeavesUnmailed second late
      → LeavesUnmailed (then_also first second) (both_keep first early late)
  both_leave one two = record {
    readings = λ w c m. two.readings w (first w c m).0 (first w c m).1 ∙ one.readings w c m;
    starved_reported = λ w c m n. omega (arith, one.starved_reported w c m n, two.starved_reported w (first w c m).0 (first w c m).1 n);
    left = λ w c m keeps n u there none.
        let between = first w c m in
        let a = one.left w c m keeps.0 n u there none in
        let b = two.left w between.0 between.1 keeps.1 n a.unit a.there (still_none one w c m u.faction a.unit.faction a.is_unaffected.faction none) in
        record { unit = b.unit; there = b.there; is_unaffected = less_twice _ _ _ u a.unit b.unit (one.starved_reported w c m n) (two.starved_reported w between.0 between.1 n) a.is_unaffected b.is_unaffected };
  }

  -- The first phase leaves units of factions without a mailing their names, items and men less the starved
  -- (`LeavesUnmailed`). The second also removes those whose men all starve (`ClosesUnmailed`). Then so do both in turn.
  pub then_closes : LeavesUnmailed first early → ClosesUnmailed second late
      → ClosesUnmailed (then_also first second) (both_keep first early late)
  then_closes one two = record {
    starved_reported = λ w c m n. omega (arith, one.starved_reported w c m n, two.starved_reported w (first w c m).0 (first w c m).1 n);
    left = λ w c m keeps n u there none.
        let between = first w c m in
        let a = one.left w c m keeps.0 n u there none in
        let early = one.starved_reported w c m n in
        let late = two.starved_reported w between.0 between.1 n in
        let left = two.left w between.0 between.1 keeps.1 n a.unit a.there (still_none one w c m u.faction a.unit.faction a.is_unaffected.faction none) in
        record {
          most = omega (arith, early, late, a.is_unaffected.men, left.most);
          fewer = λ some.
              let b = left.fewer (some_left _ _ _ u.holding.men a.unit.holding.men early late a.is_unaffected.men some) in
              record { unit = b.unit; there = b.there; is_unaffected = less_twice _ _ _ u a.unit b.unit early late a.is_unaffected b.is_unaffected };
          all = λ every. left.all (none_left _ _ _ u.holding.men a.unit.holding.men early late a.is_unaffected.men every);
        };
  }

-- ---- a phase in which nobody starves: men and items

-- The unit has after a change the same faction and exactly as many men as before.
pub record HasItsMen (before after : Unit) : Type 0 where
  pub faction : after.faction ≡ before.faction
  pub men : after.holding.men ≡ before.holding.men

-- each unit of the campaign before is in the campaign after, with its faction and exactly as many men
abbrev pub HaveTheirMen : CampaignValue → CampaignValue → Type 0
HaveTheirMen before after = Every (λ n u. IsStillThere HasItsMen after n u) before.units

pub men_stay : (c : CampaignValue) → HaveTheirMen c c
men_stay c n u there = record { unit = u; there = there; is_unaffected = record { faction = refl; men = refl } }

pub men_twice : (a b c : CampaignValue) → HaveTheirMen a b → HaveTheirMen b c → HaveTheirMen a c
men_twice a b c one two n u there =
    let x = one n u there in
    let y = two n x.unit x.there in
    record { unit = y.unit; there = y.there; is_unaffected = record { faction = y.is_unaffected.faction ∙ x.is_unaffected.faction; men = y.is_unaffected.men ∙ x.is_unaffected.men } }

-- in a campaign with the same units all have their men (`HaveTheirMen`)
pub men_same : (c d : CampaignValue) → d.units ≡ c.units → HaveTheirMen c d
men_same c d same n u there =
    record { unit = u; there = ap (λ (m : FinMap nat_cmp Unit). get m n) same ∙ there; is_unaffected = record { faction = refl; men = refl } }

-- if f keeps the faction and the men of every unit, to change unit k by f leaves all units their men (`HaveTheirMen`);
-- where there is no unit k, nothing changes
pub men_changed : (f : Unit → Unit) → ((u : Unit) → HasItsMen u (f u)) → (c d : CampaignValue) (k : ℕ)
    → d.units ≡ with_changed_value f c.units k → HaveTheirMen c d
men_changed f stay c d k same n u there =
    record { unit = at_number f c.units k n u; there = ap (λ (m : FinMap nat_cmp Unit). get m n) same ∙ get-changed f c.units k n ∙ ap (option_map (at_number f c.units k n)) there; is_unaffected = by_number (n == k) }
  where
    by_number : (b : Bool) → HasItsMen u (if b then f u else u)
    by_number true = stay u
    by_number false = record { faction = refl; men = refl }

-- x in place of v, which is unit k, leaves all units their men (`HaveTheirMen`), if x has v's faction and as many men
pub men_put : (c d : CampaignValue) (k : ℕ) (v x : Unit) → get c.units k ≡ Some v → HasItsMen v x
    → d.units ≡ insert c.units k x → HaveTheirMen c d
men_put c d k v x here stay same n u there = elim (cases_eq n k) [
  | inl own ↦
      let unit : v ≡ u = same_Some _ _ (sym here ∙ ap (get c.units) (sym own) ∙ there) in
      record { unit = x; there = ap (λ (m : FinMap nat_cmp Unit). get m n) same ∙ ap (get (insert c.units k x)) own ∙ get-insert_same c.units k x; is_unaffected = subst (λ y. HasItsMen y x) unit stay }
  | inr apart ↦
      record { unit = u; there = ap (λ (m : FinMap nat_cmp Unit). get m n) same ∙ get-insert_other c.units k n x apart ∙ there; is_unaffected = record { faction = refl; men = refl } }
]

-- steps in turn, one for each of `xs`, leave all units their men (`HaveTheirMen`), if each does so in every campaign
pub men_in_turn : {X : Type 0} (step : CampaignValue → X → CampaignValue)
    → ((c : CampaignValue) (x : X) → HaveTheirMen c (step c x)) → (c : CampaignValue) (xs : List X)
    → HaveTheirMen c (fold step c xs)
men_in_turn step each c [] = men_stay c
men_in_turn step each c (x ∷ xs) =
    men_twice c (step c x) (fold step (step c x) xs) (each c x) (men_in_turn step each (step c x) xs)

-- an order, with a fault or without, leaves all units their men (`HaveTheirMen`), if it does without one, as d
pub men_unless : (c d : CampaignValue) (o : Outcome) (fault : Option EventFault) → HaveTheirMen c d
    → HaveTheirMen c (fault_or c fault (d, o)).0
men_unless c d o (Some fault) h = men_stay c
men_unless c d o None h = h

flag_men : (flag : Bool) (u : Unit) → HasItsMen u (record u { holding = record u.holding { guard = flag } })
flag_men flag u = record { faction = refl; men = refl }

-- setting or clearing the guard flag of unit n leaves all units their men (`HaveTheirMen`)
pub guard_men : (c : CampaignValue) (n : ℕ) (flag : Bool) → HaveTheirMen c (with_guard c n flag)
guard_men c n flag =
    men_changed (λ u. record u { holding = record u.holding { guard = flag } }) (flag_men flag) c (with_guard c n flag)
    n refl

-- putting unit n in region r and structure s leaves all units their men (`HaveTheirMen`)
pub place_men : (c : CampaignValue) (n r s : ℕ) → HaveTheirMen c (with_place c n r s)
place_men c n r s =
    let there : Unit → Unit = λ u. record u { region = r; structure = s } in
    placed_cases (HaveTheirMen c) c n r s (men_stay c) (men_changed there (λ u. record { faction = refl; men = refl }) c (with_position c n r s) n refl)
    (λ d k from to h. men_twice c d (after_handover d k from to) h (men_same d (after_handover d k from to) (ap (λ (e : CampaignValue). e.units) (handed_is d k from to))))

-- The unit has after a change the same name, and no less of any item than before.
pub record HasItsItems (before after : Unit) : Type 0 where
  pub name : after.holding.name ≡ before.holding.name
  pub items : (i : ℕ) → amount_of before.holding.items i ≤ amount_of after.holding.items i

-- a unit that is no worse off has its name, and no less of any item
pub items_of_no_worse : (u v : Unit) → IsNoWorse u v → HasItsItems u v
items_of_no_worse u v h = record { name = h.name; items = h.items }

-- each unit whose faction sent no mailing is in the campaign after, and `unaffected` relates what it was to what it is
-- then
abbrev pub UnmailedAre : Unaffected → MonthValue → CampaignValue → CampaignValue → Type 0
UnmailedAre unaffected m before after =
    Every (λ n u. get m.readings u.faction ≡ None → IsStillThere unaffected after n u) before.units

none_less : (x y : ℕ) (u v : Unit) → y ≡ x → HasItsMen u v → HasItsItems u v → IsLessBy (y - x) u v
none_less x y u v same men items =
    record { faction = men.faction; name = items.name; men = nobody u.holding.men v.holding.men men.men; items = items.items }
  where
    nobody : (a b : ℕ) → b ≡ a → b + (y - x) ≡ a
    nobody a b e = omega (arith, same)

-- A phase that keeps the mailings (`readings`), and reports no man as starved (`nobody`). If it keeps what `keeps`
-- says, units of factions without a mailing are there after it, with faction and men (`men`), name and items (`items`).
module _ {meaning : Meaning} {keeps : Frame} (readings : (w : WorldValue) (c : CampaignValue) (m : MonthValue) → (meaning w c m).1.readings ≡ m.readings)
    (nobody : (w : WorldValue) (c : CampaignValue) (m : MonthValue) (n : ℕ) → starved_in (meaning w c m).1.events n ≡ starved_in m.events n)
    (men : (w : WorldValue) (c : CampaignValue) (m : MonthValue) → keeps w m c (meaning w c m).0 → UnmailedAre HasItsMen m c (meaning w c m).0)
    (items : (w : WorldValue) (c : CampaignValue) (m : MonthValue) → keeps w m c (meaning w c m).0 → UnmailedAre HasItsItems m c (meaning w c m).0) where
  -- such a phase leaves units of factions without a mailing their names, items and men (`LeavesUnmailed`)
  pub whole_leaves : LeavesUnmailed meaning keeps
  whole_leaves = record {
    readings = readings;
    starved_reported = λ w c m n. omega (arith, nobody w c m n);
    left = λ w c m h n u there none.
        let one = men w c m h n u there none in
        let two = items w c m h n u there none in
        let unit : two.unit ≡ one.unit = same_Some _ _ (sym two.there ∙ one.there) in
        record { unit = one.unit; there = one.there; is_unaffected = none_less _ _ u one.unit (nobody w c m n) one.is_unaffected (subst (HasItsItems u) unit two.is_unaffected) };
  }

-- ---- a phase whose orders are carried out one by one

-- no order of a phase with the verbs that pass `is_of` is of a faction f without a mailing
pub none_ordered : (is_of : Verb → Bool) (arrangement : Arrangement) (m : MonthValue) (f : ℕ) → get m.readings f ≡ None
    → All (λ t. t.faction ≢ f) (orders_of is_of arrangement m.aliases m.readings)
none_ordered is_of arrangement m f none k d l same =
    let h = orders_are_in_mailings is_of arrangement m.aliases m.readings k d l in
    none_some h.reading (sym none ∙ ap (get m.readings) (sym same) ∙ h.of_faction)

-- the event of an order reports no man of any unit n as starved
pub order_event_starves_none : (events : List Event) (t : Task) (outcome : Outcome) (n : ℕ)
    → starved_in (events ++ event_for t outcome ∷ []) n ≡ starved_in events n
order_event_starves_none events t outcome n =
    sum_by_push (λ (e : Event). if e.unit == n then men_starved_by e.verb e.outcome else 0) events (event_for t outcome)
    ∙ by_unit (t.unit == n) (starved_in events n)
  where
    by_unit : (b : Bool) (x : ℕ) → x + (if b then 0 else 0) ≡ x
    by_unit true x = omega arith
    by_unit false x = omega arith

-- each unit of another faction than the given one is in the campaign after, with its faction and exactly as many men as
-- in the campaign before
abbrev pub OthersHaveMen : (faction : ℕ) → CampaignValue → CampaignValue → Type 0
OthersHaveMen f c d = Every (λ n u. f ≢ u.faction → IsStillThere HasItsMen d n u) c.units

-- where all units have their men, so have those of other factions than f
pub others_men : (f : ℕ) (c d : CampaignValue) → HaveTheirMen c d → OthersHaveMen f c d
others_men f c d men n u there other = men n u there

-- the effect that `step` gives an order on a unit of its writer's faction leaves every unit of another faction its men
-- (`OthersHaveMen`)
abbrev pub LeavesOthersMen : OrderMeaning → Type 0
LeavesOthersMen step =
    (w : WorldValue) (a : Aliases) (c : CampaignValue) (t : Task) (x : Unit) → IsUnitOf c t x → IfSome (step w a t)
    (λ effect. OthersHaveMen t.faction c (effect c x).0)

-- a phase that carries its orders out one by one; `step` says what one order does
module _ (step : OrderMeaning) where
  order_leaves_men : LeavesOthersMen step → (w : WorldValue) (a : Aliases) (c : CampaignValue) (t : Task)
      → OthersHaveMen t.faction c (order_result (step w a t) c t.faction t.unit).0
  order_leaves_men unaffected w a c t =
      ordered_cases (OthersHaveMen t.faction c) (step w a t) c t (others_men t.faction c c (men_stay c))
      (λ x own. unaffected w a c t x own)

  orders_leave_men : LeavesOthersMen step → (w : WorldValue) (c : CampaignValue) (m : MonthValue) (ts : List Task)
      → (n : ℕ) (u : Unit) → get c.units n ≡ Some u → AllByRecursion (λ t. t.faction ≢ u.faction) ts
      → IsStillThere HasItsMen (fold (one_order step w) (c, m) ts).0 n u
  orders_leave_men unaffected w c m [] n u there others = men_stay c n u there
  orders_leave_men unaffected w c m (t ∷ ts) n u there others =
      let next = one_order step w (c, m) t in
      let one = order_leaves_men unaffected w m.aliases c t n u there others.0 in
      let two = orders_leave_men unaffected w next.0 next.1 ts n one.unit one.there (subst (λ f. AllByRecursion (λ t. t.faction ≢ f) ts) (sym one.is_unaffected.faction) others.1) in
      record { unit = two.unit; there = two.there; is_unaffected = record { faction = two.is_unaffected.faction ∙ one.is_unaffected.faction; men = two.is_unaffected.men ∙ one.is_unaffected.men } }

  orders_readings : (w : WorldValue) (p : CampaignValue × MonthValue) (ts : List Task)
      → (fold (one_order step w) p ts).1.readings ≡ p.1.readings
  orders_readings w p [] = refl
  orders_readings w p (t ∷ ts) = orders_readings w (one_order step w p t) ts ∙ order_readings step w p t

  order_starves_none : (w : WorldValue) (p : CampaignValue × MonthValue) (t : Task) (n : ℕ)
      → starved_in (one_order step w p t).1.events n ≡ starved_in p.1.events n
  order_starves_none w p t n = by_outcome (order_result (step w p.1.aliases t) p.0 t.faction t.unit).1
    where
      by_outcome : (o : Option Outcome) → starved_in (with_event_of p.1 t o).events n ≡ starved_in p.1.events n
      by_outcome None = refl
      by_outcome (Some outcome) = order_event_starves_none p.1.events t outcome n

  orders_starve_none : (w : WorldValue) (p : CampaignValue × MonthValue) (ts : List Task) (n : ℕ)
      → starved_in (fold (one_order step w) p ts).1.events n ≡ starved_in p.1.events n
  orders_starve_none w p [] n = refl
  orders_starve_none w p (t ∷ ts) n = orders_starve_none w (one_order step w p t) ts n ∙ order_starves_none w p t n

  -- the phase has the verbs that pass `is_of`
  module _ (is_of : Verb → Bool) where
    -- a phase that carries its orders out one by one keeps the mailings
    pub carried_readings : (w : WorldValue) (c : CampaignValue) (m : MonthValue)
        → (meaning_by_orders step is_of w c m).1.readings ≡ m.readings
    unfolding meaning_by_orders
    carried_readings w c m = orders_readings w (c, m) (orders_of is_of ByUnit m.aliases m.readings)

    -- a phase that carries its orders out one by one reports no man of any unit n as starved
    pub carried_starve_none : (w : WorldValue) (c : CampaignValue) (m : MonthValue) (n : ℕ)
        → starved_in (meaning_by_orders step is_of w c m).1.events n ≡ starved_in m.events n
    unfolding meaning_by_orders
    carried_starve_none w c m n = orders_starve_none w (c, m) (orders_of is_of ByUnit m.aliases m.readings) n

    -- Units of factions without a mailing are there, with faction and men, after a phase that carries its orders out
    -- one by one. For this each order must leave the units of all factions but its writer's their men.
    pub carried_men : LeavesOthersMen step → (w : WorldValue) (c : CampaignValue) (m : MonthValue)
        → UnmailedAre HasItsMen m c (meaning_by_orders step is_of w c m).0
    unfolding meaning_by_orders
    carried_men unaffected w c m n u there none =
        let ts = orders_of is_of ByUnit m.aliases m.readings in
        orders_leave_men unaffected w c m ts n u there (recursion_from_All (λ t. t.faction ≢ u.faction) ts (none_ordered is_of ByUnit m u.faction none))

    -- A phase that carries out its orders one by one leaves units of factions without a mailing their names, items and
    -- men (`LeavesUnmailed`). For this each order must leave units of other factions their men (`LeavesOthersMen`).
    -- Where `keeps` is so of a change from c to d, units of factions without a mailing must keep their names and items
    -- (`HasItsItems`).
    pub carried_leaves : {keeps : Frame} → LeavesOthersMen step
        → ((w : WorldValue) (c d : CampaignValue) (m : MonthValue) → keeps w m c d → UnmailedAre HasItsItems m c d)
        → LeavesUnmailed (meaning_by_orders step is_of) keeps
    carried_leaves {keeps} unaffected items =
        whole_leaves {meaning = meaning_by_orders step is_of} {keeps = keeps} carried_readings carried_starve_none
        (λ w c m h. carried_men unaffected w c m) (λ w c m h. items w c (meaning_by_orders step is_of w c m).0 m h)

-- an order that is the own order of unit n of faction f (`IsOwnOrder`) is of faction f
pub own_faction : (t : Task) (n f : ℕ) → IsOwnOrder t n f → t.faction ≡ f
own_faction t n f h = h.faction

-- Units that no order of the phase affects change from c to d at most as `unaffected` allows. Then units of factions
-- without a mailing are still there, with their names and no less of any item (`HasItsItems`). For this only orders of
-- its own faction may affect a unit, and `unaffected` must keep name and items. `is_of` tests for the phase's verbs.
pub unmailed_keep_items : {affects : Affects} {unaffected : Unaffected} (is_of : Verb → Bool)
    → ((t : Task) (n f : ℕ) → affects t n f → t.faction ≡ f) → ((u v : Unit) → unaffected u v → HasItsItems u v)
    → (w : WorldValue) (c d : CampaignValue) (m : MonthValue) → others_unaffected affects unaffected is_of w m c d
    → UnmailedAre HasItsItems m c d
unmailed_keep_items {affects} {unaffected} is_of own items w c d m h n u there none =
    let others = none_ordered is_of ByUnit m u.faction none in
    let one = h n u there (λ k e l concerned. others k e l (own _ n u.faction concerned)) in
    record { unit = one.unit; there = one.there; is_unaffected = items u one.unit one.is_unaffected }
