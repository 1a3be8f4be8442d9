-- Laws of FORM: the campaign stays early, its books balanced, all that changes is marked,
-- and each unit that was there is unchanged. A copy (`Forming`) of an order of FORM has what the code needs to carry it
-- out. Orders are carried out on a pair of a campaign and a month; m is the month.
use Rattle.std.proofs.Common.{◌≡◌, ◌≢◌, ◌==◌, ◌||◌, ◌*◌, ℕ, ◌+◌, ◌≤◌, ◌<◌, Bool, true, false, Some, None, length, nat_le, nat_lt, refl, sym, ap, ◌∙◌, arith, not, List, [], ◌∷◌, Option, map, subst}
use Rattle.std.proofs.lemmas.Bool.{true≢false}
use Rattle.std.specs.Prelude.{IsTrue, unwrap_or, fold}
use Rattle.std.specs.Ordering.{nat_cmp}
use Rattle.std.specs.FinMap.{FinMap, get, get-empty, insert, len}
use Rattle.std.proofs.lemmas.Bool.Decides.{nat_tests}
use Rattle.atl_world.specs.Names.{name_ok}
use Rattle.atl_world.specs.Worlds.{WorldValue}
use Rattle.atl_world.proofs.SumLaws.{numbers_where-insert_other}
use Rattle.atl_world.specs.ByNumber.{is_land_at}
use Rattle.atl_campaign.specs.Covers.{MarksChanges}
use Rattle.atl_records.specs.Limits.{holding_limit, last_unit, most_days, most_units}
use Rattle.atl_records.specs.declared.books.Thing.{Thing}
use Rattle.atl_records.specs.declared.books.Thing.TheVariants.{Item, Money, People}
use Rattle.atl_records.specs.declared.records.Unit.{Unit}
use Rattle.atl_world.specs.Every.{Every}
use Rattle.atl_campaign.specs.Good.{AreAfloat, AreInRange, AreKnown, AreNamed, AreNumbered, AreOfOneFaction, AreOwned, GoneHaveNone, IsAboard, IsEarly, IsPlaced, IsSteady, guards}
use Rattle.atl_records.specs.Holdings.{IsHolding}
use Rattle.atl_campaign.specs.Marking.{mark_unit_added, mark_unit_begun}
use Rattle.atl_campaign.specs.Campaign.{MarkedCampaign, CampaignValue, with_unit, with_unit_begun}
use Rattle.atl_records.specs.Amounts.{unit_amount}
use Rattle.atl_campaign.specs.Totals.{total}
use Rattle.atl_campaign.proofs.CoverLaws.{Row, PartStaysMarked, KeepsUnmarked, marks-trans, marks-unit, part_by_part}
use Rattle.atl_world.proofs.EveryLaws.{every-empty, every-insert, get-insert_other, there-insert}
use Rattle.atl_campaign.proofs.NumberListLaws.{none_passing}
use Rattle.atl_campaign.proofs.TotalLaws.{total-with_unit}
use Rattle.atl_phase.specs.Bounds.{StepsWell, nothing_remaining}
use Rattle.atl_phase.proofs.MeaningLaws.{same_month_by}
use Rattle.atl_phase.proofs.UnbookedLaws.{unbooked_well}
use Rattle.atl_instant.specs.Form.{is_unit_limit, new_unit, form_by, form_meaning, form_order, is_forming, with_formed_unit}
use Rattle.atl_campaign.proofs.NumberedNameLaws.{unit_name_ok}
use Rattle.atl_campaign.proofs.JoinLaws.{len_new, still_there}
use Rattle.std.specs.Option.{option_map_or}
use Rattle.atl_world.proofs.GeneralLaws.{is_equal}
use Rattle.atl_records.specs.declared.event.EventFault.TheVariants.{NotYours, UnitLimit}
use Rattle.atl_records.specs.declared.event.Outcome.TheVariants.{Done}
use Rattle.atl_phase.specs.Month.{MonthValue}
use Rattle.atl_phase.specs.Inside.{structure_of_unit, region_of}
use Rattle.atl_phase.specs.Outcomes.{fault_or, first_fault}
use Rattle.atl_phase.specs.PhaseOrders.{Task, orders_of}
use Rattle.atl_phase.specs.OrderEffects.{is_of_faction}
use Rattle.atl_phase.specs.declared.phase_order.Arrangement.TheVariants.{ByFaction}
use Rattle.atl_phase.proofs.OrderEffectLaws.{well_same}
use Rattle.atl_instant.specs.Forming.{form_by_copy, forming_of}
use Rattle.atl_instant.specs.declared.form.Forming.{Forming}

-- ---- a campaign in which a unit has formed another

below_limits : (u n : ℕ) → (nat_le most_units u || nat_lt last_unit n) ≡ false → (u < most_units) × (n ≤ last_unit)
below_limits u n h = (grind (arith, nat_tests), grind (arith, nat_tests))

-- where the unit limit isn't reached, there are fewer than 100,000 units, and the next number is at most 999,999,999
pub unit_limits_not_reached : (c : CampaignValue) → is_unit_limit c ≡ false
    → (len c.units < most_units) × (c.next_unit ≤ last_unit)
unit_limits_not_reached c h = below_limits (len c.units) c.next_unit h

-- unit p (u) of the early campaign c forms a unit (`child`) with the next unit number, which makes the campaign `begun`
module _ (w : WorldValue) (c : CampaignValue) (p : ℕ) (u : Unit) (is : get c.units p ≡ Some u) (early : IsEarly w c) where
  abbrev child : Unit
  child = new_unit c.next_unit u.faction u.region u.structure

  abbrev units : FinMap nat_cmp Unit
  units = insert c.units c.next_unit child

  -- the campaign after unit p formed a unit
  abbrev begun : CampaignValue
  begun = with_unit_begun c child

  old : IsSteady w c
  old = early.steady

  free : get c.units c.next_unit ≡ None
  free = old.next.units c.next_unit (omega arith)

  unit_stays : Every (λ n v. get units n ≡ Some v) c.units
  unit_stays n v there = still_there c.units c.next_unit n child v free there

  numbers_kept : is_unit_limit c ≡ false → AreInRange w begun
  numbers_kept limit =
      let r = unit_limits_not_reached c limit in
      let n = old.numbers in
      record {
        month = n.month;
        few_factions = n.few_factions;
        few_regions = n.few_regions;
        few_units = omega (arith, len_new c.units c.next_unit child free, r.0);
        few_structures = n.few_structures;
        next_unit_least = omega arith;
        next_unit_most = omega (arith, r.1);
        factions = n.factions;
        regions = n.regions;
        units = every-insert (λ k x. (1 ≤ k) × IsHolding x.holding) c.units c.next_unit child (n.next_unit_least, record { men = omega arith; money = omega arith; items = every-empty (λ item amount. (1 ≤ amount) × (amount ≤ holding_limit)) }) n.units;
        structures = n.structures;
        books = n.books;
      }

  names_kept : is_unit_limit c ≡ false → AreNamed begun
  names_kept limit =
      let n = old.names in
      record {
        pass = n.pass;
        factions = n.factions;
        joined = n.joined;
        units = every-insert (λ k x. IsTrue (name_ok x.holding.name)) c.units c.next_unit child (unit_name_ok c.next_unit (unit_limits_not_reached c limit).1) n.units;
        structures = n.structures;
      }

  known_kept : AreKnown w begun
  known_kept =
      let k = old.known in
      record {
        regions = k.regions;
        markets = k.markets;
        units = every-insert (λ n x. IsPlaced w begun x) c.units c.next_unit child
            (let q = k.units p u is in record { faction = q.faction; region = q.region; structure = q.structure; items = every-empty (λ i amount. i < length w.items); skills = every-empty (λ s days. s < length w.skills) })
            k.units;
        structures = λ n s there. let b = k.structures n s there in record { kind = b.kind; region = b.region; owner = λ owned. there-insert c.units c.next_unit s.owner child (b.owner owned) };
        posts = k.posts;
      }

  next_kept : AreNumbered begun
  next_kept = record {
    factions = old.next.factions;
    structures = old.next.structures;
    units = λ q above. get-insert_other c.units c.next_unit q child (λ same. omega arith) ∙ old.next.units q (omega arith);
  }

  gone_kept : GoneHaveNone begun
  gone_kept m f there gone =
      let test = λ (x : Unit). x.faction == m in
      let none = old.gone m f there gone in
      numbers_where-insert_other test c.units c.next_unit child free (none_passing test c.units none p u is) ∙ none

  owners_kept : AreOwned begun
  owners_kept n s there =
      let o = old.owners n s there in
      record {
        owned = λ some. let (v, here, inside) = o.owned some in (v, unit_stays s.owner v here, inside);
        ownerless = λ none. every-insert (λ m x. x.structure ≢ n) c.units c.next_unit child (o.ownerless none p u is) (o.ownerless none);
      }

  water_kept : AreAfloat w begun
  water_kept = record {
    units = every-insert (λ n x. is_land_at w x.region ≡ false → IsAboard w begun x) c.units c.next_unit child (old.water.units p u is) old.water.units;
    structures = old.water.structures;
  }

  one_faction_kept : (test : Unit → Bool) → test child ≡ false → AreOfOneFaction test c → AreOfOneFaction test begun
  one_faction_kept test fails one =
      every-insert (λ n x. Every (λ m y. test x ≡ true → test y ≡ true → x.region ≡ y.region → x.faction ≡ y.faction) units) c.units c.next_unit child (λ m y there e. absurd (true≢false (sym e ∙ fails)))
      (λ n x there. every-insert (λ m y. test x ≡ true → test y ≡ true → x.region ≡ y.region → x.faction ≡ y.faction) c.units c.next_unit child (λ _ e. absurd (true≢false (sym e ∙ fails))) (one n x there))

  early_begun : is_unit_limit c ≡ false → IsEarly w begun
  early_begun limit = record {
    steady = record {
      numbers = numbers_kept limit;
      names = names_kept limit;
      known = known_kept;
      next = next_kept;
      days = every-insert (λ n x. Every (λ s days. (1 ≤ days) × (days ≤ most_days * x.holding.men)) x.holding.days) c.units c.next_unit child (every-empty (λ s days. (1 ≤ days) × (days ≤ most_days * 0))) old.days;
      gone = gone_kept;
      owners = owners_kept;
      water = water_kept;
      guarded = one_faction_kept guards refl old.guarded;
    };
    flags = one_faction_kept (λ x. x.holding.guard) refl early.flags;
  }

  nothing_held : (t : Thing) → unit_amount t child.holding ≡ 0
  nothing_held Money = refl
  nothing_held People = refl
  nothing_held (Item i) = ap (λ o. unwrap_or o 0) (get-empty nat_cmp i)

  none_more : (a b h : ℕ) → a ≡ b + h → h ≡ 0 → a ≡ b
  none_more a b h e none = omega arith

  same_total : (t : Thing) → total begun t ≡ total c t
  unfolding total
  same_total t =
      none_more (total begun t) (total c t) (unit_amount t child.holding) (total-with_unit c c.next_unit child t free)
      (nothing_held t)

  -- if the unit limit isn't reached, forming a unit keeps an early campaign early, its month and its balance, and books
  -- nothing (`StepsWell`)
  pub begun_well : is_unit_limit c ≡ false → StepsWell IsEarly nothing_remaining w c begun
  begun_well limit = unbooked_well w c begun (early_begun limit) (same_month_by refl) refl same_total

  -- after unit p formed a unit, each unit that was there is as it was
  pub begun_stays : Every (λ n v. get begun.units n ≡ Some v) c.units
  begun_stays = unit_stays

-- ---- what is marked

-- adding unit u under the next unit number, with the marks of `mark_unit_begun`, marks all changes and loses no mark
pub marks-begun : (c : MarkedCampaign) (u : Unit)
    → MarksChanges c (record { value = with_unit_begun c.value u; marks = mark_unit_begun c })
marks-begun c u =
    let n = c.value.next_unit in
    let mid : MarkedCampaign = record { value = with_unit c.value n u; marks = mark_unit_added c n } in
    let next : MarkedCampaign = record { value = with_unit_begun c.value u; marks = mark_unit_begun c } in
    marks-trans c mid next
    (marks-unit c (insert c.value.units n u) n (λ k apart. get-insert_other c.value.units n k u apart))
    (part_by_part mid next
    (λ p. elim p as (PartStaysMarked mid.marks next.marks) [ Row ↦ λ k h. refl | _ ↦ λ k h. h ])
    (λ p. elim p as (KeepsUnmarked next.marks mid.value next.value) [ Row ↦ λ k free. absurd (true≢false free) | _ ↦ λ k free. refl ]))

-- ---- one order

-- an early campaign c, before one order of FORM
module _ (w : WorldValue) (c : CampaignValue) (early : IsEarly w c) where
  -- in an early campaign no unit has the next unit number
  pub free_number : get c.units c.next_unit ≡ None
  free_number = early.steady.next.units c.next_unit (omega arith)

  -- the order is of faction f, for unit n
  module _ (f n : ℕ) where
    formed_is : (u : Unit) → get c.units n ≡ Some u → u.faction ≡ f
        → with_formed_unit c f n ≡ with_unit_begun c (new_unit c.next_unit u.faction u.region u.structure)
    formed_is u is own =
        ap (λ g. with_unit_begun c (new_unit c.next_unit g (region_of c n) (structure_of_unit c n))) (sym own)
        ∙ ap (λ (o : Option Unit). with_unit_begun c (new_unit c.next_unit u.faction (option_map_or (λ x. x.region) o 0) (option_map_or (λ x. x.structure) o 0))) is

    -- campaign d, which an order of FORM makes of c, is early and in balance, nothing is booked (`StepsWell`), and each
    -- unit of c is unchanged
    abbrev IsEarlyAndKeepsUnits : CampaignValue → Type 0
    IsEarlyAndKeepsUnits d = StepsWell IsEarly nothing_remaining w c d × Every (λ k v. get d.units k ≡ Some v) c.units

    same_fine : IsEarlyAndKeepsUnits c
    same_fine = (well_same w c early, λ k v there. there)

    formed_fine : (u : Unit) → get c.units n ≡ Some u → (u.faction ≡ f) → is_unit_limit c ≡ false
        → IsEarlyAndKeepsUnits (with_formed_unit c f n)
    formed_fine u is own limit =
        subst IsEarlyAndKeepsUnits (sym (formed_is u is own))
        (begun_well w c n u is early limit, begun_stays w c n u is early)

    by_limit : (u : Unit) → get c.units n ≡ Some u → (a b : Bool) → is_of_faction f (Some u) ≡ a → is_unit_limit c ≡ b
        → IsEarlyAndKeepsUnits (fault_or c (first_fault ((not a, NotYours) ∷ (b, UnitLimit) ∷ [])) (with_formed_unit c f n, Done c.next_unit)).0
    by_limit u is false b own limit = same_fine
    by_limit u is true true own limit = same_fine
    by_limit u is true false own limit = formed_fine u is (is_equal u.faction f own) limit

    by_unit : (o : Option Unit) → get c.units n ≡ o
        → IsEarlyAndKeepsUnits (fault_or c (first_fault ((not (is_of_faction f o), NotYours) ∷ (is_unit_limit c, UnitLimit) ∷ [])) (with_formed_unit c f n, Done c.next_unit)).0
    by_unit None is = same_fine
    by_unit (Some u) is = by_limit u is (is_of_faction f (Some u)) (is_unit_limit c) refl refl

    form_fine : IsEarlyAndKeepsUnits (form_by c f n).0
    form_fine = by_unit (get c.units n) refl

  -- an order of FORM, by its copy o, keeps an early campaign early, its month and its balance, and books nothing
  -- (`StepsWell`)
  pub order_well : (m : MonthValue) (o : Forming) → StepsWell IsEarly nothing_remaining w c (form_by_copy (c, m) o).0
  order_well m o = (form_fine o.faction o.unit).0

  -- an order of FORM, by its copy o, leaves each unit that was there as it was
  pub order_stays : (m : MonthValue) (o : Forming)
      → Every (λ k v. get (form_by_copy (c, m) o).0.units k ≡ Some v) c.units
  order_stays m o = (form_fine o.faction o.unit).1

-- ---- orders apart from the month

-- copies of the orders `ts` of FORM, carried out one after another on the pair p, make what the orders themselves make
pub formed_by_copy : (p : CampaignValue × MonthValue) (ts : List Task)
    → fold form_by_copy p (map forming_of ts) ≡ fold form_order p ts
formed_by_copy p [] = refl
formed_by_copy p (t ∷ ts) = formed_by_copy (form_order p t) ts

-- the copies of all orders of FORM that count, carried out one after another as the code does, have the phase's effect
pub all_formed : (w : WorldValue) (c : CampaignValue) (m : MonthValue)
    → fold form_by_copy (c, m) (map forming_of (orders_of is_forming ByFaction m.aliases m.readings))
    ≡ form_meaning w c m
unfolding form_meaning
all_formed w c m = formed_by_copy (c, m) (orders_of is_forming ByFaction m.aliases m.readings)
