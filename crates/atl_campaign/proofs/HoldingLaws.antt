-- Laws of a unit that gets another holding (what it has) and does not begin to guard: steadiness, totals and marks. A
-- unit may have a holding with a valid name, numbers within their limits, and only items and skills of the world. c is
-- the campaign before the change, and n the unit's number; in laws on marks, where n isn't there, nothing changes and
-- nothing is marked. `MarksChanges` also says that no mark is lost. An item listed with 0 counts as another amount.
use Rattle.std.proofs.Common.{◌≡◌, ◌≢◌, ◌==◌, ℕ, ◌+◌, ◌*◌, ◌≤◌, ◌<◌, Bool, true, false, Option, Some, None, length, refl, sym, ap, subst, ◌∙◌, arith}
use Rattle.std.specs.Prelude.{IsTrue, option_map, if◌then◌else◌}
use Rattle.std.specs.Ordering.{nat_cmp}
use Rattle.std.specs.Cmp.{ranked}
use Rattle.std.specs.declared.cmp.Ordering.TheVariants.{Less, Equal, Greater}
use Rattle.std.specs.FinMap.{FinMap, get, insert, nat_cmp-IsAntisymmetric}
use Rattle.atl_world.specs.Names.{name_ok}
use Rattle.atl_world.specs.Worlds.{WorldValue}
use Rattle.atl_world.specs.Sums.{sum_over}
use Rattle.atl_world.specs.Tracking.{marked_with}
use Rattle.atl_world.proofs.SumLaws.{numbers_where-insert_known, put_same, sum_over-insert_known}
use Rattle.atl_campaign.specs.Covers.{MarksChanges, without_goods, days_under, items_under}
use Rattle.atl_records.specs.Limits.{holding_limit, most_days}
use Rattle.atl_records.specs.declared.books.Thing.{Thing}
use Rattle.atl_records.specs.declared.records.Region.{Region}
use Rattle.atl_records.specs.declared.records.Unit.{Unit}
use Rattle.atl_world.specs.Every.{Every}
use Rattle.atl_campaign.specs.Good.{AreAfloat, AreInRange, AreKnown, AreNumbered, AreOfOneFaction, AreOwned, GoneHaveNone, IsPlaced, IsSteady, guards}
use Rattle.atl_records.specs.Holdings.{HoldingValue, IsHolding, has_amount, with_amount_of}
use Rattle.atl_campaign.specs.Marking.{mark_item, mark_skill, mark_unit_row}
use Rattle.atl_campaign.specs.Marks.{thing_marked}
use Rattle.atl_campaign.specs.Roster.{unit_if_other_amount}
use Rattle.atl_campaign.specs.Campaign.{MarkedCampaign, CampaignValue, unit_changed, with_item, with_skill}
use Rattle.atl_records.specs.Amounts.{region_amount, unit_amount}
use Rattle.atl_campaign.specs.Totals.{total}
use Rattle.atl_campaign.proofs.CoverLaws.{Items, Rows, Skills, PartStaysMarked, KeepsUnmarked, Units, unmarked_differs_from_put, apart_by_thing, holds_of_changed, marks-refl, part_by_part, put_stays, shown_still, thing_stays}
use Rattle.atl_world.proofs.EveryLaws.{every-insert, get-insert_other, none_some, there-insert}
use Rattle.atl_records.proofs.HoldingLaws.{get-set_other, set_again}
use Rattle.atl_campaign.proofs.RegionLaws.{get-insert_same, same_len}

-- a holding that a unit may get: its name keeps the rule of names, men, money, items and days are within limits, items
-- and skills are the world's, and with it the unit guards only if it did before
pub record MayHaveWithoutNewGuard (w : WorldValue) (u : Unit) (h : HoldingValue) : Type 0 where
  pub limits : IsHolding h
  pub name : IsTrue (name_ok h.name)
  pub items : Every (λ i amount. i < length w.items) h.items
  pub skills : Every (λ s days. s < length w.skills) h.days
  pub days : Every (λ s days. (1 ≤ days) × (days ≤ most_days * h.men)) h.days
  pub guard : guards (record u { holding = h }) ≡ true → guards u ≡ true

-- a unit of a steady campaign may get any money up to holding_limit, with the rest of its holding unchanged
-- (MayHaveWithoutNewGuard)
pub may_hold_money : (w : WorldValue) (c : CampaignValue) (n money : ℕ) (u : Unit) → get c.units n ≡ Some u
    → money ≤ holding_limit → IsSteady w c → MayHaveWithoutNewGuard w u (record u.holding { money = money })
may_hold_money w c n money u is most steady =
    let location = steady.known.units n u is in
    let holding = (steady.numbers.units n u is).1 in
    record {
      limits = record { men = holding.men; money = most; items = holding.items };
      name = steady.names.units n u is;
      items = location.items;
      skills = location.skills;
      days = steady.days n u is;
      guard = λ g. g;
    }

-- the number of the first unit's structure (0: none), or of the second's where None is given for the first
abbrev pub structure_in : Option Unit → Unit → ℕ
structure_in (Some y) z = y.structure
structure_in None z = z.structure

-- Unit n of the campaign c is u, and gets the holding h. A law named `.._kept` says that one rule still holds then, if
-- h is what that rule asks of holdings.
module _ (w : WorldValue) (c : CampaignValue) (n : ℕ) (u : Unit) (h : HoldingValue) (is : get c.units n ≡ Some u) where
  abbrev new_unit : Unit
  new_unit = record u { holding = h }

  -- the campaign in which unit n has the holding h
  abbrev with_new_holding : CampaignValue
  with_new_holding = record c { units = insert c.units n new_unit }

  free_apart : (k : ℕ) → get c.units k ≡ None → k ≢ n
  free_apart k free same = none_some u (sym free ∙ ap (get c.units) same ∙ is)

  pub numbers_kept : IsHolding h → AreInRange w c → AreInRange w with_new_holding
  numbers_kept limits old = record {
    month = old.month;
    few_factions = old.few_factions;
    few_regions = old.few_regions;
    few_units = omega (arith, same_len c.units n u new_unit is, old.few_units);
    few_structures = old.few_structures;
    next_unit_least = old.next_unit_least;
    next_unit_most = old.next_unit_most;
    factions = old.factions;
    regions = old.regions;
    units = every-insert (λ k x. (1 ≤ k) × IsHolding x.holding) c.units n new_unit ((old.units n u is).0, limits) old.units;
    structures = old.structures;
    books = old.books;
  }

  pub known_kept : Every (λ i amount. i < length w.items) h.items → Every (λ s days. s < length w.skills) h.days
      → AreKnown w c → AreKnown w with_new_holding
  known_kept items skills old = record {
    regions = old.regions;
    markets = old.markets;
    units = every-insert (λ k x. IsPlaced w with_new_holding x) c.units n new_unit
        (let p = old.units n u is in record { faction = p.faction; region = p.region; structure = p.structure; items = items; skills = skills })
        old.units;
    structures = λ k s there. let b = old.structures k s there in record { kind = b.kind; region = b.region; owner = λ owned. there-insert c.units n s.owner new_unit (b.owner owned) };
    posts = old.posts;
  }

  pub next_kept : AreNumbered c → AreNumbered with_new_holding
  next_kept old = record {
    factions = old.factions;
    structures = old.structures;
    units = λ k above. get-insert_other c.units n k new_unit (free_apart k (old.units k above)) ∙ old.units k above;
  }

  gone_kept : GoneHaveNone c → GoneHaveNone with_new_holding
  gone_kept old m f there gone =
      numbers_where-insert_known (λ x. x.faction == m) c.units n u new_unit is refl ∙ old m f there gone

  inside_still : (k m : ℕ) → (x : Unit) × (get c.units k ≡ Some x) × (x.structure ≡ m)
      → (x : Unit) × (get with_new_holding.units k ≡ Some x) × (x.structure ≡ m)
  inside_still k m (x, there, inside) =
      elim (nat_cmp k n) as (λ o. nat_cmp k n ≡ o → (y : Unit) × (get with_new_holding.units k ≡ Some y) × (y.structure ≡ m)) [
        | Less ↦ λ o. (x, get-insert_other c.units n k new_unit (λ same. let l = ranked k n Less (sym o) in absurd (omega arith)) ∙ there, inside)
        | Equal ↦ λ o.
            let same : k ≡ n = nat_cmp-IsAntisymmetric k n o in
            let one : Some x ≡ Some u = sym there ∙ ap (get c.units) same ∙ is in
            (new_unit, ap (get with_new_holding.units) same ∙ get-insert_same c.units n new_unit, sym (ap (λ p. structure_in p x) one) ∙ inside)
        | Greater ↦ λ o. (x, get-insert_other c.units n k new_unit (λ same. let l = ranked k n Greater (sym o) in absurd (omega arith)) ∙ there, inside)
      ] refl

  pub owners_kept : AreOwned c → AreOwned with_new_holding
  owners_kept old m s there =
      let o = old m s there in
      record {
        owned = λ some. inside_still s.owner m (o.owned some);
        ownerless = λ none. every-insert (λ k x. x.structure ≢ m) c.units n new_unit (o.ownerless none n u is) (o.ownerless none);
      }

  water_kept : AreAfloat w c → AreAfloat w with_new_holding
  water_kept old = record {
    units = every-insert _ c.units n new_unit (old.units n u is) old.units;
    structures = old.structures;
  }

  -- for a test that the unit passes with the holding h only if it did before
  module _ (test : Unit → Bool) (only : test new_unit ≡ true → test u ≡ true) where
    abbrev Agree : Unit → Unit → Type 0
    Agree x y = test x ≡ true → test y ≡ true → x.region ≡ y.region → x.faction ≡ y.faction

    -- the units that pass the test stay of one faction in each region when unit n gets the holding h
    pub of_one_faction_kept : AreOfOneFaction test c → AreOfOneFaction test with_new_holding
    of_one_faction_kept old =
        every-insert (λ k x. Every (λ m y. Agree x y) with_new_holding.units) c.units n new_unit
        (every-insert (λ m y. Agree new_unit y) c.units n new_unit (λ g k same. refl) (λ m y there g k same. old n u is m y there (only g) k same))
        (λ k x here. every-insert (λ m y. Agree x y) c.units n new_unit (λ g k2 same. old k x here n u is g (only k2) same) (old k x here))

  -- the campaign stays steady when unit n gets the holding h, if the unit may have h, and with h guards only if it did
  -- before (MayHaveWithoutNewGuard)
  pub steady-new_holding : MayHaveWithoutNewGuard w u h → IsSteady w c → IsSteady w with_new_holding
  steady-new_holding may old = record {
    numbers = numbers_kept may.limits old.numbers;
    names = record {
      pass = old.names.pass;
      factions = old.names.factions;
      joined = old.names.joined;
      units = every-insert (λ k x. IsTrue (name_ok x.holding.name)) c.units n new_unit may.name old.names.units;
      structures = old.names.structures;
    };
    known = known_kept may.items may.skills old.known;
    next = next_kept old.next;
    days = every-insert (λ k x. Every (λ s days. (1 ≤ days) × (days ≤ most_days * x.holding.men)) x.holding.days) c.units n new_unit may.days old.days;
    gone = gone_kept old.gone;
    owners = owners_kept old.owners;
    water = water_kept old.water;
    guarded = of_one_faction_kept guards may.guard old.guarded;
  }

  regrouped : (r a b p q : ℕ) → a + p ≡ b + q → (a + r) + p ≡ (b + r) + q
  regrouped r a b p q e = omega arith

  -- giving unit n the holding h changes a thing's total by what h has more or less of it than the old holding
  pub total-new_holding : (t : Thing) → total with_new_holding t + unit_amount t u.holding ≡ total c t + unit_amount t h
  unfolding total
  total-new_holding t =
      let there = λ (x : Unit). unit_amount t x.holding in
      regrouped (sum_over (λ (r : Region). region_amount t r) c.regions) (sum_over there with_new_holding.units) (sum_over there c.units) (unit_amount t u.holding) (unit_amount t h)
      (sum_over-insert_known there c.units n u new_unit is)

abbrev goods_of : Unit → FinMap nat_cmp ℕ × FinMap nat_cmp ℕ
goods_of u = (u.holding.items, u.holding.days)

-- changing unit n by a function f, with it and its row marked, marks all that changes, if f leaves the items and days
-- of every unit as they are
pub marks-unit_row : (f : Unit → Unit) → ((u : Unit) → goods_of (f u) ≡ goods_of u) → (c : MarkedCampaign) (n : ℕ)
    → MarksChanges c (record { value = unit_changed f c.value n; marks = mark_unit_row c n })
marks-unit_row f same c n =
    let after : FinMap nat_cmp Unit → Option Unit → MarkedCampaign = λ m o. record { value = record c.value { units = m }; marks = record c.marks { units = marked_with c.marks.units n o; rows = marked_with c.marks.rows n o } } in
    holds_of_changed (λ m o. MarksChanges c (after m o)) f c.value.units n (marks-refl c) (λ u is.
    let next = after (insert c.value.units n (f u)) (Some u) in
    part_by_part c next
    (λ p. elim p as (PartStaysMarked c.marks next.marks) [ Units ↦ put_stays c.marks.units n | Rows ↦ put_stays c.marks.rows n | _ ↦ λ k h. h ])
    (λ p. elim p as (KeepsUnmarked next.marks c.value next.value) [
      | Rows ↦ λ k free. ap (option_map without_goods) (get-insert_other c.value.units n k (f u) (unmarked_differs_from_put c.marks.rows n k free))
      | Items ↦ λ k free. shown_still (λ o. get (items_under o) k.1) c.value.units n k.0 u (f u) is (λ _. ap (λ (g : FinMap nat_cmp ℕ × FinMap nat_cmp ℕ). get g.0 k.1) (same u))
      | Skills ↦ λ k free. shown_still (λ o. get (days_under o) k.1) c.value.units n k.0 u (f u) is (λ _. ap (λ (g : FinMap nat_cmp ℕ × FinMap nat_cmp ℕ). get g.1 k.1) (same u))
      | _ ↦ λ k free. refl
    ]))

-- unit n's amount of `item` is set to `amount`
module _ (c : MarkedCampaign) (n item amount : ℕ) where
  abbrev with_other : Unit → Unit
  with_other u = record u { holding = record u.holding { items = with_amount_of u.holding.items item amount } }

  abbrev after_item : FinMap nat_cmp Unit → Option Unit → MarkedCampaign
  after_item units o =
      record { value = record c.value { units = units }; marks = record c.marks { units = marked_with c.marks.units n o; items = thing_marked c.marks.items n item o } }

  other_amount : (u : Unit) → get c.value.units n ≡ Some u
      → MarksChanges c (after_item (insert c.value.units n (with_other u)) (Some u))
  other_amount u is =
      let next = after_item (insert c.value.units n (with_other u)) (Some u) in
      part_by_part c next
      (λ p. elim p as (PartStaysMarked c.marks next.marks) [ Units ↦ put_stays c.marks.units n | Items ↦ λ k h. thing_stays c.marks.goods c.marks.items n item k.0 k.1 h | _ ↦ λ k h. h ])
      (λ p. elim p as (KeepsUnmarked next.marks c.value next.value) [
        | Rows ↦ λ k free. shown_still (option_map without_goods) c.value.units n k u (with_other u) is (λ _. refl)
        | Items ↦ λ k free. shown_still (λ o. get (items_under o) k.1) c.value.units n k.0 u (with_other u) is (λ here. get-set_other u.holding.items item amount k.1 (apart_by_thing c.marks.goods c.marks.items n item k.0 k.1 free here))
        | Skills ↦ λ k free. shown_still (λ o. get (days_under o) k.1) c.value.units n k.0 u (with_other u) is (λ _. refl)
        | _ ↦ λ k free. refl
      ])

  -- setting a unit's amount of an item, with it and that item marked if the amount is another, marks all that changes
  pub marks-item : MarksChanges c (record { value = with_item c.value n item amount; marks = mark_item c n item amount })
  marks-item =
      holds_of_changed (λ units o. MarksChanges c (after_item units (unit_if_other_amount item amount o))) with_other
      c.value.units n (marks-refl c) (λ u is. by_amount u is (has_amount u.holding.items item amount) refl)
    where
      by_amount : (u : Unit) → get c.value.units n ≡ Some u → (b : Bool) → has_amount u.holding.items item amount ≡ b
          → MarksChanges c (after_item (insert c.value.units n (with_other u)) (if b then None else Some u))
      by_amount u is true has =
          let same : with_other u ≡ u = ap (λ items. record u { holding = record u.holding { items = items } }) (set_again u.holding.items item amount has) in
          subst (λ units. MarksChanges c (after_item units None)) (sym (put_same c.value.units n u (with_other u) is same)) (marks-refl c)
      by_amount u is false other = other_amount u is

-- setting a unit's days of a skill, with the unit and that skill marked, marks all that changes
pub marks-skill : (c : MarkedCampaign) (n skill days : ℕ)
    → MarksChanges c (record { value = with_skill c.value n skill days; marks = mark_skill c n skill })
marks-skill c n skill days =
    let with_other : Unit → Unit = λ u. record u { holding = record u.holding { days = with_amount_of u.holding.days skill days } } in
    let after : FinMap nat_cmp Unit → Option Unit → MarkedCampaign = λ m o. record { value = record c.value { units = m }; marks = record c.marks { units = marked_with c.marks.units n o; skills = thing_marked c.marks.skills n skill o } } in
    holds_of_changed (λ m o. MarksChanges c (after m o)) with_other c.value.units n (marks-refl c) (λ u is.
    let next = after (insert c.value.units n (with_other u)) (Some u) in
    part_by_part c next
    (λ p. elim p as (PartStaysMarked c.marks next.marks) [ Units ↦ put_stays c.marks.units n | Skills ↦ λ k h. thing_stays c.marks.goods c.marks.skills n skill k.0 k.1 h | _ ↦ λ k h. h ])
    (λ p. elim p as (KeepsUnmarked next.marks c.value next.value) [
      | Rows ↦ λ k free. shown_still (option_map without_goods) c.value.units n k u (with_other u) is (λ _. refl)
      | Items ↦ λ k free. shown_still (λ o. get (items_under o) k.1) c.value.units n k.0 u (with_other u) is (λ _. refl)
      | Skills ↦ λ k free. shown_still (λ o. get (days_under o) k.1) c.value.units n k.0 u (with_other u) is (λ here. get-set_other u.holding.days skill days k.1 (apart_by_thing c.marks.goods c.marks.skills n skill k.0 k.1 free here))
      | _ ↦ λ k free. refl
    ]))
