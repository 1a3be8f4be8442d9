-- The law that payments in turn change all units and regions at once, if each changes its own unit and region alone.
-- `p` is a phase with pots that begins in campaign `c` with the orders `os`. `gets` makes of a unit's number, the unit
-- and its share the unit after its payment. `gives` makes of a region and an amount the region after it gave the
-- amount. `d` is a campaign in the course of the payments, and `e` a unit's number with its share.
use Rattle.std.proofs.Common.{◌≡◌, ◌≢◌, ℕ, ◌+◌, ◌<◌, ◌==◌, Bool, true, false, cond, List, [], ◌∷◌, map, filter, sum, Some, refl, sym, ap, subst, ◌∙◌, inl, inr, arith}
use Rattle.std.specs.Prelude.{⊤, fold}
use Rattle.std.specs.List.{AllByRecursion}
use Rattle.std.specs.Ordering.{nat_cmp}
use Rattle.std.specs.FinMap.{entries, find, get, get-entries}
use Rattle.std.proofs.lemmas.Bool.{cases_eq}
use Rattle.std.proofs.lemmas.List.Sums.{sum_by-cons}
use Rattle.std.proofs.Math.Nat.{zero-add}
use Rattle.atl_world.specs.Worlds.{WorldValue}
use Rattle.atl_records.specs.declared.records.Region.{Region}
use Rattle.atl_records.specs.declared.records.Unit.{Unit}
use Rattle.atl_world.specs.Every.{HasValue}
use Rattle.atl_campaign.specs.Campaign.{CampaignValue}
use Rattle.atl_campaign.proofs.ReadBackLaws.{Rise, entries_rise}
use Rattle.atl_world.proofs.EveryLaws.{each-from_every, first, other_number, same_number}
use Rattle.atl_phase.specs.PhaseOrders.{Task}
use Rattle.atl_pots.proofs.PotLaws.{found_other}
use Rattle.atl_market.specs.AtOnce.{PaysAtOnce, RegionChange, UnitChange, paid_unit, is_in_region}
use Rattle.atl_market.specs.PotPhase.{PotMeaning, after_sharing, given_by, items_by}
use Rattle.atl_market.proofs.DrawLaws.{AreUntouched, Drawers, all_pairs, drawn, still, untouched, draws_region}

-- the condition that a unit's region is in the campaign, where payments need the region (the first argument); else it
-- always holds
abbrev pub HasRegion : Bool → CampaignValue → Unit → Type 0
HasRegion true d u = HasValue d.regions u.region
HasRegion false d u = ⊤

-- One payment (`step`) of a pair (unit, share) changes its unit by `gets` and its unit's region by `gives`, and no
-- other unit or region. This supposes that the unit is there and, if `needs` is true, also the region. Giving 0 is no
-- change, and giving two amounts in turn is giving their sum.
pub record Pays (needs : Bool) (step : CampaignValue → ℕ × ℕ → CampaignValue) (gets : ℕ → UnitChange) (gives : RegionChange) : Type 0 where
  pub mine : (d : CampaignValue) (e : ℕ × ℕ) (u : Unit) → get d.units e.0 ≡ Some u → HasRegion needs d u
      → get (step d e).units e.0 ≡ Some (gets e.0 u e.1)
  pub others : (d : CampaignValue) (e : ℕ × ℕ) (u : Unit) → get d.units e.0 ≡ Some u → HasRegion needs d u → (k : ℕ)
      → k ≢ e.0 → get (step d e).units k ≡ get d.units k
  pub region : (d : CampaignValue) (e : ℕ × ℕ) (u : Unit) (q : Region) → get d.units e.0 ≡ Some u
      → get d.regions u.region ≡ Some q → get (step d e).regions u.region ≡ Some (gives q e.1)
  pub regions : (d : CampaignValue) (e : ℕ × ℕ) (u : Unit) → get d.units e.0 ≡ Some u → HasRegion needs d u → (k : ℕ)
      → k ≢ u.region → get (step d e).regions k ≡ get d.regions k
  pub nothing : (q : Region) → gives q 0 ≡ q
  pub twice : (q : Region) (s t : ℕ) → gives (gives q s) t ≡ gives q (s + t)

-- `step` pays the unit of a pair (unit, share): the unit changes by `gets` and its region by `gives` (`Pays`)
module _ {needs : Bool} {step : CampaignValue → ℕ × ℕ → CampaignValue} {gets : ℕ → UnitChange} {gives : RegionChange} (pays : Pays needs step gets gives) where
  still_around : (d : CampaignValue) (e : ℕ × ℕ) (u v : Unit) → get d.units e.0 ≡ Some u → HasRegion needs d u
      → HasRegion needs d v → HasRegion needs (step d e) v
  still_around d e u v is here there =
      by_need needs (λ k apart. pays.regions d e u is here k apart) (λ q at. pays.region d e u q is at) there
    where
      by_need : (b : Bool) → ((k : ℕ) → k ≢ u.region → get (step d e).regions k ≡ get d.regions k)
          → ((q : Region) → get d.regions u.region ≡ Some q → get (step d e).regions u.region ≡ Some (gives q e.1))
          → HasRegion b d v → HasRegion b (step d e) v
      by_need false others mine there = tt
      by_need true others mine (q, at) = elim (cases_eq v.region u.region) [
        | inl same ↦ (gives q e.1, ap (get (step d e).regions) same ∙ mine q (ap (get d.regions) (sym same) ∙ at))
        | inr apart ↦ (q, others v.region apart ∙ at)
      ]

  module _ (c : CampaignValue) where
    -- payment `e` can be made: its unit is there in `c`, and the unit's region in `d`, if that is needed (`HasRegion`)
    abbrev CanBePaid : CampaignValue → ℕ × ℕ → Type 0
    CanBePaid d e = (u : Unit) × (get c.units e.0 ≡ Some u) × HasRegion needs d u

    -- in campaign `d` the shares `es` can be paid, in the order of unit numbers: their units are as in `c`, and there
    record AreReady (d : CampaignValue) (es : List (ℕ × ℕ)) : Type 0 where
      rise : Rise es
      same : AreUntouched c d es
      payable : AllByRecursion (CanBePaid d) es

    payable_still : (d : CampaignValue) (e : ℕ × ℕ) (u : Unit) (es : List (ℕ × ℕ)) → get d.units e.0 ≡ Some u
        → HasRegion needs d u → AllByRecursion (CanBePaid d) es → AllByRecursion (CanBePaid (step d e)) es
    payable_still d e u [] is here all = tt
    payable_still d e u (f ∷ es) is here ((v, there, around), all) =
        ((v, there, still_around d e u v is here around), payable_still d e u es is here all)

    ready_still : (d : CampaignValue) (e : ℕ × ℕ) (es : List (ℕ × ℕ)) (u : Unit) → get d.units e.0 ≡ Some u
        → HasRegion needs d u → AreReady d (e ∷ es) → AreReady (step d e) es
    ready_still d e es u is here ready = record {
      rise = ready.rise.1;
      same = still c d (step d e) e.0 es (pays.others d e u is here) ready.rise.0 ready.same.1;
      payable = payable_still d e u es is here ready.payable.1;
    }

    unpaid_stays : (d : CampaignValue) (es : List (ℕ × ℕ)) (n : ℕ) → AreReady d es → AllByRecursion (λ e. n < e.0) es
        → get (fold step d es).units n ≡ get d.units n
    unpaid_stays d [] n ready above = refl
    unpaid_stays d (e ∷ es) n ready above =
        let (u, there, here) = ready.payable.0 in
        let now : get d.units e.0 ≡ Some u = ready.same.0 ∙ there in
        unpaid_stays (step d e) es n (ready_still d e es u now here ready) above.1
        ∙ pays.others d e u now here n (λ same. absurd (omega (arith, same, above.0)))

    -- after payments that can be made (`AreReady`), in the order of unit numbers, each unit has changed by its share,
    -- if it has one
    units_paid : (d : CampaignValue) (es : List (ℕ × ℕ)) → AreReady d es → (n : ℕ) (u : Unit) → get d.units n ≡ Some u
        → get (fold step d es).units n ≡ Some (paid_unit (gets n) u (find nat_cmp n es))
    units_paid d [] ready n u is = is
    units_paid d (e ∷ es) ready n u is =
        let (v, there, here) = ready.payable.0 in
        let now : get d.units e.0 ≡ Some v = ready.same.0 ∙ there in
        let rest = ready_still d e es v now here ready in
        elim (cases_eq n e.0) [
          | inl same ↦
              let one : Some v ≡ Some u = sym now ∙ ap (get d.units) (sym same) ∙ is in
              let unit : v ≡ u = cc in
              subst (λ k. get (fold step (step d e) es).units k ≡ Some (paid_unit (gets k) u (find nat_cmp k (e ∷ es)))) (sym same)
              (unpaid_stays (step d e) es e.0 rest ready.rise.0 ∙ pays.mine d e v now here ∙ ap (λ x. Some (gets e.0 x e.1)) unit ∙ ap (λ o. Some (paid_unit (gets e.0) u o)) (sym (first e es)))
          | inr apart ↦
              units_paid (step d e) es rest n u (pays.others d e v now here n apart ∙ is)
              ∙ ap (λ o. Some (paid_unit (gets n) u o)) (sym (found_other e es n apart))
        ]

    regions_drained : (d : CampaignValue) (es : List (ℕ × ℕ)) → AreReady d es → (r : ℕ) (q : Region)
        → get d.regions r ≡ Some q → get (fold step d es).regions r ≡ Some (gives q (drawn (draws_region c.units r) es))
    regions_drained d [] ready r q is = is ∙ ap Some (sym (pays.nothing q))
    regions_drained d (e ∷ es) ready r q is =
        let (v, there, here) = ready.payable.0 in
        let now : get d.units e.0 ≡ Some v = ready.same.0 ∙ there in
        let rest = ready_still d e es v now here ready in
        elim (cases_eq r v.region) [
          | inl same ↦
              let mine : draws_region c.units r e.0 ≡ true = ap (is_in_region r) there ∙ ap (λ k. v.region == k) same ∙ same_number v.region in
              let after : get (step d e).regions r ≡ Some (gives q e.1) = ap (get (step d e).regions) same ∙ pays.region d e v q now (ap (get d.regions) (sym same) ∙ is) in
              regions_drained (step d e) es rest r (gives q e.1) after
              ∙ ap Some (pays.twice q e.1 (drawn (draws_region c.units r) es))
              ∙ sym (ap (λ b. Some (gives q (cond b e.1 0 + drawn (draws_region c.units r) es))) mine)
          | inr apart ↦
              let other : draws_region c.units r e.0 ≡ false = ap (is_in_region r) there ∙ other_number v.region r (λ same. apart (sym same)) in
              regions_drained (step d e) es rest r q (pays.regions d e v now here r apart ∙ is)
              ∙ ap (λ k. Some (gives q k)) (sym (zero-add (drawn (draws_region c.units r) es)))
              ∙ sym (ap (λ b. Some (gives q (cond b e.1 0 + drawn (draws_region c.units r) es))) other)
        ]

-- what units draw from a pot (`drawn`) is the sum of the shares, among `es`, of those units that draw from it (`draws`)
pub drawn_is_sum : (draws : Drawers) (es : List (ℕ × ℕ))
    → drawn draws es ≡ sum (map (λ e. e.1) (filter (λ e. draws e.0) es))
drawn_is_sum draws [] = refl
drawn_is_sum draws (e ∷ es) = by_test (draws e.0) (drawn_is_sum draws es)
  where
    by_test : (b : Bool) → drawn draws es ≡ sum (map (λ f. f.1) (filter (λ f. draws f.0) es))
        → cond b e.1 0 + drawn draws es ≡ sum (map (λ f. f.1) (cond b (e ∷ filter (λ f. draws f.0) es) (filter (λ f. draws f.0) es)))
    by_test true rest =
        ap (λ k. e.1 + k) rest ∙ sym (sum_by-cons (λ x. x) e.1 (map (λ f. f.1) (filter (λ f. draws f.0) es)))
    by_test false rest = zero-add (drawn draws es) ∙ rest

-- each unit that gets something in the phase is in the campaign, and so is its region where that is needed
-- (`HasRegion`)
abbrev pub TakersAreThere : Bool → PotMeaning → WorldValue → CampaignValue → List Task → Type 0
TakersAreThere needs p w c os =
    (n share : ℕ) → get (given_by p w c os) n ≡ Some share → (u : Unit) × (get c.units n ≡ Some u) × HasRegion needs c u

-- A phase pays all units at once, if each payment changes its own unit and region alone (`Pays`). All units that get
-- something must be in the campaign, and so must their regions if `needs` is true (`TakersAreThere`).
pub all_at_once : {needs : Bool} (p : PotMeaning) (w : WorldValue) (gets : ℕ → UnitChange) (gives : RegionChange) (c : CampaignValue) (os : List Task)
    → Pays needs (p.paid (items_by p w c os) w) gets gives → TakersAreThere needs p w c os
    → PaysAtOnce p w gets gives c os
unfolding after_sharing
all_at_once {needs} p w gets gives c os pays gives_them =
    let given = given_by p w c os in
    let ready : AreReady pays c c (entries given) = record {
      rise = entries_rise given;
      same = untouched c (entries given);
      payable = all_pairs (CanBePaid pays c c) (entries given) (each-from_every (λ n share. CanBePaid pays c c (n, share)) given gives_them);
    } in
    record {
      units = λ n u is. units_paid pays c c (entries given) ready n u is ∙ ap (λ o. Some (paid_unit (gets n) u o)) (sym (get-entries given n));
      regions = λ r q is. regions_drained pays c c (entries given) ready r q is ∙ ap (λ k. Some (gives q k)) (drawn_is_sum (draws_region c.units r) (entries given));
    }
