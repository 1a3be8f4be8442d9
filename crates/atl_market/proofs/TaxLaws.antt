-- Laws of TAX: all shares can be paid in turn, and leave an early campaign early, with the same month, reports and
-- factions, and balanced books balanced (`LeavesWell`). No unit is worse off: each has the same faction, region,
-- structure, name and guard flag, and no less men, money, items or days. `n` is the number of unit `u`, `q` its region,
-- and `share` how much of the region's money the unit takes. `os` are the orders of the phase.
use Rattle.std.proofs.Common.{◌≡◌, ◌≢◌, ℕ, ◌+◌, ◌-◌, ◌≤◌, Some, List, [], ◌∷◌, length, refl, sym, ap, subst, ◌∙◌, arith}
use Rattle.std.proofs.Math.Nat.{sub-add_cancel}
use Rattle.std.specs.Prelude.{fold, pos, min}
use Rattle.std.specs.Option.{option_map_or}
use Rattle.std.specs.Ordering.{nat_cmp}
use Rattle.std.specs.FinMap.{FinMap, entries, get}
use Rattle.atl_world.specs.Worlds.{WorldValue}
use Rattle.atl_records.specs.declared.books.Thing.{Thing}
use Rattle.atl_records.specs.declared.books.Thing.TheVariants.{Money, People, Item}
use Rattle.atl_records.specs.declared.records.Region.{Region}
use Rattle.atl_records.specs.declared.records.Unit.{Unit}
use Rattle.atl_records.specs.Books.{amount_in}
use Rattle.atl_world.specs.Every.{Every}
use Rattle.atl_campaign.specs.Good.{IsEarly}
use Rattle.atl_records.specs.Holdings.{amount_of}
use Rattle.atl_records.specs.Limits.{holding_limit}
use Rattle.atl_campaign.specs.Campaign.{CampaignValue, region_changed, with_money, with_region_money}
use Rattle.atl_records.specs.Amounts.{region_amount, unit_amount}
use Rattle.atl_campaign.specs.Totals.{total}
use Rattle.atl_campaign.proofs.ReadBackLaws.{entries_rise}
use Rattle.atl_world.proofs.EveryLaws.{each-from_every}
use Rattle.atl_campaign.proofs.HoldingLaws.{may_hold_money, of_one_faction_kept, steady-new_holding, total-new_holding}
use Rattle.atl_campaign.proofs.RegionLaws.{IsRegion-money, steady-region, total-region}
use Rattle.atl_phase.specs.Meaning.{LeavesWell}
use Rattle.atl_phase.specs.Bounds.{CanInTurn, moved_times}
use Rattle.atl_phase.specs.NoWorse.{AreNoWorse}
use Rattle.atl_phase.specs.Unbooked.{moves_nothing}
use Rattle.atl_phase.specs.PhaseOrders.{Task}
use Rattle.atl_phase.proofs.MeaningLaws.{near_same, same_month_by, well_within}
use Rattle.atl_phase.proofs.NoWorseLaws.{are_no_worse, are_no_worse_twice}
use Rattle.atl_pots.proofs.PotLaws.{pots_give}
use Rattle.atl_market.specs.PotPhase.{after_sharing, given_by}
use Rattle.atl_market.specs.Tax.{after_tax, money_at, tax_pots}
use Rattle.atl_market.proofs.DrawLaws.{SharesArePayable, Drains, DrawnPots, HaveEnough, all_pairs, drawn, one_drains, one_draws, pot_is_enough, ready_after, region_pots, untouched, draws_region}
use Rattle.atl_market.proofs.MoreMoneyLaws.{others_stay, paid, richer, richer_is, richer_no_worse}
use Rattle.atl_market.proofs.ThereLaws.{by_region, by_unit, region_there, unit_there}
use Rattle.atl_phase.proofs.TurnLaws.{turns_leave_well}
use Rattle.atl_market.proofs.WantLaws.{given_is_wanted}
use Rattle.atl_market.specs.Payable.{CanTax}

abbrev money_of : Region → ℕ
money_of q = q.money

-- ---- one unit takes its share

-- region `r` with the money that region `q` has, less a share
abbrev pub with_share_taken : Region → ℕ → Region → Region
with_share_taken q share r = record r { money = q.money - share }

-- a campaign in which a unit took its share of the money of its region `q`
abbrev pub after_share_taken : CampaignValue → ℕ → Unit → Region → ℕ → CampaignValue
after_share_taken c n u q share = region_changed (with_share_taken q share) (richer c n u share) u.region

-- unit `n`, which is `u`, takes `share` of the money of its region `q`
module _ (w : WorldValue) (c : CampaignValue) (n : ℕ) (u : Unit) (q : Region) (share : ℕ) (is : get c.units n ≡ Some u) (around : get c.regions u.region ≡ Some q) where
  abbrev after : CampaignValue
  after = after_share_taken c n u q share

  -- setting the money of unit and region, as `after_tax` does, makes the campaign `after_share_taken`
  pub tax_is : with_region_money (with_money c n (u.holding.money + share)) u.region (q.money - share) ≡ after
  tax_is = ap (λ d. with_region_money d u.region (q.money - share)) (richer_is c n u share is)

  module _ (enough : share ≤ q.money) where
    same_total : (t : Thing)
        → total after t + region_amount t q
        ≡ total (richer c n u share) t + region_amount t (with_share_taken q share q)
        → total (richer c n u share) t + unit_amount t u.holding ≡ total c t + unit_amount t (paid c n u share)
        → total after t ≡ total c t
    same_total Money a b = omega (arith, a, b, enough)
    same_total People a b = omega (arith, a, b)
    same_total (Item i) a b =
        same (total after (Item i)) (total (richer c n u share) (Item i)) (total c (Item i)) (amount_of q.stocks i)
        (amount_of u.holding.items i) a b
      where
        same : (x y z j k : ℕ) → x + j ≡ y + j → y + k ≡ z + k → x ≡ z
        same x y z j k a b = omega (arith, a, b)

    -- a unit that takes its share keeps an early campaign early, and books nothing (`LeavesWell`), if it has room for
    -- the money, and the region has it (`enough`)
    pub tax_leaves_well : u.holding.money + share ≤ holding_limit → IsEarly w c
        → LeavesWell IsEarly moves_nothing w c after
    tax_leaves_well fits early =
        let steady = early.steady in
        let within = steady.numbers.regions u.region q around in
        record {
          leaves_it = record {
            steady =
                steady-region (with_share_taken q share) (richer c n u share) u.region q around w
                (IsRegion-money q (q.money - share) (omega (arith, within.money)) within)
                (steady.known.markets u.region q around)
                (steady-new_holding w c n u (paid c n u share) is (may_hold_money w c n (u.holding.money + share) u is fits steady) steady);
            flags = of_one_faction_kept w c n u (paid c n u share) is (λ v. v.holding.guard) (λ g. g) early.flags;
          };
          same_month = same_month_by refl;
          balances = λ old t. ap pos (same_total t (total-region (with_share_taken q share) (richer c n u share) u.region q around t) (total-new_holding w c n u (paid c n u share) is t)) ∙ old t;
          near = λ e t. near_same 0 (amount_in c.books e t);
        }

-- ---- one step

-- `e` is a unit's number with its share: how much money it takes
module _ (w : WorldValue) (c : CampaignValue) (e : ℕ × ℕ) where
  -- if the unit of `e` is there and is `u`, in region `q`, the campaign after the tax (`after_tax`) is that after `u`
  -- took its share of the money of `q` (`after_share_taken`)
  pub taxed_is : (u : Unit) (q : Region) → get c.units e.0 ≡ Some u → get c.regions u.region ≡ Some q
      → after_tax c e ≡ after_share_taken c e.0 u q e.1
  unfolding after_tax
  taxed_is u q is around =
      unit_there c e.0 _ u is ∙ region_there c u.region _ q around ∙ tax_is w c e.0 u q e.1 is around

  -- a share of tax that can be taken (`CanTax`) keeps the campaign early, and books nothing (`LeavesWell`)
  pub taxed_well : CanTax w c e → LeavesWell IsEarly moves_nothing w c (after_tax c e)
  taxed_well can =
      subst (λ d. LeavesWell IsEarly moves_nothing w c d) (sym (taxed_is can.at.unit can.at.region can.at.there can.at.around))
      (tax_leaves_well w c e.0 can.at.unit can.at.region e.1 can.at.there can.at.around can.enough can.fits can.early)

  taxed_others : CanTax w c e → (k : ℕ) → k ≢ e.0 → get (after_tax c e).units k ≡ get c.units k
  taxed_others can k apart =
      ap (λ (d : CampaignValue). get d.units k) (taxed_is can.at.unit can.at.region can.at.there can.at.around)
      ∙ others_stay c e.0 can.at.unit e.1 can.at.there k apart

  taxed_drains : (can : CanTax w c e) (units : FinMap nat_cmp Unit) → get units e.0 ≡ Some can.at.unit
      → Drains (region_pots units money_of) c e (after_tax c e)
  taxed_drains can units there =
      one_drains units money_of c e can.at.unit can.at.region there can.at.around (after_tax c e) (with_share_taken can.at.region e.1)
      (ap (λ (d : CampaignValue). d.regions) (taxed_is can.at.unit can.at.region can.at.there can.at.around)) (sub-add_cancel can.enough)

  taxed_no_worse : AreNoWorse c (after_tax c e)
  unfolding after_tax
  taxed_no_worse =
      by_unit c e.0 (AreNoWorse c) _ (are_no_worse c) (λ u is.
      by_region c u.region (AreNoWorse c) _ (are_no_worse c) (λ q around.
      subst (λ (d : CampaignValue). AreNoWorse c (with_region_money d u.region (q.money - e.1))) (sym (richer_is c e.0 u e.1 is))
      (λ k v there. richer_no_worse c e.0 u e.1 is k v there)))

each_no_worse : (w : WorldValue) (c : CampaignValue) (es : List (ℕ × ℕ)) → AreNoWorse c (fold after_tax c es)
each_no_worse w c [] = are_no_worse c
each_no_worse w c (e ∷ es) =
    are_no_worse_twice c (after_tax c e) (fold after_tax (after_tax c e) es) (taxed_no_worse w c e)
    (each_no_worse w (after_tax c e) es)

-- TAX leaves all units no worse off
pub tax_keeps_units : (w : WorldValue) (c : CampaignValue) (os : List Task)
    → AreNoWorse c (after_sharing tax_pots w c os)
unfolding after_sharing
tax_keeps_units w c os = each_no_worse w c (entries (given_by tax_pots w c os))

-- ---- all shares can be paid in turn

-- `c` is the campaign when TAX begins, `d` the one after the shares taken so far; `es` are the shares to come
module _ (w : WorldValue) (c : CampaignValue) where
  abbrev pots : DrawnPots ℕ
  pots = region_pots c.units money_of

  abbrev HasRoomFor : ℕ × ℕ → Type 0
  HasRoomFor e = (u : Unit) × (get c.units e.0 ≡ Some u) × (u.holding.money + e.1 ≤ holding_limit)

  abbrev AreTaken : CampaignValue → List (ℕ × ℕ) → Type 0
  AreTaken = SharesArePayable pots HasRoomFor w c

  first_can : (d : CampaignValue) (e : ℕ × ℕ) (es : List (ℕ × ℕ)) → AreTaken d (e ∷ es) → CanTax w d e
  first_can d e es ready =
      let (u, there, fits) = ready.fits.0 in
      let now : get d.units e.0 ≡ Some u = ready.same.0 ∙ there in
      let (q, around) = (ready.early.steady.known.units e.0 u now).region in
      let draws = one_draws c.units money_of d e u q there around es ready.enough in
      record { at = record { unit = u; there = now; region = q; around = around }; fits = fits; enough = draws; early = ready.early }

  all_can : (d : CampaignValue) (es : List (ℕ × ℕ)) → AreTaken d es → CanInTurn (CanTax w) after_tax d es
  all_can d [] ready = tt
  all_can d (e ∷ es) ready =
      let can = first_can d e es ready in
      let early = (taxed_well w d e can).leaves_it in (
        can,
        all_can (after_tax d e) es (ready_after pots w c d e es (after_tax d e) ready early (taxed_others w d e can) (taxed_drains w d e can c.units (sym ready.same.0 ∙ can.at.there))),
      )

  -- TAX begins in the early campaign `c`
  module _ (early : IsEarly w c) (os : List Task) where
    abbrev shares : List (ℕ × ℕ)
    shares = entries (given_by tax_pots w c os)

    wanted_fits : (money men share : ℕ) → money ≤ holding_limit → share ≤ min men (holding_limit - money)
        → money + share ≤ holding_limit
    wanted_fits money men share fits low = omega (arith, fits, low)

    each_fits : Every (λ n share. HasRoomFor (n, share)) (given_by tax_pots w c os)
    each_fits n share is =
        let (u, o, there, own, low) = given_is_wanted tax_pots w c (λ items. pots_give (money_at c) c) os n share is in
        (u, there, wanted_fits u.holding.money _ share (early.steady.numbers.units n u there).1.money low)

    all_enough : HaveEnough pots c shares
    all_enough r q around =
        subst (λ pot. drawn (draws_region c.units r) shares ≤ pot) (ap (λ o. option_map_or money_of o 0) around)
        (pot_is_enough _ _ c r (q, around))

    -- all shares of TAX can be paid in turn
    pub can_share_out : CanInTurn (CanTax w) after_tax c shares
    can_share_out = all_can c shares (record {
      early = early;
      rise = entries_rise (given_by tax_pots w c os);
      same = untouched c shares;
      fits = all_pairs HasRoomFor shares (each-from_every (λ n share. HasRoomFor (n, share)) (given_by tax_pots w c os) each_fits);
      enough = all_enough;
    })

    -- TAX keeps an early campaign early and its books balanced, and books nothing (`LeavesWell`)
    pub all_taxes_leave_well : LeavesWell IsEarly moves_nothing w c (after_sharing tax_pots w c os)
    unfolding after_sharing
    all_taxes_leave_well =
        well_within (moved_times (length shares) moves_nothing) moves_nothing w c (fold after_tax c shares) (λ e t. omega arith)
        (turns_leave_well moves_nothing w (CanTax w) after_tax (taxed_well w) c shares early can_share_out)
