-- Laws that TAX, RECRUIT, WORK and PRODUCE change all units and regions at once: a payment changes only its own unit
-- and region. `c` is the campaign when the phase begins, `d` the one that the payments so far leave, and `os` are the
-- orders of the phase. `e` is a unit's number with its share, `u` the unit, and `q` its region.
use Rattle.std.proofs.Common.{◌≡◌, ℕ, ◌+◌, ◌-◌, ◌*◌, true, false, Option, Some, None, refl, ap, ◌∙◌, arith}
use Rattle.std.specs.Option.{option_map_or}
use Rattle.std.specs.Ordering.{nat_cmp}
use Rattle.std.specs.FinMap.{FinMap, get}
use Rattle.atl_world.specs.Worlds.{WorldValue}
use Rattle.atl_world.specs.declared.world.Item.{Item}
use Rattle.atl_campaign.specs.Campaign.{CampaignValue}
use Rattle.atl_records.specs.declared.records.Unit.{Unit}
use Rattle.atl_world.proofs.EveryLaws.{get-insert_other}
use Rattle.atl_campaign.proofs.RegionLaws.{changed-known, get-insert_same}
use Rattle.atl_pots.proofs.PotLaws.{only_takers_get, pots_give}
use Rattle.atl_market.specs.AtOnce.{unchanged_region}
use Rattle.atl_market.specs.Goods.{with_made, with_used}
use Rattle.atl_market.specs.AfterPots.{ProducesAtOnce, RecruitsAtOnce, TaxesAtOnce, WorksAtOnce, unit_after_production, maker_of, with_raw_taken, with_less_money, with_less_peasants, with_pieces_added, with_more_money, with_recruits}
use Rattle.atl_market.specs.PotPhase.{items_by, wants_by}
use Rattle.atl_market.specs.Produce.{after_production, numbered_item, produce_pots, with_item_made, with_raw_used}
use Rattle.atl_market.specs.Recruit.{after_recruiting, recruit_pots, recruits_at, with_paid_recruits}
use Rattle.atl_market.specs.Tax.{after_tax, money_at, tax_pots}
use Rattle.atl_market.specs.Work.{after_work, places_at, wages_for, work_pots}
use Rattle.atl_market.proofs.AtOnceLaws.{Pays, all_at_once}
use Rattle.atl_market.proofs.ItemUseLaws.{made_unit, used_unit}
use Rattle.atl_market.proofs.ProduceLaws.{given_can, produced_others}
use Rattle.atl_market.proofs.MoreMoneyLaws.{others_stay, paid_unit}
use Rattle.atl_market.proofs.RecruitLaws.{with_fewer_peasants, recruited_is, recruited_others}
use Rattle.atl_market.proofs.TaxLaws.{with_share_taken, taxed_is}
use Rattle.atl_market.proofs.WantLaws.{given_is_wanted}
use Rattle.atl_market.proofs.ThereLaws.{by_option, by_unit}
use Rattle.atl_market.proofs.WorkLaws.{wages_leave_others, worked_is}

less_none : (a : ℕ) → a - 0 ≡ a
less_none a = omega arith

less_both : (a s t : ℕ) → a - s - t ≡ a - (s + t)
less_both a s t = omega arith

-- ---- TAX

module _ (w : WorldValue) where
  tax_pays : Pays true (λ d e. after_tax d e) (λ n. with_more_money) with_less_money
  tax_pays = record {
    mine = λ d e u is (q, around). ap (λ (s : CampaignValue). get s.units e.0) (taxed_is w d e u q is around) ∙ get-insert_same d.units e.0 (paid_unit d e.0 u e.1);
    others = λ d e u is (q, around) k apart. ap (λ (s : CampaignValue). get s.units k) (taxed_is w d e u q is around) ∙ others_stay d e.0 u e.1 is k apart;
    region = λ d e u q is around.
        ap (λ (s : CampaignValue). get s.regions u.region) (taxed_is w d e u q is around)
        ∙ ap (λ m. get m u.region) (changed-known (with_share_taken q e.1) d.regions u.region q around)
        ∙ get-insert_same d.regions u.region (with_share_taken q e.1 q);
    regions = λ d e u is (q, around) k apart.
        ap (λ (s : CampaignValue). get s.regions k) (taxed_is w d e u q is around)
        ∙ ap (λ m. get m k) (changed-known (with_share_taken q e.1) d.regions u.region q around)
        ∙ get-insert_other d.regions u.region k (with_share_taken q e.1 q) apart;
    nothing = λ q. ap (λ m. record q { money = m }) (less_none q.money);
    twice = λ q s t. ap (λ m. record q { money = m }) (less_both q.money s t);
  }

-- TAX pays all units at once: each payment changes only its own unit and region, and both are there
pub taxes_at_once : TaxesAtOnce
taxes_at_once w c os =
    all_at_once tax_pots w (λ n. with_more_money) with_less_money c os (tax_pays w)
    (λ n share is. let (want, u, wanted, low, at, region) = only_takers_get (money_at c) (wants_by tax_pots w c os) c n share is in (u, at, region))

-- ---- RECRUIT

module _ (w : WorldValue) where
  recruit_pays : Pays true (after_recruiting w) (λ n. with_recruits w) with_less_peasants
  recruit_pays = record {
    mine = λ d e u is (q, around).
        ap (λ (s : CampaignValue). get s.units e.0) (recruited_is w d e u q is around) ∙ get-insert_same d.units e.0 (record u { holding = with_paid_recruits u.holding e.1 (e.1 * w.rules.recruit_price) });
    others = λ d e u is here k apart. recruited_others w d e k apart;
    region = λ d e u q is around.
        ap (λ (s : CampaignValue). get s.regions u.region) (recruited_is w d e u q is around)
        ∙ ap (λ m. get m u.region) (changed-known (with_fewer_peasants q e.1) d.regions u.region q around)
        ∙ get-insert_same d.regions u.region (with_fewer_peasants q e.1 q);
    regions = λ d e u is (q, around) k apart.
        ap (λ (s : CampaignValue). get s.regions k) (recruited_is w d e u q is around)
        ∙ ap (λ m. get m k) (changed-known (with_fewer_peasants q e.1) d.regions u.region q around)
        ∙ get-insert_other d.regions u.region k (with_fewer_peasants q e.1 q) apart;
    nothing = λ q. ap (λ p. record q { peasants = p }) (less_none q.peasants);
    twice = λ q s t. ap (λ p. record q { peasants = p }) (less_both q.peasants s t);
  }

-- the recruits of all units join at once: each payment changes only its own unit and region, and both are there
pub recruits_at_once : RecruitsAtOnce
recruits_at_once w c os =
    all_at_once recruit_pots w (λ n. with_recruits w) with_less_peasants c os (recruit_pays w)
    (λ n share is. let (want, u, wanted, low, at, region) = only_takers_get (recruits_at w c) (wants_by recruit_pots w c os) c n share is in (u, at, region))

-- ---- WORK

module _ (w : WorldValue) where
  work_pays : Pays false (after_work w) (λ n u places. with_more_money u (wages_for w u.region places)) unchanged_region
  work_pays = record {
    mine = λ d e u is here. ap (λ (s : CampaignValue). get s.units e.0) (worked_is w d e u is) ∙ get-insert_same d.units e.0 (paid_unit d e.0 u (wages_for w u.region e.1));
    others = λ d e u is here k apart. ap (λ (s : CampaignValue). get s.units k) (worked_is w d e u is) ∙ wages_leave_others w d e.0 u (wages_for w u.region e.1) is k apart;
    region = λ d e u q is around. ap (λ (s : CampaignValue). get s.regions u.region) (worked_is w d e u is) ∙ around;
    regions = λ d e u is here k apart. ap (λ (s : CampaignValue). get s.regions k) (worked_is w d e u is);
    nothing = λ q. refl;
    twice = λ q s t. refl;
  }

-- WORK pays all units at once: each payment changes only its own unit, which is there
pub works_at_once : WorksAtOnce
works_at_once w c os =
    all_at_once work_pots w (λ n u places. with_more_money u (wages_for w u.region places)) unchanged_region c os (work_pays w)
    (λ n share is. let (u, o, there, own, low) = given_is_wanted work_pots w c (λ items. pots_give (places_at w) c) os n share is in (u, there, tt))

-- ---- PRODUCE

-- `asked` has by unit the item that its order names
module _ (asked : FinMap nat_cmp ℕ) (w : WorldValue) where
  used_regions : (d : CampaignValue) (n i amount : ℕ) → (with_used d n i amount).regions ≡ d.regions
  used_regions d n i amount = by_unit d n (λ (s : CampaignValue). s.regions ≡ d.regions) _ refl (λ u is. refl)

  made_regions : (d : CampaignValue) (n i amount : ℕ) → (with_made d n i amount).regions ≡ d.regions
  made_regions d n i amount = by_unit d n (λ (s : CampaignValue). s.regions ≡ d.regions) _ refl (λ u is. refl)

  abbrev HasItsRegions : CampaignValue → CampaignValue → Type 0
  HasItsRegions d s = s.regions ≡ d.regions

  produced_regions : (d : CampaignValue) (e : ℕ × ℕ) → (after_production asked w d e).regions ≡ d.regions
  unfolding after_production
  produced_regions d e =
      by_option (HasItsRegions d) _ (numbered_item w (get asked e.0)) d refl (λ (i, x) is.
      let amount = e.1 * x.raw_count in
      made_regions (with_raw_used d e.0 amount x.raw) e.0 i e.1
      ∙ by_option (HasItsRegions d) (λ r. with_used d e.0 r amount) x.raw d refl (λ r raw. used_regions d e.0 r amount))

  -- a unit that is there has, after its production, more of the item that it made and less of the raw items
  -- (`unit_after_production`)
  produced_unit : (d : CampaignValue) (e : ℕ × ℕ) (u : Unit) → get d.units e.0 ≡ Some u
      → get (after_production asked w d e).units e.0 ≡ Some (unit_after_production w u e.1 (get asked e.0))
  unfolding after_production
  produced_unit d e u is = by_item (numbered_item w (get asked e.0))
    where
      by_raw : (i amount : ℕ) (o : Option ℕ)
          → get (with_made (with_raw_used d e.0 amount o) e.0 i e.1).units e.0
          ≡ Some (record u { holding = with_pieces_added (with_raw_taken u.holding o amount) i e.1 })
      by_raw i amount None = made_unit w d e.0 i e.1 u is
      by_raw i amount (Some r) =
          made_unit w (with_used d e.0 r amount) e.0 i e.1
          (record u { holding = with_raw_taken u.holding (Some r) amount }) (used_unit w d e.0 r amount u is)

      -- after its production the unit has more of the world's item `o` that its order names, and less of the raw items
      -- (`maker_of`); without such an item the unit is as it was
      by_item : (o : Option (ℕ × Item))
          → get (option_map_or (λ f. with_item_made d e.0 e.1 f.0 f.1) o d).units e.0
          ≡ Some (option_map_or (λ f. maker_of u e.1 f.0 f.1) o u)
      by_item None = is
      by_item (Some (i, x)) = by_raw i (e.1 * x.raw_count) x.raw

  produce_pays : Pays false (after_production asked w) (λ n u made. unit_after_production w u made (get asked n)) unchanged_region
  produce_pays = record {
    mine = λ d e u is here. produced_unit d e u is;
    others = λ d e u is here k apart. produced_others asked w d e k apart;
    region = λ d e u q is around. ap (λ m. get m u.region) (produced_regions d e) ∙ around;
    regions = λ d e u is here k apart. ap (λ m. get m k) (produced_regions d e);
    nothing = λ q. refl;
    twice = λ q s t. refl;
  }

-- all units produce at once: each production changes only its own unit, which is there
pub produces_at_once : ProducesAtOnce
produces_at_once w c os =
    let items = items_by produce_pots w c os in
    all_at_once produce_pots w (λ n u made. unit_after_production w u made (get items n)) unchanged_region c os (produce_pays items w)
    (λ n made is. let (u, there, low) = given_can w c os n made is in (u, there, tt))
