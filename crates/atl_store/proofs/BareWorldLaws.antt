-- Law: a good campaign with nothing in stock is good in each world that differs in markets alone.
-- In the public law the worlds are `v` and `w`. `c` is the campaign, and `bare` says that nothing is in stock.
use Rattle.std.proofs.Common.{◌≡◌, ℕ, false, Option, Some, None, refl, sym, ap, ◌∙◌, subst}
use Rattle.std.specs.Prelude.{option_map}
use Rattle.std.specs.Option.{option_map_or}
use Rattle.std.specs.Ordering.{nat_cmp}
use Rattle.std.specs.FinMap.{FinMap, get, get-empty}
use Rattle.atl_world.specs.ByNumber.{is_land_at}
use Rattle.atl_world.specs.Worlds.{WorldValue, is_land, without_market, without_markets}
use Rattle.atl_world.specs.declared.world.RegionPlan.{RegionPlan}
use Rattle.atl_world.proofs.MappedLaws.{get-mapped}
use Rattle.atl_campaign.specs.Campaign.{CampaignValue}
use Rattle.atl_world.specs.Every.{HasValue}
use Rattle.atl_campaign.specs.Good.{HasNoStocks, IsGood}
use Rattle.atl_records.specs.declared.records.Region.{Region}

nothing_in_stock : (c : CampaignValue) → HasNoStocks c → (n : ℕ) (r : Region) → get c.regions n ≡ Some r
    → (i amount : ℕ) → ¬ (get r.stocks i ≡ Some amount)
nothing_in_stock c bare n r is i amount there = let e = sym (get-empty {X = ℕ} nat_cmp i) ∙ ap (λ (m : FinMap nat_cmp ℕ). get m i) (sym (bare n r is)) ∙ there in absurd cc

-- ---- in a world with other regions

module _ (v : WorldValue) (regions : FinMap nat_cmp RegionPlan) (c : CampaignValue) (bare : HasNoStocks c) where
  abbrev changed_world : WorldValue
  changed_world = record v { regions = regions }

  -- a campaign that is good in world `v` is good in world `changed_world`, if nothing is in stock, and both worlds have
  -- regions and land under the same numbers
  good_with : ((n : ℕ) → is_land_at changed_world n ≡ is_land_at v n)
      → ((n : ℕ) → HasValue v.regions n → HasValue regions n) → ((n : ℕ) → HasValue regions n → HasValue v.regions n)
      → IsGood v c → IsGood changed_world c
  good_with land ahead back good =
      let steady = good.sound.steady in
      record {
        sound = record {
          steady = record {
            numbers = record {
              month = steady.numbers.month;
              few_factions = steady.numbers.few_factions;
              few_regions = steady.numbers.few_regions;
              few_units = steady.numbers.few_units;
              few_structures = steady.numbers.few_structures;
              next_unit_least = steady.numbers.next_unit_least;
              next_unit_most = steady.numbers.next_unit_most;
              factions = steady.numbers.factions;
              regions = λ n r is.
                  let region = steady.numbers.regions n r is in
                  record { peasants = region.peasants; money = region.money; stocks = λ i amount there. absurd (nothing_in_stock c bare n r is i amount there) };
              units = steady.numbers.units;
              structures = steady.numbers.structures;
              books = steady.numbers.books;
            };
            names = steady.names;
            known = record {
              regions = λ n. (λ here. ahead n ((steady.known.regions n).0 here), λ there. (steady.known.regions n).1 (back n there));
              markets = λ n r is i amount there. absurd (nothing_in_stock c bare n r is i amount there);
              units = λ n u is.
                  let placed = steady.known.units n u is in
                  record { faction = placed.faction; region = placed.region; structure = placed.structure; items = placed.items; skills = placed.skills };
              structures = λ n s is. let built = steady.known.structures n s is in record { kind = built.kind; region = built.region; owner = built.owner };
              posts = steady.known.posts;
            };
            next = steady.next;
            days = steady.days;
            gone = steady.gone;
            owners = steady.owners;
            water = record { units = λ n u is dry. steady.water.units n u is (sym (land u.region) ∙ dry); structures = λ n s is dry. steady.water.structures n s is (sym (land s.region) ∙ dry) };
            guarded = steady.guarded;
          };
          men = good.sound.men;
          amounts = good.sound.amounts;
          gone = good.sound.gone;
          balances = good.sound.balances;
          mail = good.sound.mail;
        };
        reported = good.reported;
      }

-- ---- in a world without markets

module _ (w : WorldValue) where
  land_same : (n : ℕ) → is_land_at (without_markets w) n ≡ is_land_at w n
  land_same n =
      ap (λ o. option_map_or (is_land w.terrains) o false) (get-mapped without_market w.regions n)
      ∙ by_plan (get w.regions n)
    where
      by_plan : (o : Option RegionPlan)
          → option_map_or (is_land w.terrains) (option_map without_market o) false
          ≡ option_map_or (is_land w.terrains) o false
      by_plan None = refl
      by_plan (Some p) = refl

  stays_without_markets : (n : ℕ) → HasValue w.regions n → HasValue (without_markets w).regions n
  stays_without_markets n (p, there) =
      (without_market p, get-mapped without_market w.regions n ∙ ap (option_map without_market) there)

  is_of_world : (n : ℕ) → HasValue (without_markets w).regions n → HasValue w.regions n
  is_of_world n (p, there) = by_plan (get w.regions n) refl (sym (get-mapped without_market w.regions n) ∙ there)
    where
      by_plan : (o : Option RegionPlan) → get w.regions n ≡ o → option_map without_market o ≡ Some p
          → HasValue w.regions n
      by_plan None is e = absurd cc
      by_plan (Some q) is e = (q, is)

  module _ (c : CampaignValue) (bare : HasNoStocks c) where
    without_good : IsGood w c → IsGood (without_markets w) c
    without_good good = good_with w (without_markets w).regions c bare land_same stays_without_markets is_of_world good

    with_good : IsGood (without_markets w) c → IsGood w c
    with_good good =
        good_with (without_markets w) w.regions c bare (λ n. sym (land_same n)) is_of_world stays_without_markets good

-- a campaign with nothing in stock that is good in a world is good in each world that differs from it in markets alone
pub good_either : (v w : WorldValue) (c : CampaignValue) → without_markets w ≡ without_markets v → HasNoStocks c
    → IsGood v c → IsGood w c
good_either v w c same bare good = with_good w c bare (subst (λ x. IsGood x c) (sym same) (without_good v c bare good))
