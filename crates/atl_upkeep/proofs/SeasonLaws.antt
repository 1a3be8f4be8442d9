-- Laws of the season in a world (`IsWorld`): it keeps a campaign steady and of the same month, its books balanced
-- (`LeavesWell`) and all units as they are, and the books have room for it. `n` is the number of a region, `r` the
-- region before its season, `t` its terrain, and `word` its word of the dice; `words` are those of all regions.
use Rattle.std.proofs.Common.{◌≡◌, ℕ, ◌+◌, ◌-◌, ◌≤◌, Option, Some, None, List, [], ◌∷◌, length, map, refl, sym, ap, subst, ◌∙◌, arith}
use Rattle.std.specs.Prelude.{pos, ◌+ℤ◌, fold, zip, option_and_then}
use Rattle.std.specs.List.{slice_get}
use Rattle.std.specs.FinMap.{entries, get, len-entries}
use Rattle.std.specs.Option.{option_map_or}
use Rattle.std.proofs.lemmas.List.{length-map}
use Rattle.std.proofs.lemmas.Int.{ints}
use Rattle.std.proofs.lemmas.Bool.Decides.{nat_tests}
use Rattle.atl_world.specs.Worlds.{WorldValue, IsWorld}
use Rattle.atl_world.specs.Limits.{most_amount, most_regions}
use Rattle.atl_world.specs.declared.world.Terrain.{Terrain}
use Rattle.atl_world.specs.declared.world.RegionPlan.{RegionPlan}
use Rattle.atl_world.specs.ByNumber.{terrain_of}
use Rattle.atl_records.specs.declared.books.BooksEntry.{BooksEntry}
use Rattle.atl_records.specs.declared.books.BooksEntry.TheVariants.{Births, Income}
use Rattle.atl_records.specs.declared.books.Thing.{Thing}
use Rattle.atl_records.specs.declared.books.Thing.TheVariants.{Money, People, Item}
use Rattle.atl_records.specs.declared.records.Region.{Region}
use Rattle.atl_records.specs.Books.{BooksValue, amount_in, after_booking}
use Rattle.atl_campaign.specs.Good.{IsSteady}
use Rattle.atl_campaign.specs.Covers.{MarksChanges}
use Rattle.atl_campaign.specs.Marking.{mark_amount, mark_peasants, mark_region_money}
use Rattle.atl_campaign.specs.Campaign.{MarkedCampaign, CampaignValue, with_booking, with_peasants, with_region_money}
use Rattle.atl_records.specs.Amounts.{region_amount}
use Rattle.atl_campaign.specs.Totals.{Balances, total}
use Rattle.atl_records.proofs.BookLaws.{booked-after_booking, booked_for}
use Rattle.atl_campaign.proofs.CoverLaws.{marks-peasants, marks-region-money, marks-trans}
use Rattle.atl_campaign.proofs.RegionLaws.{IsRegion-money, IsRegion-peasants, region-changed, steady-amount, steady-region, total-booking, total-region}
use Rattle.atl_world.proofs.EveryLaws.{none_some}
use Rattle.atl_phase.specs.Meaning.{IsNear, LeavesWell, both_move, most_moved, moves_only}
use Rattle.atl_phase.specs.Bounds.{HaveRoom, moved_times}
use Rattle.atl_phase.specs.There.{at_region}
use Rattle.atl_phase.proofs.MarkLaws.{marks_by, booked_marks}
use Rattle.atl_phase.proofs.MeaningLaws.{both_leave_well, fold_leaves_well, near_more, near_twice, room_after_one, room_for_one, room_less, same_month_by, well_unchanged, well_within}
use Rattle.atl_phase.proofs.BookingLaws.{booked-near, within-pos}
use Rattle.atl_upkeep.specs.Restock.{after_restock, markets_of, stocks_by}
use Rattle.atl_upkeep.specs.Season.{births, grows_by, income, season, season_at, season_moves, season_of, with_growth}
use Rattle.atl_upkeep.proofs.RestockLaws.{restocked_keeps, restocked_leaves_well}
use Rattle.std.proofs.lemmas.Slice.Zip.{length-zip}

-- peasants and births together are at most 999,999,999, if `limit` and the peasants are
pub births_fit : (growth limit word peasants : ℕ) → limit ≤ most_amount → peasants ≤ most_amount
    → peasants + births growth limit word peasants ≤ most_amount
births_fit growth limit word peasants l p = omega (arith, l, p)

-- money and income together are at most 999,999,999, if `limit` and the money are
pub income_fits : (per_peasant limit peasants money : ℕ) → limit ≤ most_amount → money ≤ most_amount
    → money + income per_peasant limit peasants money ≤ most_amount
income_fits per_peasant limit peasants money l m = omega (arith, l, m)

-- ---- the books of a region's season

-- region `n` is `r` before its season; `born` peasants are born there, and its peasants earn `earned` money
module _ (w : WorldValue) (c : CampaignValue) (n : ℕ) (r : Region) (born earned : ℕ) (is : get c.regions n ≡ Some r) where
  -- the campaign with the births, not booked yet, and without the income
  abbrev peopled : CampaignValue
  peopled = with_peasants c n (r.peasants + born)

  -- the campaign with the births and the income, neither booked yet
  abbrev paid : CampaignValue
  paid = with_region_money peopled n (r.money + earned)

  -- the campaign with the births and the income, of which the births are booked
  abbrev counted : CampaignValue
  counted = with_booking paid Births People (pos born)

  abbrev more_people : Region → Region
  more_people q = record q { peasants = r.peasants + born }

  abbrev more_money : Region → Region
  more_money q = record q { money = r.money + earned }

  peopled_there : get peopled.regions n ≡ Some (more_people r)
  peopled_there = region-changed more_people c n r is

  growth_steady : r.peasants + born ≤ most_amount → r.money + earned ≤ most_amount → IsSteady w c
      → IsSteady w (with_growth c n r.peasants r.money born earned)
  growth_steady p m old =
      let grown = IsRegion-peasants r (r.peasants + born) p (old.numbers.regions n r is) in
      let stocks = old.known.markets n r is in
      steady-amount w counted Income Money (pos earned) (omega arith) (steady-amount w paid Births People (pos born) (omega arith)
      (steady-region more_money peopled n (more_people r) peopled_there w (IsRegion-money (more_people r) (r.money + earned) m grown) stocks (steady-region more_people c n r is w grown stocks old)))

  total_grown : (t : Thing)
      → pos (total (with_growth c n r.peasants r.money born earned) t)
      ≡ (pos (total c t) +ℤ booked_for t People (pos born)) +ℤ booked_for t Money (pos earned)
  total_grown t =
      total_of t (total-booking counted Income Money t (pos earned)) (total-booking paid Births People t (pos born))
      (total-region more_people c n r is t) (total-region more_money peopled n (more_people r) peopled_there t)
    where
      total_of : (t : Thing) → total (with_growth c n r.peasants r.money born earned) t ≡ total counted t
          → total counted t ≡ total paid t
          → total peopled t + region_amount t r ≡ total c t + region_amount t (more_people r)
          → total paid t + region_amount t (more_people r) ≡ total peopled t + region_amount t (more_money (more_people r))
          → pos (total (with_growth c n r.peasants r.money born earned) t) ≡ (pos (total c t) +ℤ booked_for t People (pos born)) +ℤ booked_for t Money (pos earned)
      total_of Money a b g h = omega (arith, ints, a, b, g, h)
      total_of People a b g h = omega (arith, ints, a, b, g, h)
      total_of (Item i) a b g h = grind (arith, ints, nat_tests, a, b, g, h)

  -- the books after the births were booked, and before the income is
  abbrev one_booked : BooksValue
  one_booked = after_booking c.books Births People (pos born)

  growth_balances : Balances c → Balances (with_growth c n r.peasants r.money born earned)
  growth_balances old t =
      total_grown t
      ∙ ap (λ z. (z +ℤ booked_for t People (pos born)) +ℤ booked_for t Money (pos earned)) (old t)
      ∙ ap (λ z. z +ℤ booked_for t Money (pos earned)) (sym (booked-after_booking c.books Births People (pos born) t))
      ∙ sym (booked-after_booking one_booked Income Money (pos earned) t)

  growth_near : born ≤ most_amount → earned ≤ most_amount → (e : BooksEntry) (t : Thing)
      → IsNear (grows_by most_amount e t) (amount_in c.books e t) (amount_in (with_growth c n r.peasants r.money born earned).books e t)
  growth_near b m e t =
      let people = moves_only most_amount Births People e t in
      let money = moves_only most_amount Income Money e t in
      near_more (people + money) (money + people) _ _ (omega arith)
      (near_twice people money _ _ _
      (booked-near c.books Births People (pos born) most_amount (within-pos born most_amount b) e t)
      (booked-near one_booked Income Money (pos earned) most_amount (within-pos earned most_amount m) e t))

  -- Births and income that leave a region at most 999,999,999 peasants and as much money keep a steady campaign steady
  -- and of the same month, and its books balanced. Births of people and Income of money move by at most 999,999,999
  -- each (`grows_by`), and no other amount does.
  pub growth_leaves_well : r.peasants + born ≤ most_amount → r.money + earned ≤ most_amount → IsSteady w c
      → LeavesWell IsSteady (grows_by most_amount) w c (with_growth c n r.peasants r.money born earned)
  growth_leaves_well p m steady = record {
    leaves_it = growth_steady p m steady;
    same_month = same_month_by refl;
    balances = growth_balances;
    near = growth_near (omega arith) (omega arith);
  }

-- books with room for income and births together have room for births and then income
pub births_first : (c : CampaignValue) → HaveRoom (grows_by most_amount) c
    → HaveRoom (both_move (moves_only most_amount Births People) (moves_only most_amount Income Money)) c
births_first c room =
    room_less (both_move (moves_only most_amount Births People) (moves_only most_amount Income Money))
    (grows_by most_amount) c (λ e t. omega arith) room

-- ---- marks

-- Setting the peasants and the money of region `n`, and booking `born` people as Births and `earned` money as Income,
-- each with its mark, marks all that changes (`MarksChanges`). The steps go from campaign c over d, e and f to g.
pub growth_marks : (c d e f g : MarkedCampaign) (n peasants money born earned : ℕ)
    → d.value ≡ with_peasants c.value n peasants → d.marks ≡ mark_peasants c n peasants
    → e.value ≡ with_region_money d.value n money → e.marks ≡ mark_region_money d n money
    → f.value ≡ with_booking e.value Births People (pos born) → f.marks ≡ mark_amount e Births People
    → g.value ≡ with_booking f.value Income Money (pos earned) → g.marks ≡ mark_amount f Income Money → MarksChanges c g
growth_marks c d e f g n peasants money born earned d_is d_marks e_is e_marks f_is f_marks g_is g_marks =
    let people = marks_by c d _ d_is d_marks (marks-peasants c n peasants) in
    let treasure = marks_by d e _ e_is e_marks (marks-region-money d n money) in
    booked_marks c f g Income Money (pos earned) (booked_marks c e f Births People (pos born) (marks-trans c d e people treasure) f_is f_marks) g_is g_marks

terrain_in : (w : WorldValue) (o : Option RegionPlan) (t : Terrain) → IsWorld w
    → option_and_then (λ (p : RegionPlan). slice_get w.terrains p.terrain) o ≡ Some t
    → (t.peasant_limit ≤ most_amount) × (t.money_limit ≤ most_amount)
terrain_in w None t world is = none_some t is
terrain_in w (Some p) t world is = let terrain = world.terrains p.terrain t is in (terrain.peasant_limit, terrain.money_limit)

-- the limits of peasants and of money of the terrain of a region of the world are at most 999,999,999
pub limits_fit : (w : WorldValue) (n : ℕ) (t : Terrain) → IsWorld w → terrain_of w n ≡ Some t
    → (t.peasant_limit ≤ most_amount) × (t.money_limit ≤ most_amount)
limits_fit w n t world is = terrain_in w (get w.regions n) t world is

-- ---- the season of a region, and of all

-- The births and the income of a region keep a steady campaign steady and of the same month, and its books balanced.
-- They move Births of people and Income of money alone, each by at most 999,999,999.
pub region_grows_well : (w : WorldValue) → IsWorld w → (c : CampaignValue) (n word : ℕ) (t : Terrain) (r : Region)
    → terrain_of w n ≡ Some t → get c.regions n ≡ Some r → IsSteady w c
    → LeavesWell IsSteady (grows_by most_amount) w c (with_growth c n r.peasants r.money (births w.rules.growth t.peasant_limit word r.peasants) (income w.rules.income t.money_limit (r.peasants + births w.rules.growth t.peasant_limit word r.peasants) r.money))
region_grows_well w world c n word t r here is steady =
    let born = births w.rules.growth t.peasant_limit word r.peasants in
    let (peasant_limit, money_limit) = limits_fit w n t world here in
    let within = steady.numbers.regions n r is in
    growth_leaves_well w c n r born (income w.rules.income t.money_limit (r.peasants + born) r.money) is
    (births_fit w.rules.growth t.peasant_limit word r.peasants peasant_limit within.peasants)
    (income_fits w.rules.income t.money_limit (r.peasants + born) r.money money_limit within.money) steady

-- The season of region `x.0` with its word `x.1` keeps a steady campaign steady and of the same month, and its books
-- balanced. It moves only Births of people, Income of money, and Stocked of each item, each by at most 999,999,999.
pub season_at_leaves_well : (w : WorldValue) → IsWorld w → (c : CampaignValue) (x : ℕ × ℕ) → IsSteady w c
    → LeavesWell IsSteady (season_moves most_amount) w c (season_at w c x)
unfolding season_at
season_at_leaves_well w world c (n, word) steady = by_terrain (terrain_of w n) refl
  where
    same : LeavesWell IsSteady (season_moves most_amount) w c c
    same = well_unchanged (season_moves most_amount) w c steady

    by_region : (t : Terrain) → terrain_of w n ≡ Some t → (o : Option Region) → get c.regions n ≡ o
        → LeavesWell IsSteady (season_moves most_amount) w c (option_map_or (season_of w c n word t) o c)
    by_region t here None is = same
    by_region t here (Some r) is =
        let born = births w.rules.growth t.peasant_limit word r.peasants in
        let earned = income w.rules.income t.money_limit (r.peasants + born) r.money in
        let grown = with_growth c n r.peasants r.money born earned in
        let growth = region_grows_well w world c n word t r here is steady in
        both_leave_well (grows_by most_amount) (stocks_by most_amount) w c grown (after_restock n grown (entries (markets_of w n))) growth
        (restocked_leaves_well w world n grown growth.leaves_it)

    by_terrain : (o : Option Terrain) → terrain_of w n ≡ o
        → LeavesWell IsSteady (season_moves most_amount) w c (option_map_or (λ t. at_region c n (season_of w c n word t)) o c)
    by_terrain None is = same
    by_terrain (Some t) is = by_region t is (get c.regions n) refl

-- `k` moves, at most 10,000, each of Births, Income and Stocked alone and by at most 999,999,999, are within the bound
-- of a month's seasons
pub season_little : (k : ℕ) → k ≤ most_regions → (e : BooksEntry) (t : Thing)
    → moved_times k (season_moves most_amount) e t ≤ season_moves most_moved e t
season_little k few e t = grind (arith, few)

-- The season of all regions keeps a steady campaign steady and of the same month, and its books balanced. It moves only
-- births, income, and Stocked of each item, each by less than 10^14.
pub season_leaves_well : (w : WorldValue) → IsWorld w → (c : CampaignValue) (words : List ℕ) → IsSteady w c
    → LeavesWell IsSteady (season_moves most_moved) w c (season w c words)
season_leaves_well w world c words steady =
    let numbers = map (λ (e : ℕ × RegionPlan). e.0) (entries w.regions) in
    let pairs = zip numbers words in
    let few : length pairs ≤ most_regions = omega (arith, length-zip numbers words, length-map (entries w.regions) (λ (e : ℕ × RegionPlan). e.0), len-entries w.regions, world.few_regions) in
    well_within (moved_times (length pairs) (season_moves most_amount)) (season_moves most_moved) w c (season w c words) (season_little (length pairs) few)
    (fold_leaves_well (season_moves most_amount) w (season_at w) (season_at_leaves_well w world) c pairs steady)

season_at_keeps : (w : WorldValue) (c : CampaignValue) (x : ℕ × ℕ) → (season_at w c x).units ≡ c.units
unfolding season_at
season_at_keeps w c (n, word) = by_terrain (terrain_of w n)
  where
    by_region : (t : Terrain) (o : Option Region) → (option_map_or (season_of w c n word t) o c).units ≡ c.units
    by_region t None = refl
    by_region t (Some r) =
        let born = births w.rules.growth t.peasant_limit word r.peasants in
        let earned = income w.rules.income t.money_limit (r.peasants + born) r.money in
        restocked_keeps n (with_growth c n r.peasants r.money born earned) (entries (markets_of w n))

    by_terrain : (o : Option Terrain)
        → (option_map_or (λ t. at_region c n (season_of w c n word t)) o c).units ≡ c.units
    by_terrain None = refl
    by_terrain (Some t) = by_region t (get c.regions n)

seasons_keep_units : (w : WorldValue) (c : CampaignValue) (xs : List (ℕ × ℕ))
    → (fold (season_at w) c xs).units ≡ c.units
seasons_keep_units w c [] = refl
seasons_keep_units w c (x ∷ xs) = seasons_keep_units w (season_at w c x) xs ∙ season_at_keeps w c x

-- the season of all regions changes no unit
pub season_keeps_units : (w : WorldValue) (c : CampaignValue) (words : List ℕ) → (season w c words).units ≡ c.units
season_keeps_units w c words =
    seasons_keep_units w c (zip (map (λ (e : ℕ × RegionPlan). e.0) (entries w.regions)) words)

-- ---- the season region by region

-- Where the seasons of `regions` with `words` make campaign `all` of c, those of the other regions (`rest`) with the
-- other words (`tail`) make `all` of d. Campaign d is c after the season of the first region.
pub season_goes_on : (w : WorldValue) (c d all : CampaignValue) (regions rest : List (ℕ × RegionPlan)) (words tail : List ℕ) (n word : ℕ) (plan : RegionPlan)
    → regions ≡ (n, plan) ∷ rest → words ≡ word ∷ tail → d ≡ season_at w c (n, word)
    → fold (season_at w) c (zip (map (λ e. e.0) regions) words) ≡ all
    → fold (season_at w) d (zip (map (λ e. e.0) rest) tail) ≡ all
season_goes_on w c d all regions rest words tail n word plan listed given is whole = rw is (rw (listed, given) at whole)

-- If the books of the steady campaign c have room for the seasons of `regions`, those of d have room for the seasons of
-- the others (`rest`). Campaign d is c after the season of the first region.
pub room_for_later_seasons : (w : WorldValue) → IsWorld w
    → (c d : CampaignValue) (regions rest : List (ℕ × RegionPlan)) (n word : ℕ) (plan : RegionPlan)
    → regions ≡ (n, plan) ∷ rest → d ≡ season_at w c (n, word) → IsSteady w c
    → HaveRoom (moved_times (length regions) (season_moves most_amount)) c
    → HaveRoom (moved_times (length rest) (season_moves most_amount)) d
room_for_later_seasons w world c d regions rest n word plan listed is steady room =
    rw is (room_after_one (season_moves most_amount) w (season_at w) (season_at_leaves_well w world) c (n, word) (n, plan) rest steady (subst (λ (l : List (ℕ × RegionPlan)). HaveRoom (moved_times (length l) (season_moves most_amount)) c) listed room))

-- books with room for the seasons of some regions have room for that of the first one
pub room_for_first_season : (w : WorldValue) → IsWorld w
    → (c : CampaignValue) (regions rest : List (ℕ × RegionPlan)) (n : ℕ) (plan : RegionPlan)
    → regions ≡ (n, plan) ∷ rest → HaveRoom (moved_times (length regions) (season_moves most_amount)) c
    → HaveRoom (season_moves most_amount) c
room_for_first_season w world c regions rest n plan listed room =
    room_for_one (season_moves most_amount) w (season_at w) (season_at_leaves_well w world) c (n, plan) rest (subst (λ (l : List (ℕ × RegionPlan)). HaveRoom (moved_times (length l) (season_moves most_amount)) c) listed room)
