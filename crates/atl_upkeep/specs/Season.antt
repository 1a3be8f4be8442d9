-- The season of a month: births and income of each region, and new goods of its markets. See docs/RULES.md, "Season".
use Rattle.std.specs.Prelude.{◌≡◌, ℕ, pos, ◌+◌, ◌-◌, ◌*◌, ◌/◌, ◌%◌, min, List, [], ◌∷◌, map, fold, zip}
use Rattle.std.specs.FinMap.{entries}
use Rattle.std.specs.Option.{option_map_or}
use Rattle.atl_world.specs.Worlds.{WorldValue}
use Rattle.atl_world.specs.declared.world.Terrain.{Terrain}
use Rattle.atl_world.specs.ByNumber.{terrain_of}
use Rattle.atl_records.specs.declared.books.BooksEntry.TheVariants.{Births, Income, Stocked}
use Rattle.atl_records.specs.declared.books.Thing.TheVariants.{Money, People}
use Rattle.atl_records.specs.declared.records.Region.{Region}
use Rattle.atl_campaign.specs.Campaign.{CampaignValue, with_booking, with_peasants, with_region_money}
use Rattle.atl_phase.specs.Month.{MonthValue}
use Rattle.atl_phase.specs.Meaning.{BookBound, Frame, both_move, most_moved, moves_only}
use Rattle.atl_upkeep.specs.Limits.{per_hundred}
use Rattle.atl_phase.specs.PhaseSpecs.{PhaseSpec}
use Rattle.atl_phase.specs.There.{at_region}
use Rattle.atl_upkeep.specs.Restock.{after_restock, markets_of, stocks_by}

-- How many peasants are born: `word % (growth + 1)` percent of `peasants`, rounded down, at most what these are short
-- of `limit`. `growth` is the most percent, `word` the word of the dice, and `%` gives the remainder.
abbrev pub births : (growth limit word peasants : ℕ) → ℕ
births growth limit word peasants = min (peasants * (word % (growth + 1)) / per_hundred) (limit - peasants)

-- How much money a region gets: `per_peasant` for each of its peasants, at most what its `money` is short of `limit`.
abbrev pub income : (per_peasant limit peasants money : ℕ) → ℕ
income per_peasant limit peasants money = min (peasants * per_peasant) (limit - money)

-- A campaign in which region `n`, which had `peasants` and `money`, got `born` peasants and `earned` money. Both are
-- booked, even where the campaign has no region `n`.
abbrev pub with_growth : CampaignValue → ℕ → (peasants money born earned : ℕ) → CampaignValue
with_growth c n peasants money born earned =
    let grown = with_region_money (with_peasants c n (peasants + born)) n (money + earned) in
    with_booking (with_booking grown Births People (pos born)) Income Money (pos earned)

-- A campaign after the season of region `n` with its `word` of the dice; it has terrain `t` and is `r` before. First
-- come births, then income, also of those just born, then new goods of its markets.
abbrev pub season_of : WorldValue → CampaignValue → (n word : ℕ) → Terrain → Region → CampaignValue
season_of w c n word t r =
    let born = births w.rules.growth t.peasant_limit word r.peasants in
    let earned = income w.rules.income t.money_limit (r.peasants + born) r.money in
    after_restock n (with_growth c n r.peasants r.money born earned) (entries (markets_of w n))

-- A campaign after the season (births, income, new goods) of the region with this number, with its word of the dice;
-- unchanged where the region or its terrain isn't there.
unfoldable pub season_at : WorldValue → CampaignValue → ℕ × ℕ → CampaignValue
season_at w c (n, word) =
    option_map_or (λ t. at_region c n (season_of w c n word t)) (terrain_of w n) c

-- A campaign after the season of all regions of the world, in the order of their numbers, each with its word of the
-- dice; a region for which the list has no word has no season.
abbrev pub season : WorldValue → CampaignValue → List ℕ → CampaignValue
season w c words = fold (season_at w) c (zip (map (λ e. e.0) (entries w.regions)) words)

-- the meaning of the season as a phase: the campaign after it, and the month as it was, without an event
abbrev pub season_meaning : WorldValue → CampaignValue → MonthValue → CampaignValue × MonthValue
season_meaning w c m = (season w c m.words, m)

-- the bound on what births and income book: Income of money and Births of people by at most `most` each, nothing else
abbrev pub grows_by : ℕ → BookBound
grows_by most = both_move (moves_only most Income Money) (moves_only most Births People)

-- the bound on what the season books: births, income, and Stocked of each item, each by at most `most`, nothing else
abbrev pub season_moves : ℕ → BookBound
season_moves most = both_move (grows_by most) (stocks_by most)

-- what the season leaves alone: all units are as they were
abbrev pub season_keeps : Frame
season_keeps w m before after = after.units ≡ before.units

-- the specification of the season: it books Income, Births and Stocked, each by less than 10^14, and changes no unit
abbrev pub season_spec : PhaseSpec
season_spec = record {
  meaning = season_meaning;
  book_bound = season_moves most_moved;
  moved = record { money = Income ∷ []; people = Births ∷ []; items = Stocked ∷ [] };
  keeps = season_keeps;
}
