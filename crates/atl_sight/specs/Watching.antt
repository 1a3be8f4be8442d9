-- Which regions a faction sees, and which units there. Where the world names no skill of stealth or of observation, all
-- levels in it are 0. See docs/RULES.md, "Sight".
use Rattle.std.specs.Prelude.{◌==◌, ◌&&◌, ◌||◌, ℕ, Bool, false, nat_lt, nat_le, max, List, [], ◌∷◌, map, filter, if◌then◌else◌, Option}
use Rattle.std.specs.List.{list_any}
use Rattle.std.specs.Option.{option_map_or}
use Rattle.std.specs.FinMap.{get}
use Rattle.atl_world.specs.Worlds.{WorldValue}
use Rattle.atl_records.specs.declared.records.Unit.{Unit}
use Rattle.atl_campaign.specs.Good.{guards}
use Rattle.atl_records.specs.Levels.{level_in_any}
use Rattle.atl_campaign.specs.Campaign.{CampaignValue, numbers_in_region, numbers_of_faction}
use Rattle.atl_sight.specs.declared.watch.Watch.{Watch}

-- whether a unit exists, is the given faction's, and has men, so that the faction sees its region
abbrev pub is_watching : ℕ → Option Unit → Bool
is_watching faction unit = option_map_or (λ u. u.faction == faction && nat_lt 0 u.holding.men) unit false

-- `sees_region c faction region`: whether a faction sees a region, since it has a unit with men there
abbrev pub sees_region : CampaignValue → ℕ → ℕ → Bool
sees_region c faction region = list_any (λ n. is_watching faction (get c.units n)) (numbers_in_region region c.units)

-- whether a unit exists, and is in the given region
abbrev pub is_in : ℕ → Option Unit → Bool
is_in region unit = option_map_or (λ u. u.region == region) unit false

-- `own_units_in c faction region`: the numbers of a faction's units in a region, with men or not, in ascending order
abbrev pub own_units_in : CampaignValue → ℕ → ℕ → List ℕ
own_units_in c faction region = filter (λ n. is_in region (get c.units n)) (numbers_of_faction faction c.units)

-- the level of observation of a unit; 0 without a unit
abbrev pub observation_of : WorldValue → Option Unit → ℕ
observation_of w unit = option_map_or (λ u. level_in_any u.holding w.rules.observation) unit 0

-- the greatest number of a list, 0 of an empty one
abbrev pub greatest : List ℕ → ℕ
greatest [] = 0
greatest (n ∷ ns) = max n (greatest ns)

-- the best level of observation of the units with the given numbers, 0 of none
abbrev pub best_observation : WorldValue → CampaignValue → List ℕ → ℕ
best_observation w c numbers = greatest (map (λ n. observation_of w (get c.units n)) numbers)

-- `watch_over w c faction region`: a faction's watch in a region, with the best observation level of its units there, 0
-- if it has none
abbrev pub watch_over : WorldValue → CampaignValue → ℕ → ℕ → Watch
watch_over w c faction region = record {
  faction = faction;
  region = region;
  observation = best_observation w c (own_units_in c faction region);
}

-- the level of observation from which other factions see a unit: 0 if it guards, else its level of stealth
abbrev pub hiding_level : WorldValue → Unit → ℕ
hiding_level w u = if guards u then 0 else level_in_any u.holding w.rules.stealth

-- whether a unit, if it is in the watched region, is seen: it is the watching faction's own, it guards, or its stealth
-- level is at most the faction's best observation level there
abbrev pub is_seen : WorldValue → Watch → Unit → Bool
is_seen w watch u = u.faction == watch.faction || (guards u || nat_le (level_in_any u.holding w.rules.stealth) watch.observation)

-- whether a unit exists, is in the watched region, and is seen
abbrev pub is_seen_there : WorldValue → Watch → Option Unit → Bool
is_seen_there w watch unit = option_map_or (λ u. u.region == watch.region && is_seen w watch u) unit false
