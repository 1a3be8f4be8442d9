-- The table `[rules]` of the world file: its keys in order, with their ranges, and the rules that they give.
-- See docs/FORMATS.md, "The world file". A key with a fault gives a default value (`one_key`).
-- `doc` has the members of the whole document, and `all` has all its tables as read.
use Rattle.std.specs.Prelude.{[], ◌∷◌, codes, option_and_then}
use Rattle.toml.specs.Data.{Members, no_members}
use Rattle.atl_tables.specs.Faults.{Conditions, fault_of, value_or}
use Rattle.atl_tables.specs.KeyByKey.{TableReader, conditions_of, value_of, ◌>>=◌, value_only, as_one_condition, number_key, optional_text_key}
use Rattle.atl_tables.specs.Keys.{path, table_at}
use Rattle.atl_world.specs.Limits.{most_amount, most_per_head, most_price, most_fraction, most_growth, most_weight}
use Rattle.atl_tables.specs.Titles.{optional_name_is_known, skill_number}
use Rattle.atl_tables.specs.declared.rules_table.MenRules.{MenRules}
use Rattle.atl_tables.specs.declared.rules_table.PeasantRules.{PeasantRules}
use Rattle.atl_tables.specs.declared.rules_table.Prices.{Prices}
use Rattle.atl_tables.specs.declared.rules_table.RulesDraft.{RulesDraft}
use Rattle.atl_tables.specs.declared.rules_table.SkillNames.{SkillNames}
use Rattle.atl_tables.specs.declared.world_draft.WorldDraft.{WorldDraft}
use Rattle.atl_world.specs.declared.world.Rules.{Rules}

-- reads the keys of the table `[rules]` for maintenance, tax per man, and the price of a recruit
unfoldable pub prices_at : TableReader Prices
prices_at = do
  maintenance ← number_key 1 most_per_head (codes "maintenance")
  tax_per_man ← number_key 0 most_per_head (codes "tax_per_man")
  recruit_price ← number_key 1 most_price (codes "recruit_price")
  value_only (record { maintenance = maintenance; tax_per_man = tax_per_man; recruit_price = recruit_price })

-- reads the keys of the table `[rules]` for recruits, births and income of peasants
unfoldable pub peasant_rules_at : TableReader PeasantRules
peasant_rules_at = do
  recruit_fraction ← number_key 1 most_fraction (codes "recruit_fraction")
  growth ← number_key 0 most_growth (codes "growth")
  income ← number_key 0 most_per_head (codes "income")
  value_only (record { recruit_fraction = recruit_fraction; growth = growth; income = income })

-- reads the keys of the table `[rules]` for the money of a new faction, and for what men weigh and carry
unfoldable pub men_rules_at : TableReader MenRules
men_rules_at = do
  start_money ← number_key 0 most_amount (codes "start_money")
  man_weight ← number_key 0 most_weight (codes "man_weight")
  man_carry ← number_key 0 most_weight (codes "man_carry")
  value_only (record { start_money = start_money; man_weight = man_weight; man_carry = man_carry })

-- reads the keys of the table `[rules]` that name the skills of observation, stealth and sailing; a missing one is None
unfoldable pub skill_names_at : TableReader SkillNames
skill_names_at = do
  observation ← optional_text_key (codes "observation")
  stealth ← optional_text_key (codes "stealth")
  sailing ← optional_text_key (codes "sailing")
  value_only (record { observation = observation; stealth = stealth; sailing = sailing })

-- reads all keys of the table `[rules]`, in order: on prices, peasants, men and skills, each of these as one condition
unfoldable pub rules_at : TableReader RulesDraft
rules_at = do
  prices ← as_one_condition prices_at
  peasants ← as_one_condition peasant_rules_at
  men ← as_one_condition men_rules_at
  skills ← as_one_condition skill_names_at
  value_only (record { prices = prices; peasants = peasants; men = men; skills = skills })

-- the table `[rules]` of the document, empty if it is missing or no table
abbrev pub rules_table : Members → Members
rules_table doc = value_or no_members (table_at (codes "rules") doc)

-- the conditions on the table `[rules]`: the document has it, it is a table, and its keys have no fault
unfoldable pub rules_conditions : Members → Conditions
rules_conditions doc = fault_of (table_at (codes "rules") doc) ∷ conditions_of rules_at (codes "rules") (rules_table doc)

-- the rules that the table `[rules]` of the document gives, with skills by name
unfoldable pub rules_in : Members → RulesDraft
rules_in doc = value_of rules_at (codes "rules") (rules_table doc)

-- the conditions that `observation`, `stealth`, `sailing`, if there, name skills, ignoring ASCII case; else UnknownName
unfoldable pub rules_known : WorldDraft → Conditions
rules_known all =
    optional_name_is_known (path (codes "rules") (codes "observation")) (skill_number all) all.rules.skills.observation
    ∷ optional_name_is_known (path (codes "rules") (codes "stealth")) (skill_number all) all.rules.skills.stealth
    ∷ optional_name_is_known (path (codes "rules") (codes "sailing")) (skill_number all) all.rules.skills.sailing
    ∷ []

-- the rules that the table `[rules]` describes, with skills by number, None for a missing or an unknown name
unfoldable pub rules_of : WorldDraft → Rules
rules_of all = let r = all.rules in record {
  maintenance = r.prices.maintenance;
  tax_per_man = r.prices.tax_per_man;
  recruit_price = r.prices.recruit_price;
  recruit_fraction = r.peasants.recruit_fraction;
  growth = r.peasants.growth;
  income = r.peasants.income;
  start_money = r.men.start_money;
  man_weight = r.men.man_weight;
  man_carry = r.men.man_carry;
  observation = option_and_then (skill_number all) r.skills.observation;
  stealth = option_and_then (skill_number all) r.skills.stealth;
  sailing = option_and_then (skill_number all) r.skills.sailing;
}
