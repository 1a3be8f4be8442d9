use Rattle.std.proofs.Common.{[]}
use Rattle.atl_tables.specs.RulesTable.{rules_known}
use Rattle.atl_tables.proofs.FaultLaws.{gives_error, error_of_condition_is_of_list}
use Rattle.atl_tables.proofs.rules_table.resolve_rules.Goals as goal

pub returns-in_err-sailing-clause-value : goal.returns-in_err-sailing-clause-value
unfolding rules_known
returns-in_err-sailing-clause-value c =
    let first = rw c.as_slice-known.ensures at c.in_ok-observation.ensures.value.0 in
    let second = rw c.as_slice-known.ensures at c.in_ok-stealth.ensures.value.0 in
    rw (first, second) (gives_error _ _ _ _ _ c.from_residual-in_err-sailing.ensures.1 (error_of_condition_is_of_list c.in_err-sailing.field-0.0 _ [] (rw c.as_slice-known.ensures at c.in_err-sailing.ensures.value)))

pub returns-clause-sound : goal.returns-clause-sound
returns-clause-sound c = record {
  maintenance_least = c.requires.rules.prices.maintenance_least;
  maintenance = c.requires.rules.prices.maintenance;
  tax_per_man = c.requires.rules.prices.tax_per_man;
  recruit_price_least = c.requires.rules.prices.recruit_price_least;
  recruit_price = c.requires.rules.prices.recruit_price;
  recruit_fraction_least = c.requires.rules.peasants.recruit_fraction_least;
  recruit_fraction = c.requires.rules.peasants.recruit_fraction;
  growth = c.requires.rules.peasants.growth;
  income = c.requires.rules.peasants.income;
  start_money = c.requires.rules.men.start_money;
  man_weight = c.requires.rules.men.man_weight;
  man_carry = c.requires.rules.men.man_carry;
  observation = rw c.as_slice-known.ensures at c.in_ok-observation.ensures.below;
  stealth = rw c.as_slice-known.ensures at c.in_ok-stealth.ensures.below;
  sailing = rw c.as_slice-known.ensures at c.in_ok-sailing.ensures.below;
}
