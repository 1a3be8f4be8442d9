use Rattle.std.proofs.Common.{◌≤◌, ◌*◌, ℕ, rules}
use borrow.Author.Tests.{tests}
use Rattle.atl_world.specs.Every.{Every}
use Rattle.atl_records.specs.Limits.{most_days}
use Rattle.atl_records.specs.declared.records.Unit.{Unit}
use Rattle.atl_campaign.proofs.RuleLaws.{every_by_all}
use Rattle.atl_state.proofs.rules.days.are_days.Goals as goal

abbrev HasDays : ℕ → Unit → Type 0
HasDays n u = Every (λ s days. (1 ≤ days) × (days ≤ most_days * u.holding.men)) u.holding.days

pub returns : goal.returns
returns c =
    every_by_all HasDays _ _ _ c.all.ensures.ran c.args.campaign.now.value.units (search rules)
    (λ x q k. search (rules, tests)) (λ x q k. search (rules, tests))
