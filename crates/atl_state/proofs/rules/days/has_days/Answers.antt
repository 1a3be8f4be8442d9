use Rattle.std.proofs.Common.{◌≤◌, ◌*◌, ℕ, rules}
use borrow.Author.Tests.{tests}
use Rattle.atl_records.specs.Limits.{most_days}
use Rattle.atl_campaign.proofs.RuleLaws.{every_by_all}
use Rattle.atl_state.proofs.rules.days.has_days.Goals as goal

abbrev AreDaysInRange : ℕ → ℕ → Type 0
AreDaysInRange men days = (1 ≤ days) × (days ≤ most_days * men)

pub returns : goal.returns
returns c =
    every_by_all (λ _ days. AreDaysInRange c.args.holding.now.men days) _ _ _ c.all.ensures.ran c.args.holding.now.days
    (search rules) (λ x q k. search (rules, tests)) (λ x q k. search (rules, tests))
