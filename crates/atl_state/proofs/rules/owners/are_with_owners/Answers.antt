use Rattle.std.proofs.Common.{◌≡◌, ◌≢◌, ℕ, Some, rules}
use borrow.Author.Tests.{tests}
use Rattle.std.specs.Ordering.{nat_cmp}
use Rattle.std.specs.FinMap.{FinMap, get}
use Rattle.atl_records.specs.declared.records.Structure.{Structure}
use Rattle.atl_records.specs.declared.records.Unit.{Unit}
use Rattle.atl_campaign.proofs.RuleLaws.{every_by_all}
use Rattle.atl_state.proofs.rules.owners.are_with_owners.Goals as goal

abbrev IsWithOwner : FinMap nat_cmp Structure → ℕ → Unit → Type 0
IsWithOwner structures m u = (s : Structure) → get structures u.structure ≡ Some s → s.owner ≢ 0

pub returns : goal.returns
returns c =
    every_by_all (IsWithOwner c.args.campaign.now.value.structures) _ _ _ c.all.ensures.ran
    c.args.campaign.now.value.units (search rules) (λ x q k. search (rules, tests)) (λ x q k. search (rules, tests))
