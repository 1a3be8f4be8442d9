use Rattle.std.proofs.Common.{◌≡◌, drop}
use Rattle.atl_campaign.specs.Owners.{first_other}
use Rattle.atl_campaign.proofs.campaign.placing.first_other.Given as goal

-- the first number other than `leaving` among the numbers left is the first such number among all
abbrev pub invariant-loop-number : goal.invariant-loop-number
invariant-loop-number l = first_other (drop l.number-index l.numbers) l.leaving ≡ first_other l.numbers l.leaving
