use Rattle.std.proofs.Common.{◌≡◌, ◌++◌, not}
use Rattle.atl_world.specs.Sums.{numbers_among}
use Rattle.atl_campaign.specs.Campaign.{active}
use Rattle.atl_campaign.proofs.campaign.Campaign.active.Given as goal

-- the numbers so far, and those of the factions left that aren't gone, are those of all factions that aren't gone
abbrev pub invariant-loop-number : goal.invariant-loop-number
invariant-loop-number l = l.numbers.items ++ numbers_among (λ f. not f.gone) l.number-iterator ≡ active l.self.value
