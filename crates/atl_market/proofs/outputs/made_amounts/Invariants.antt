use Rattle.std.proofs.Common.{◌≡◌, map}
use Rattle.std.specs.FinMap.{empty, entries}
use Rattle.atl_pots.specs.Puts.{with_entries}
use Rattle.atl_market.specs.Produce.{amount_made}
use Rattle.atl_market.proofs.outputs.made_amounts.Given as goal

-- putting what the units still to come make into the map so far gives the map of what all units make
abbrev pub invariant-loop-unit : goal.invariant-loop-unit
invariant-loop-unit l =
    with_entries l.made (map (λ e. (e.0, amount_made l.world l.asked l.campaign.value l.wants e)) l.unit-iterator)
    ≡ with_entries empty (map (λ e. (e.0, amount_made l.world l.asked l.campaign.value l.wants e)) (entries l.wants))
