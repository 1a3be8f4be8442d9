use Rattle.std.proofs.Common.{◌≡◌, drop}
use Rattle.std.specs.Prelude.{fold}
use Rattle.atl_campaign.specs.Covers.{MarksChanges}
use Rattle.atl_upkeep.specs.Sweep.{after_sweeping_faction}
use Rattle.atl_upkeep.proofs.sweep.sweep_factions.Given as goal

-- before each faction: sweeping those still to come makes what sweeping all makes, and all changes are marked
abbrev pub invariant-loop-number : goal.invariant-loop-number
invariant-loop-number l = record {
  rest : fold after_sweeping_faction l.campaign.value (drop l.number-index l.numbers)
      ≡ fold after_sweeping_faction l.initial.campaign.value l.numbers;
  marks : MarksChanges l.initial.campaign l.campaign;
}
