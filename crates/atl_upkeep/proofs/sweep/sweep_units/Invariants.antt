use Rattle.std.proofs.Common.{◌≡◌, length, drop}
use Rattle.std.specs.Prelude.{fold}
use Rattle.atl_world.specs.Limits.{most_amount}
use Rattle.atl_campaign.specs.Covers.{MarksChanges}
use Rattle.atl_campaign.specs.Good.{IsSteady}
use Rattle.atl_phase.specs.Bounds.{HaveRoom, moved_times}
use Rattle.atl_upkeep.specs.Receivers.{AreReceivers}
use Rattle.atl_upkeep.specs.Sweep.{after_sweeping_unit, loses_by}
use Rattle.atl_upkeep.proofs.sweep.sweep_units.Given as goal

-- before each unit: sweeping those still to come makes what sweeping all makes; the campaign is steady, the map has its
-- receivers, its books have room, and all changes are marked
abbrev pub invariant-loop-number : goal.invariant-loop-number
invariant-loop-number l = record {
  rest : fold after_sweeping_unit l.campaign.value (drop l.number-index l.numbers)
      ≡ fold after_sweeping_unit l.initial.campaign.value l.numbers;
  steady : IsSteady l.world l.campaign.value;
  receivers : AreReceivers l.campaign.value l.receivers;
  room : HaveRoom (moved_times (length (drop l.number-index l.numbers)) (loses_by most_amount)) l.campaign.value;
  marks : MarksChanges l.initial.campaign l.campaign;
}
