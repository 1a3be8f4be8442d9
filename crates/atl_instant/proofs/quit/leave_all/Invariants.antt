use Rattle.std.proofs.Common.{◌≡◌, drop}
use Rattle.std.specs.Prelude.{fold}
use Rattle.atl_campaign.specs.Covers.{MarksChanges}
use Rattle.atl_campaign.specs.Good.{IsSteady}
use Rattle.atl_phase.specs.Bounds.{HaveRoom}
use Rattle.atl_instant.specs.Quit.{after_leaving, quit_remaining}
use Rattle.atl_instant.proofs.quit.leave_all.Given as goal

-- removing the units still to come gives what removing all of them gives; the campaign so far is steady, its books have
-- room for all that may still be booked, and all changes are marked
abbrev pub invariant-loop-number : goal.invariant-loop-number
invariant-loop-number l = record {
  rest : fold after_leaving l.campaign.value (drop l.number-index l.numbers)
      ≡ fold after_leaving l.initial.campaign.value l.numbers;
  steady : IsSteady l.world l.campaign.value;
  room : HaveRoom (quit_remaining l.campaign.value) l.campaign.value;
  marks : MarksChanges l.initial.campaign l.campaign;
}
