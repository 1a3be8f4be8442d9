use Rattle.std.proofs.Common.{◌≡◌, drop}
use Rattle.std.specs.Prelude.{fold}
use Rattle.atl_campaign.specs.Covers.{MarksChanges}
use Rattle.atl_action.specs.Walk.{with_unit_moved}
use Rattle.atl_action.proofs.sail.move_ship.Given as goal

-- taking along the units still to come makes what taking all along makes, and all that changed so far is marked
abbrev pub invariant-loop-unit : goal.invariant-loop-unit
invariant-loop-unit l = record {
  rest : fold (with_unit_moved l.ship l.to) l.campaign.value (drop l.unit-index l.unit-items)
      ≡ fold (with_unit_moved l.ship l.to) l.fn.campaign.value l.unit-items;
  marks : MarksChanges l.fn.campaign l.campaign;
}
