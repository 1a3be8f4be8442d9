use Rattle.std.proofs.Common.{◌≡◌, drop}
use Rattle.std.specs.Prelude.{fold}
use Rattle.atl_world.specs.Worlds.{WorldValue}
use Rattle.atl_campaign.specs.Covers.{MarksChanges}
use Rattle.atl_phase.specs.Bounds.{CanInTurn}
use Rattle.atl_upkeep.specs.UpkeepTaken.{CanPayUpkeep}
use Rattle.atl_upkeep.specs.Upkeep.{upkeep, upkeep_at}
use Rattle.atl_upkeep.proofs.upkeep.charge_all.Given as goal

-- Before each result: the upkeep of the units still to come makes the campaign that the upkeep of all makes, each of
-- these units can pay in turn, and all changes are marked.
abbrev pub invariant-loop-upkeep_result : goal.invariant-loop-upkeep_result
invariant-loop-upkeep_result l = record {
  rest : fold upkeep_at l.campaign.value (drop l.upkeep_result-index l.list) ≡ upkeep l.initial.campaign.value l.list;
  can : (w : WorldValue) × CanInTurn (CanPayUpkeep w) upkeep_at l.campaign.value (drop l.upkeep_result-index l.list);
  marks : MarksChanges l.initial.campaign l.campaign;
}
