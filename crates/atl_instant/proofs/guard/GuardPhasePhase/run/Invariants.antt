use Rattle.std.proofs.Common.{◌≡◌, [], drop}
use Rattle.std.specs.Prelude.{fold}
use Rattle.atl_campaign.specs.Covers.{MarksChanges}
use Rattle.atl_campaign.specs.Good.{IsSteady}
use Rattle.atl_phase.specs.Month.{with_events}
use Rattle.atl_phase.specs.PhaseOrders.{task_of}
use Rattle.atl_phase.specs.OrderEffects.{one_order}
use Rattle.atl_phase.specs.Bounds.{StepsWell, nothing_remaining}
use Rattle.atl_instant.specs.Guard.{guard_step}
use Rattle.atl_instant.specs.RegionGuards.{AreRegionGuards}
use Rattle.atl_instant.proofs.guard.GuardPhasePhase.run.Given as goal

-- Carrying out the orders still to come gives what carrying out all of them gives. The campaign so far is steady and in
-- balance, the map has the factions that guard in it, and all changes are marked.
abbrev pub invariant-loop-order : goal.invariant-loop-order
invariant-loop-order l = record {
  orders : fold (λ p o. one_order guard_step l._world p (task_of o)) (l.campaign.value, with_events l.fn.month l.events.items) (drop l.order-index l.order-items)
      ≡ fold (λ p o. one_order guard_step l._world p (task_of o)) (l.fn.campaign.value, with_events l.fn.month []) l.order-items;
  well : StepsWell IsSteady nothing_remaining l._world l.fn.campaign.value l.campaign.value;
  held : AreRegionGuards l.campaign.value l.holders;
  marks : MarksChanges l.fn.campaign l.campaign;
}
