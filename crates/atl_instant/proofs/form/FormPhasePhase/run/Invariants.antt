use Rattle.std.proofs.Common.{◌≡◌, Some, drop}
use Rattle.std.specs.Prelude.{fold}
use Rattle.std.specs.FinMap.{get}
use Rattle.atl_campaign.specs.Covers.{MarksChanges}
use Rattle.atl_world.specs.Every.{Every}
use Rattle.atl_campaign.specs.Good.{IsEarly}
use Rattle.atl_phase.specs.Bounds.{StepsWell, nothing_remaining}
use Rattle.atl_instant.proofs.form.FormPhasePhase.run.Given as goal
use Rattle.atl_instant.specs.Forming.{form_by_copy}

-- Carrying out the copied orders still to come gives what carrying out all of them gives. The campaign so far is early
-- and in balance, each unit that was there and the readings are unchanged, and all changes are marked.
abbrev pub invariant-loop-order : goal.invariant-loop-order
invariant-loop-order l = record {
  orders : fold form_by_copy (l.campaign.value, l.month) (drop l.order-index l.order-items)
      ≡ fold form_by_copy (l.fn.campaign.value, l.fn.month) l.order-items;
  readings : l.month.readings ≡ l.fn.month.readings;
  well : StepsWell IsEarly nothing_remaining l._world l.fn.campaign.value l.campaign.value;
  stays : Every (λ n u. get l.campaign.value.units n ≡ Some u) l.fn.campaign.value.units;
  marks : MarksChanges l.fn.campaign l.campaign;
}
