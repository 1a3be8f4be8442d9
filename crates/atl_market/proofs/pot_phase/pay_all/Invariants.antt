use Rattle.std.proofs.Common.{◌≡◌}
use Rattle.std.specs.Prelude.{fold}
use Rattle.std.specs.FinMap.{entries}
use Rattle.atl_campaign.specs.Covers.{MarksChanges}
use Rattle.atl_market.specs.PotPhase.{PotMeaning}
use Rattle.atl_phase.specs.Bounds.{CanInTurn}
use Rattle.atl_market.proofs.pot_phase.pay_all.Given as goal

-- the shares still to come can be paid in turn, and paying them gives the campaign that paying all shares gives; all
-- changes so far are marked
abbrev pub invariant-loop-unit : goal.invariant-loop-unit
invariant-loop-unit g l = record {
  can : CanInTurn (g.P.PotPhase.can_pay l.phase l.items l.world) (PotMeaning.paid (g.P.PotPhase.meaning l.phase) l.items l.world) l.campaign.value l.unit-iterator;
  what : fold (PotMeaning.paid (g.P.PotPhase.meaning l.phase) l.items l.world) l.campaign.value l.unit-iterator
      ≡ fold (PotMeaning.paid (g.P.PotPhase.meaning l.phase) l.items l.world) l.fn.campaign.value (entries l.given);
  marks : MarksChanges l.fn.campaign l.campaign;
}
