use Rattle.std.proofs.Common.{sym}
use Rattle.atl_phase.specs.PhaseOrders.{task_of}
use Rattle.atl_market.proofs.WantLaws.{carries_out}
use Rattle.atl_market.proofs.pot_phase.note_order.Goals as goal

pub want-requires-clause-faultless : goal.want-requires-clause-faultless
want-requires-clause-faultless g c =
    (carries_out (g.P.PotPhase.meaning c.args.phase.now) c.args.world.now c.args.campaign.now.value (task_of c.args.order) c.in-Ok.unit.now (sym c.in-Ok.ensures)).no_fault
