use Rattle.atl_lines.specs.Orders.{name_in}
use Rattle.atl_phase.proofs.OrderEffectLaws.{result_of_effect}
use Rattle.atl_instant.specs.Name.{naming}
use Rattle.atl_instant.proofs.name.NamePhaseOrderPhase.carry_out.Goals as goal

pub returns-in_ok-give_name-in-Name-clause-step : goal.returns-in_ok-give_name-in-Name-clause-step
returns-in_ok-give_name-in-Name-clause-step c =
    let effect = naming c.args.world.now c.args.order.unit c.in-Name.kind (name_in c.args.order.mailing.now.text c.in-Name.span) in
    rw c.in-Name.is (result_of_effect effect _ _ _ _ _ c.in_ok-give_name-in-Name.ensures.value)
