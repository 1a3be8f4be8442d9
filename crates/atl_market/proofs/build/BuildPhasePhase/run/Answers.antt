use Rattle.atl_market.proofs.BuildLaws.{leaves_steady}
use Rattle.atl_market.proofs.build.BuildPhasePhase.run.Goals as goal

pub carry_out_orders-requires-clause-holds :
    goal.carry_out_orders-requires-clause-holds
carry_out_orders-requires-clause-holds c =
    record { steady = c.requires.needs; kinds = c.kinds-kinds.ensures.world.kinds }

pub returns-clause-leaves : goal.returns-clause-leaves
returns-clause-leaves c =
    leaves_steady c.args.world.now c.args.campaign.value c.carry_out_orders.new.campaign.value
    c.in_ok-carry_out_orders.ensures.leaves
