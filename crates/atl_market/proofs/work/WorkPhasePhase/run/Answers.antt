use Rattle.std.proofs.Common.{map, subst, sym}
use Rattle.atl_campaign.specs.Good.{IsSteady}
use Rattle.atl_phase.specs.PhaseOrders.{task_of}
use Rattle.atl_phase.specs.Meaning.{LeavesWell, most_moved}
use Rattle.atl_phase.specs.NoWorse.{AreNoWorse}
use Rattle.atl_market.specs.Work.{work_moves}
use Rattle.atl_market.proofs.WorkLaws.{can_share_out, work_keeps_units, work_leaves_well}
use Rattle.atl_market.proofs.work.WorkPhasePhase.run.Goals as goal

pub share_out-requires : goal.share_out-requires
share_out-requires c =
    record { needs = c.requires.needs; asks = λ k d l. tt; can = can_share_out c.args.world.now c.args.campaign.value c.requires.needs (map task_of c.deref.result.now) c.requires.room }

pub returns-clause-leaves : goal.returns-clause-leaves
returns-clause-leaves c =
    subst (λ d. LeavesWell IsSteady (work_moves most_moved) c.args.world.now c.args.campaign.value d) (sym c.in_ok-events.ensures.what)
    (work_leaves_well c.args.world.now c.args.campaign.value c.requires.needs (map task_of c.deref.result.now) c.requires.room)

pub returns-clause-keeps : goal.returns-clause-keeps
returns-clause-keeps c =
    subst (λ d. AreNoWorse c.args.campaign.value d) (sym c.in_ok-events.ensures.what)
    (work_keeps_units c.args.world.now c.args.campaign.value (map task_of c.deref.result.now))
