use Rattle.std.proofs.Common.{◌≡◌, map, subst, sym, rules}
use Rattle.atl_campaign.specs.Good.{IsSteady}
use Rattle.atl_phase.specs.Meaning.{LeavesWell, most_moved}
use Rattle.atl_phase.specs.PhaseOrders.{orders_by_unit, task_of}
use Rattle.atl_market.specs.Produce.{is_produce, produce_moves}
use Rattle.atl_market.specs.Unordered.{OthersAreNoWorse}
use Rattle.atl_market.proofs.ProduceLaws.{can_share_out, produce_keeps_others, produce_leaves_well}
use Rattle.atl_market.proofs.produce.ProducePhasePhase.run.Goals as goal

pub share_out-requires-clause-asks : goal.share_out-requires-clause-asks
share_out-requires-clause-asks c = λ k d l. tt

pub share_out-requires-clause-can : goal.share_out-requires-clause-can
share_out-requires-clause-can c =
    can_share_out c.args.world.now c.args.campaign.value c.world_is_well_formed.ensures c.requires.needs
    (map task_of c.deref.result.now) c.requires.room

pub returns-clause-leaves : goal.returns-clause-leaves
returns-clause-leaves c =
    subst (λ d. LeavesWell IsSteady (produce_moves most_moved) c.args.world.now c.args.campaign.value d) (sym c.in_ok-events.ensures.what)
    (produce_leaves_well c.args.world.now c.args.campaign.value c.world_is_well_formed.ensures c.requires.needs (map task_of c.deref.result.now) c.requires.room)

pub returns-clause-keeps : goal.returns-clause-keeps
returns-clause-keeps c =
    let orders : map task_of c.deref.result.now ≡ orders_by_unit is_produce c.args.month = search rules in
    let kept = produce_keeps_others c.args.world.now c.args.campaign.value (map task_of c.deref.result.now) in
    subst (λ os. OthersAreNoWorse os c.args.campaign.value c.share_out.new.campaign.value) orders (subst (λ d. OthersAreNoWorse (map task_of c.deref.result.now) c.args.campaign.value d) (sym c.in_ok-events.ensures.what) kept)
