use Rattle.std.proofs.Common.{◌≡◌, All, map, subst, sym, true, rules}
use Rattle.atl_campaign.specs.Good.{IsEarly}
use Rattle.atl_phase.specs.Meaning.{LeavesWell, most_moved}
use Rattle.atl_phase.specs.PhaseOrders.{orders_by_unit, task_of}
use Rattle.atl_phase.specs.declared.phase_order.Arrangement.TheVariants.{ByUnit}
use Rattle.atl_phase.proofs.OrderEffectLaws.{each_order}
use Rattle.atl_market.specs.PotPhase.{asks_count}
use Rattle.atl_market.specs.Recruit.{is_recruit, recruit_moves}
use Rattle.atl_market.specs.Unordered.{OthersAreNoWorse}
use Rattle.atl_market.proofs.AskLaws.{recruit_asks}
use Rattle.atl_market.proofs.RecruitLaws.{all_recruits_leave_well, can_share_out, recruit_keeps_others}
use Rattle.atl_market.proofs.recruit.RecruitPhasePhase.run.Goals as goal

pub share_out-requires-clause-asks : goal.share_out-requires-clause-asks
share_out-requires-clause-asks c =
    let m = c.args.month in
    let orders : map task_of c.deref.result.now ≡ orders_by_unit is_recruit m = search rules in
    subst (All (λ t. asks_count t.order_value.operands ≡ true)) (sym orders)
    (each_order c.args.world.now m.aliases m.readings c.requires.read is_recruit ByUnit (λ t. asks_count t.order_value.operands ≡ true) (λ t of_phase fit. recruit_asks t.order_value.verb t.order_value.operands of_phase fit.shape))

pub share_out-requires-clause-can : goal.share_out-requires-clause-can
share_out-requires-clause-can c =
    can_share_out c.args.world.now c.args.campaign.value c.requires.needs (map task_of c.deref.result.now)
    c.requires.room

pub returns-clause-leaves : goal.returns-clause-leaves
returns-clause-leaves c =
    subst (λ d. LeavesWell IsEarly (recruit_moves most_moved) c.args.world.now c.args.campaign.value d) (sym c.in_ok-events.ensures.what)
    (all_recruits_leave_well c.args.world.now c.args.campaign.value c.requires.needs (map task_of c.deref.result.now) c.requires.room)

pub returns-clause-keeps : goal.returns-clause-keeps
returns-clause-keeps c =
    let orders : map task_of c.deref.result.now ≡ orders_by_unit is_recruit c.args.month = search rules in
    let kept = recruit_keeps_others c.args.world.now c.args.campaign.value (map task_of c.deref.result.now) in
    subst (λ os. OthersAreNoWorse os c.args.campaign.value c.share_out.new.campaign.value) orders (subst (λ d. OthersAreNoWorse (map task_of c.deref.result.now) c.args.campaign.value d) (sym c.in_ok-events.ensures.what) kept)
