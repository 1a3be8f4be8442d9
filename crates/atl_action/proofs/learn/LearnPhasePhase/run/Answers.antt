use Rattle.std.proofs.Common.{ap, subst, sym, ◌∙◌}
use Rattle.std.specs.Ordering.{nat_cmp}
use Rattle.std.specs.FinMap.{FinMap, get}
use Rattle.atl_orders.specs.Mailing.{Reading}
use Rattle.atl_phase.specs.Month.{Aliases}
use Rattle.atl_phase.specs.PhaseOrders.{orders_of}
use Rattle.atl_phase.specs.OrderEffects.{AreUnaffected, IsOwnOrder}
use Rattle.atl_phase.specs.declared.phase_order.Arrangement.TheVariants.{ByUnit}
use Rattle.atl_phase.specs.NoWorse.{IsUnchanged}
use Rattle.atl_teaching.specs.Learners.{is_studying}
use Rattle.atl_action.proofs.learn.LearnPhasePhase.run.Goals as goal

pub teach_all-requires : goal.teach_all-requires
teach_all-requires c = (c.args.world.now, c.requires.read)

pub carry_out_orders-requires-clause-read : goal.carry_out_orders-requires-clause-read
carry_out_orders-requires-clause-read c =
    λ f r is. c.requires.read f r (ap (λ m. get m f) (sym c.in_ok-taught.ensures.readings) ∙ is)

pub returns-clause-keeps : goal.returns-clause-keeps
returns-clause-keeps c =
    let before = c.args.campaign.value in
    let after = c.carry_out_orders.new.campaign.value in
    let taught = c.teach_all.new.month in
    subst (λ (r : FinMap nat_cmp Reading). AreUnaffected IsOwnOrder IsUnchanged (orders_of is_studying ByUnit c.args.month.aliases r) before after) c.in_ok-taught.ensures.readings
    (subst (λ (a : Aliases). AreUnaffected IsOwnOrder IsUnchanged (orders_of is_studying ByUnit a taught.readings) before after) c.in_ok-taught.ensures.aliases c.in_ok-carry_out_orders.ensures.keeps)
