use Rattle.std.proofs.Common.{ap, subst, sym}
use Rattle.atl_phase.specs.OrderEffects.{others_unaffected}
use Rattle.atl_phase.specs.NoWorse.{IsUnchanged}
use Rattle.atl_action.specs.Sail.{SailsWith, is_sailing}
use Rattle.atl_action.proofs.SailLaws.{all_carried, others_do_not_sail}
use Rattle.atl_action.proofs.sail.SailPhasePhase.run.Goals as goal

pub returns-clause-keeps : goal.returns-clause-keeps
returns-clause-keeps c =
    let w = c.args.world.now in
    let before = c.args.campaign.value in
    let m = c.args.month in (
      all_carried w m before _ c.in_ok-carry_out_orders.ensures.keeps,
      subst (λ d. others_unaffected (SailsWith w before) IsUnchanged is_sailing w m before d) (sym (ap (λ p. p.0) c.in_ok-carry_out_orders.ensures.meaning))
          (others_do_not_sail w before m c.requires.needs),
    )
