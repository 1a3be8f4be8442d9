use Rattle.std.proofs.Common.{ap, subst, sym}
use Rattle.atl_instant.specs.Quit.{quit_keeps}
use Rattle.atl_instant.proofs.QuitLaws.{quit_leaves_others}
use Rattle.atl_instant.proofs.quit.QuitPhasePhase.run.Goals as goal

pub returns-clause-keeps : goal.returns-clause-keeps
returns-clause-keeps c =
    let w = c.args.world.now in
    let before = c.args.campaign.value in
    let m = c.args.month in
    subst (λ d. quit_keeps w m before d) (sym (ap (λ p. p.0) c.in_ok-carry_out_orders.ensures.meaning)) (quit_leaves_others w before m c.requires.needs c.requires.read)
