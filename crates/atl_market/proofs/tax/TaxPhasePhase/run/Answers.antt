use Rattle.std.proofs.Common.{map, subst, sym}
use Rattle.atl_campaign.specs.Good.{IsEarly}
use Rattle.atl_phase.specs.PhaseOrders.{task_of}
use Rattle.atl_phase.specs.Meaning.{LeavesWell}
use Rattle.atl_phase.specs.NoWorse.{AreNoWorse}
use Rattle.atl_phase.specs.Unbooked.{moves_nothing}
use Rattle.atl_market.proofs.TaxLaws.{all_taxes_leave_well, can_share_out, tax_keeps_units}
use Rattle.atl_market.proofs.tax.TaxPhasePhase.run.Goals as goal

pub share_out-requires : goal.share_out-requires
share_out-requires c =
    record { needs = c.requires.needs; asks = λ k d l. tt; can = can_share_out c.args.world.now c.args.campaign.value c.requires.needs (map task_of c.deref.result.now) }

pub returns-clause-leaves : goal.returns-clause-leaves
returns-clause-leaves c =
    subst (λ d. LeavesWell IsEarly moves_nothing c.args.world.now c.args.campaign.value d) (sym c.in_ok-events.ensures.what)
    (all_taxes_leave_well c.args.world.now c.args.campaign.value c.requires.needs (map task_of c.deref.result.now))

pub returns-clause-keeps : goal.returns-clause-keeps
returns-clause-keeps c =
    subst (λ d. AreNoWorse c.args.campaign.value d) (sym c.in_ok-events.ensures.what)
    (tax_keeps_units c.args.world.now c.args.campaign.value (map task_of c.deref.result.now))
