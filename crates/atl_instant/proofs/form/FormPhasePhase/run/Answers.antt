use Rattle.std.proofs.Common.{◌≡◌, refl, ap, subst, sym, ◌∙◌, get_or, arith}
use Rattle.std.specs.Prelude.{fold, Some}
use Rattle.std.specs.FinMap.{get}
use Rattle.atl_campaign.specs.Good.{IsEarly}
use Rattle.atl_campaign.specs.Campaign.{CampaignValue}
use Rattle.atl_campaign.proofs.CoverLaws.{marks-refl, marks-trans}
use Rattle.atl_phase.specs.Month.{MonthValue}
use Rattle.atl_phase.specs.Bounds.{StepsWell, nothing_remaining}
use Rattle.atl_phase.proofs.FoldLaws.{fold_after_step, fold_ended}
use Rattle.atl_phase.proofs.OrderEffectLaws.{leaves_well, well_same, well_twice}
use Rattle.atl_instant.proofs.FormLaws.{all_formed, free_number, order_stays, order_well}
use Rattle.atl_instant.proofs.form.FormPhasePhase.run.Goals as goal
use Rattle.atl_world.specs.declared.verb.Verb.TheVariants.{Form}
use Rattle.atl_instant.specs.Forming.{form_by_copy}
use Rattle.atl_instant.specs.declared.form.Forming.{Forming}

pub loop-order-init : goal.loop-order-init
loop-order-init c = record {
  orders = refl;
  readings = refl;
  well = well_same c.args._world.now c.args.campaign.value c.requires.needs;
  stays = λ n u there. there;
  marks = marks-refl c.args.campaign;
}

pub formings-requires : goal.formings-requires
formings-requires c = (c.args._world.now, c.requires.read)

pub form_one-requires : goal.form_one-requires
form_one-requires c =
    record { free = free_number c.args._world.now c.loop-order.campaign.value c.loop-order.invariant.well.holds_still }

pub loop-order-preserved : goal.loop-order-preserved
loop-order-preserved c =
    let w = c.args._world.now in
    let old = c.args.campaign.value in
    let now = c.loop-order.campaign.value in
    let before : CampaignValue × MonthValue = (now, c.loop-order.month) in
    let xs = c.deref-order-items.result.now in
    let i = c.loop-order.order-index in
    let none : Forming = record { unit = 0; line = 0; faction = 0; verb = Form; alias = 0 } in
    let o = get_or xs i none in
    let step = c.in_ok-form_one.ensures.step in
    let what = ap (λ (p : CampaignValue × MonthValue). p.0) c.in_ok-form_one.ensures.step in
    let early = c.loop-order.invariant.well.holds_still in
    record {
      orders = fold_after_step form_by_copy xs i none before c.loop-order-test.true step c.loop-order.invariant.orders;
      readings = ap (λ (p : CampaignValue × MonthValue). p.1.readings) step ∙ c.loop-order.invariant.readings;
      well = well_twice w old now _ c.loop-order.invariant.well (subst (λ d. StepsWell IsEarly nothing_remaining w now d) (sym what) (order_well w now early c.loop-order.month o));
      stays = λ n u there. subst (λ (d : CampaignValue). get d.units n ≡ Some u) (sym what) (order_stays w now early c.loop-order.month o n u (c.loop-order.invariant.stays n u there));
      marks = marks-trans c.args.campaign c.loop-order.campaign _ c.loop-order.invariant.marks c.in_ok-form_one.ensures.marks;
    }

pub returns-clause-meaning : goal.returns-clause-meaning
returns-clause-meaning c =
    let start : CampaignValue × MonthValue = (c.args.campaign.value, c.args.month) in
    let after_loop : CampaignValue × MonthValue = (c.loop-order.campaign.value, c.loop-order.month) in
    let same : ◌≡◌ {A = CampaignValue × MonthValue} (c.loop-order.campaign.value, c.gather.new.self) after_loop = ap (λ (m : MonthValue). (c.loop-order.campaign.value, m)) c.gather.ensures in
    same
    ∙ fold_ended form_by_copy c.deref-order-items.result.now c.loop-order.order-index after_loop (omega (arith, c.loop-order-test.false)) c.loop-order.invariant.orders
    ∙ ap (fold form_by_copy start) (c.deref-order-items.ensures.value ∙ c.in_ok-orders.ensures)
    ∙ all_formed c.args._world.now c.args.campaign.value c.args.month

pub returns-clause-leaves : goal.returns-clause-leaves
returns-clause-leaves c =
    leaves_well c.args._world.now c.args.campaign.value c.loop-order.campaign.value (λ e t. omega arith)
    c.loop-order.invariant.well

pub returns-clause-keeps : goal.returns-clause-keeps
returns-clause-keeps c = c.loop-order.invariant.stays

pub returns-clause-readings : goal.returns-clause-readings
returns-clause-readings c = ap (λ (m : MonthValue). m.readings) c.gather.ensures ∙ c.loop-order.invariant.readings

pub returns-clause-marks : goal.returns-clause-marks
returns-clause-marks c = c.loop-order.invariant.marks
