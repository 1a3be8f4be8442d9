use Rattle.std.proofs.Common.{rules, ◌≡◌, ◌∷◌, ◌+◌, drop, get_or, sym, ap, subst, ◌∙◌}
use Rattle.std.specs.Prelude.{fold}
use Rattle.std.proofs.lemmas.List.{drop_more}
use Rattle.atl_campaign.proofs.CoverLaws.{marks-trans}
use Rattle.atl_campaign.specs.Campaign.{CampaignValue}
use Rattle.atl_phase.specs.Bounds.{CanInTurn}
use Rattle.atl_shares.specs.declared.upkeep_sharing.UpkeepResult.{UpkeepResult}
use Rattle.atl_upkeep.specs.UpkeepTaken.{CanPayUpkeep}
use Rattle.atl_upkeep.specs.Upkeep.{upkeep_at}
use Rattle.atl_upkeep.proofs.upkeep.charge_all.Goals as goal

pub charge_upkeep-requires : goal.charge_upkeep-requires
charge_upkeep-requires c =
    let list = c.args.list.now in
    let i = c.loop-upkeep_result.upkeep_result-index in
    let s : UpkeepResult = get_or list i (record { unit = 0; faction = 0; paid = 0; starved = 0 }) in
    let later : drop i list ≡ s ∷ drop (i + 1) list = drop_more list i _ c.loop-upkeep_result-test.true in
    let (w, can) = c.loop-upkeep_result.invariant.can in
    (w, (subst (CanInTurn (CanPayUpkeep w) upkeep_at c.loop-upkeep_result.campaign.value) later can).0)

pub loop-upkeep_result-preserved : goal.loop-upkeep_result-preserved
loop-upkeep_result-preserved c =
    let list = c.args.list.now in
    let i = c.loop-upkeep_result.upkeep_result-index in
    let s : UpkeepResult = get_or list i (record { unit = 0; faction = 0; paid = 0; starved = 0 }) in
    let before = c.loop-upkeep_result.campaign.value in
    let after = c.charge_upkeep.new.campaign.value in
    let old = c.loop-upkeep_result.invariant in
    let later : drop i list ≡ s ∷ drop (i + 1) list = drop_more list i _ c.loop-upkeep_result-test.true in
    let is : after ≡ upkeep_at before s = search rules in
    let marked = c.in_ok-charge_upkeep.ensures.marks in
    let (w, can) = old.can in
    record {
      rest = ap (λ (d : CampaignValue). fold upkeep_at d (drop (i + 1) list)) is ∙ sym (ap (fold upkeep_at before) later) ∙ old.rest;
      can = (w, rw is (subst (CanInTurn (CanPayUpkeep w) upkeep_at before) later can).1);
      marks = marks-trans c.args.campaign.now c.loop-upkeep_result.campaign c.charge_upkeep.new.campaign old.marks marked;
    }
