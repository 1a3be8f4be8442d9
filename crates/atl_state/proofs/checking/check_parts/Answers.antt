use Rattle.std.proofs.Common.{sym, subst, ap, ◌∙◌, arith}
use Rattle.atl_state.specs.Checking.{KeepsRulesBelow, Fits}
use Rattle.atl_campaign.specs.FromRows.{campaign_of}
use Rattle.atl_campaign.specs.Good.{IsGood}
use Rattle.atl_campaign.specs.Rows.{AreRowsOf}
use Rattle.atl_campaign.specs.Campaign.{CampaignValue}
use Rattle.atl_campaign.specs.Taking.{without_moved}
use Rattle.atl_rows.specs.declared.parts.Parts.{Parts}
use Rattle.atl_state.specs.declared.checking.Rule.TheVariants.{Names}
use Rattle.atl_state.proofs.CheckLaws.{one-said, people-said, checked-rows, checked-fits, checked-good}
use Rattle.atl_state.proofs.checking.check_parts.Goals as goal

pub assemble-requires-clause-one : goal.assemble-requires-clause-one
assemble-requires-clause-one g c = one-said c.args.format c.args.world.now c.args.parts c.in_ok-check_rows.ensures

pub assemble-requires-clause-named : goal.assemble-requires-clause-named
assemble-requires-clause-named g c = let before : KeepsRulesBelow c.args.format c.args.world.now c.args.parts 4 = c.in_ok-check_rows.ensures in (before Names (omega arith)).texts

pub assemble-requires-clause-people : goal.assemble-requires-clause-people
assemble-requires-clause-people g c = people-said c.args.format c.args.world.now c.args.parts c.in_ok-check_rows.ensures

pub check_rules_4_to_7-requires : goal.check_rules_4_to_7-requires
check_rules_4_to_7-requires g c =
    let w = c.args.world.now in (
      c.in-Ok.ensures.what ∙ ap (campaign_of w) c.requires,
      (c.in-Ok.ensures.rest ∙ ap without_moved c.requires, subst (λ (p : Parts). KeepsRulesBelow c.args.format w p 4) c.requires c.in_ok-check_rows.ensures),
    )

pub check_rules_8_to_12-requires : goal.check_rules_8_to_12-requires
check_rules_8_to_12-requires g c =
    let w = c.args.world.now in (
      c.in-Ok.ensures.what ∙ ap (campaign_of w) c.requires,
      (c.in-Ok.ensures.rest ∙ ap without_moved c.requires, c.in_ok-check_rules_4_to_7.ensures),
    )

pub returns : goal.returns
returns g c =
    let w = c.args.world.now in
    let p = g.rows in
    let f = c.args.format in
    let all : KeepsRulesBelow f w p 13 = c.in_ok-check_rules_8_to_12.ensures in
    let what = c.in-Ok.ensures.what ∙ ap (campaign_of w) c.requires in
    record {
      rows = subst (λ (s : CampaignValue). AreRowsOf f s p) (sym what) (checked-rows f w p c.assemble.ensures.world all);
      fits = subst (Fits f) (sym what) (checked-fits f w p c.assemble.ensures.world all);
      good = subst (IsGood w) (sym what) (checked-good f w p c.assemble.ensures.world all);
      marks = c.in-Ok.ensures.marks;
    }
