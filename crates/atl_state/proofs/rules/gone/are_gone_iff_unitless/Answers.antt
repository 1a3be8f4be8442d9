use Rattle.std.proofs.Common.{◌≡◌, ℕ, true, [], rules}
use borrow.Author.Tests.{tests}
use Rattle.std.proofs.lemmas.Bool.Decides.{Decides-like}
use Rattle.std.specs.Ordering.{nat_cmp}
use Rattle.std.specs.FinMap.{FinMap}
use Rattle.atl_records.specs.declared.records.Faction.{Faction}
use Rattle.atl_records.specs.declared.records.Unit.{Unit}
use Rattle.atl_campaign.specs.Campaign.{CampaignValue, numbers_of_faction}
use Rattle.atl_world.specs.Every.{Every}
use Rattle.atl_campaign.specs.Good.{GoneHaveNone, UnitlessAreGone}
use Rattle.atl_campaign.proofs.RuleLaws.{every_by_all}
use Rattle.atl_state.proofs.rules.gone.are_gone_iff_unitless.Goals as goal

abbrev IsGoneIffUnitless : FinMap nat_cmp Unit → ℕ → Faction → Type 0
IsGoneIffUnitless units n f =
    (f.gone ≡ true → numbers_of_faction n units ≡ []) × (numbers_of_faction n units ≡ [] → f.gone ≡ true)

gone_iff_gives_both : (c : CampaignValue) → Every (IsGoneIffUnitless c.units) c.factions
    → GoneHaveNone c × UnitlessAreGone c
gone_iff_gives_both c every = (λ n f is. (every n f is).0, λ n f is. (every n f is).1)

both_give_gone_iff : (c : CampaignValue) → GoneHaveNone c × UnitlessAreGone c
    → Every (IsGoneIffUnitless c.units) c.factions
both_give_gone_iff c both n f is = (both.0 n f is, both.1 n f is)

pub returns : goal.returns
returns c =
    let what = c.args.campaign.now.value in
    Decides-like c.all.result (gone_iff_gives_both what) (both_give_gone_iff what) (every_by_all (IsGoneIffUnitless what.units) _ _ _ c.all.ensures.ran what.factions (search rules) (λ x q k. search (rules, tests)) (λ x q k. search (rules, tests)))
