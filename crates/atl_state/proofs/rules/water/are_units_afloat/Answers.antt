use Rattle.std.proofs.Common.{◌≡◌, ℕ, false, rules}
use borrow.Author.Tests.{tests}
use Rattle.atl_world.specs.Worlds.{WorldValue}
use Rattle.atl_world.specs.ByNumber.{is_land_at}
use Rattle.atl_records.specs.declared.records.Unit.{Unit}
use Rattle.atl_campaign.specs.Campaign.{CampaignValue}
use Rattle.atl_campaign.specs.Good.{IsAboard}
use Rattle.atl_campaign.proofs.RuleLaws.{every_by_all}
use Rattle.atl_state.proofs.rules.water.are_units_afloat.Goals as goal

abbrev IsAfloat : WorldValue → CampaignValue → ℕ → Unit → Type 0
IsAfloat w c n u = is_land_at w u.region ≡ false → IsAboard w c u

pub returns : goal.returns
returns c =
    every_by_all (IsAfloat c.args.world.now c.args.campaign.now.value) _ _ _ c.all.ensures.ran
    c.args.campaign.now.value.units (search rules) (λ x q k. search (rules, tests)) (λ x q k. search (rules, tests))
