use Rattle.std.proofs.Common.{◌≡◌, ℕ, true, false, rules}
use borrow.Author.Tests.{tests}
use Rattle.atl_world.specs.Worlds.{WorldValue}
use Rattle.atl_world.specs.ByNumber.{is_land_at, size_of}
use Rattle.atl_records.specs.declared.records.Structure.{Structure}
use Rattle.atl_campaign.specs.Good.{is_ship}
use Rattle.atl_campaign.proofs.RuleLaws.{every_by_all}
use Rattle.atl_state.proofs.rules.water.are_ships_afloat.Goals as goal

abbrev IsAfloat : WorldValue → ℕ → Structure → Type 0
IsAfloat w n s = is_land_at w s.region ≡ false → (is_ship w s ≡ true) × (s.done ≡ size_of w s.kind)

pub returns : goal.returns
returns c =
    every_by_all (IsAfloat c.args.world.now) _ _ _ c.all.ensures.ran c.args.campaign.now.value.structures (search rules)
    (λ x q k. search (rules, tests)) (λ x q k. search (rules, tests))
