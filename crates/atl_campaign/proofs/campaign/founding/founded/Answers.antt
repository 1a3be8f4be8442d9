use Rattle.std.proofs.Common.{◌≡◌, ◌+◌, length, sym, ap, subst, refl, ◌∙◌, arith}
use Rattle.std.specs.FinMap.{len-entries}
use Rattle.std.proofs.lemmas.List.{length-map}
use Rattle.atl_world.specs.Sums.{map_values}
use Rattle.atl_world.proofs.MappedLaws.{entries-mapped}
use Rattle.atl_world.proofs.NameLaws.{pass_ok-IsUtf8}
use Rattle.atl_campaign.specs.Campaign.{CampaignValue, MarkedCampaign}
use Rattle.atl_campaign.specs.Founding.{founded_region, founded_of}
use Rattle.atl_campaign.specs.Good.{IsGood}
use Rattle.atl_campaign.specs.Regions.{MarkedRegions}
use Rattle.atl_campaign.proofs.FoundingLaws.{AreKept-without_marks, founded-good}
use Rattle.atl_campaign.proofs.campaign.founding.founded.Goals as goal

pub founding_books-requires-clause-few : goal.founding_books-requires-clause-few
founding_books-requires-clause-few c =
    rw (c.in_ok-regions.ensures, c.regions.ensures.value, entries-mapped founded_region c.args.world.now.regions) (simp length-map (omega (arith, len-entries c.args.world.now.regions, c.regions.ensures.world.few_regions)))

pub invariant_of-campaign : goal.invariant_of-campaign
invariant_of-campaign c =
    let things = 2 + length c.items.result.now in
    rw (c.in_ok-amounts_marked.ensures, c.in_ok-books.ensures.value) (AreKept-without_marks things c.campaign.inside.units.values c.campaign.inside.lists c.campaign.invariant.unit_lists)

is_founded : goal.returns-clause-definition
unfolding founded_of
is_founded c =
    let made : c.in_ok-regions.regions.values ≡ map_values founded_region c.regions.result.now = ap (λ (t : MarkedRegions). t.values) c.in_ok-regions.ensures in
    ap (λ (m : MarkedCampaign). record m.value { pass = c.in_ok-pass.pass; regions = c.in_ok-regions.regions.values; books = c.in_ok-books.books }) (c.campaign.view_is ∙ c.blank-campaign.ensures)
    ∙ rw (c.in_ok-pass.ensures (pass_ok-IsUtf8 c.args.pass.now c.requires.pass), c.in_ok-books.ensures.value, made, c.regions.ensures.value, c.items.ensures.value) refl

pub returns-clause-definition : goal.returns-clause-definition
returns-clause-definition c = is_founded c

pub returns-clause-good : goal.returns-clause-good
returns-clause-good c =
    let made : c.in_ok-regions.regions.values ≡ map_values founded_region c.regions.result.now = ap (λ (t : MarkedRegions). t.values) c.in_ok-regions.ensures in
    subst (λ (s : CampaignValue). IsGood c.args.world.now s) (sym (is_founded c)) (founded-good c.args.world.now c.args.pass.now c.regions.ensures.world c.requires.pass (rw (← c.regions.ensures.value, ← made) c.in_ok-books.ensures.money) (rw (← c.regions.ensures.value, ← made) c.in_ok-books.ensures.people))
