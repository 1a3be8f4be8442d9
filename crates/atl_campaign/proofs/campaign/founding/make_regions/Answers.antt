use Rattle.std.proofs.Common.{◌≡◌, ◌∷◌, [], map, sym, ap, ◌∙◌, refl, rules}
use Rattle.std.proofs.lemmas.List.{append-nil, append_assoc}
use Rattle.std.proofs.lemmas.Result.{IfOk-weaker}
use Rattle.std.specs.FinMap.{entries, same_entries_map}
use Rattle.atl_world.specs.Sums.{map_values}
use Rattle.atl_world.proofs.Maps.{entries-empty}
use Rattle.atl_world.proofs.MappedLaws.{entries-mapped, insert_last}
use Rattle.atl_campaign.specs.Regions.{unmarked_regions}
use Rattle.atl_campaign.specs.Founding.{founded_region}
use Rattle.atl_records.specs.declared.records.Region.{Region}
use Rattle.atl_campaign.proofs.campaign.founding.make_regions.Goals as goal

pub loop-number-init : goal.loop-number-init
loop-number-init c =
    let all : c.into_iter-number-iterator.result ≡ entries c.args.plans.now = search rules in
    rw (c.new-regions.ensures, entries-empty {X = Region}, entries-mapped founded_region c.args.plans.now, all) refl

pub loop-number-preserved : goal.loop-number-preserved
loop-number-preserved c =
    let so_far = rw c.in-Some.ensures.steps at c.loop-number.invariant in
    let region = founded_region c.in-Some.plan.now in
    rw (c.in_ok-insert.ensures.ok, c.new.ensures, insert_last c.loop-number.regions (map_values founded_region c.args.plans.now) c.in-Some.number region (map (λ e. (e.0, founded_region e.1)) c.next.new.self) so_far)
    (append_assoc (entries c.loop-number.regions) ((c.in-Some.number, region) ∷ []) (map (λ e. (e.0, founded_region e.1)) c.next.new.self) ∙ so_far)

pub returns : goal.returns
returns c =
    let none : c.loop-number.number-iterator ≡ [] = search rules in
    let made = same_entries_map c.loop-number.regions (map_values founded_region c.args.plans.now) (sym (append-nil (entries c.loop-number.regions)) ∙ (rw none at c.loop-number.invariant)) in
    IfOk-weaker c.unmarked_from.result (λ r. r ≡ unmarked_regions c.loop-number.regions) (λ r. r ≡ unmarked_regions (map_values founded_region c.args.plans.now)) (λ r is. is ∙ ap unmarked_regions made) c.unmarked_from.ensures
