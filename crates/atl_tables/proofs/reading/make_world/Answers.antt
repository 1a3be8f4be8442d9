use Rattle.std.proofs.Common.{◌≡◌, ◌<◌, List, length, subst, sym, ap, ◌∙◌}
use Rattle.std.specs.FinMap.{FinMap}
use Rattle.std.specs.Ordering.{nat_cmp}
use Rattle.atl_tables.specs.Faults.{Conditions, first_fault}
use Rattle.atl_tables.specs.Results.{Gives}
use Rattle.atl_tables.specs.Parts.{world_parts_of, AreWorldPartsOf}
use Rattle.atl_world.specs.Worlds.{WorldValue, IsWorld, land_of, world_of_parts}
use Rattle.atl_world.specs.Sums.{by_number}
use Rattle.atl_tables.specs.World.{neighbours_are_mutual, is_some_land, world_of_tables, regions_of}
use Rattle.atl_tables.specs.declared.reading.WorldParts.{WorldParts}
use Rattle.atl_tables.specs.declared.world_draft.WorldDraft.{WorldDraft}
use Rattle.atl_world.specs.declared.world.RegionPlan.{RegionPlan}
use Rattle.atl_tables.proofs.FaultLaws.{gives_error, error_of_first_list_is_of_joined, result_by_second_list_is_by_joined}
use Rattle.atl_tables.proofs.WorldLaws.{is_world}
use Rattle.atl_tables.proofs.reading.make_world.Goals as goal

abbrev land_condition : WorldDraft → Conditions
land_condition all = is_some_land (land_of (world_of_tables all))

region_maps_are_same : (all : WorldDraft) (p : WorldParts) (plans : List RegionPlan) → p ≡ world_parts_of all
    → plans ≡ p.regions → by_number (λ r. r.number) plans ≡ regions_of all
unfolding regions_of
region_maps_are_same all p plans e q = ap (by_number (λ r. r.number)) (q ∙ ap (λ (x : WorldParts). x.regions) e)

-- the world made of `parts`, the skills of the tables `all`, and a map of regions: as `make_world` makes it
abbrev made_of : WorldDraft → WorldParts → FinMap nat_cmp RegionPlan → WorldValue
made_of all p regions = world_of_parts p.rules p.terrains p.items all.skills p.kinds regions

made_is_world : (all : WorldDraft) (p : WorldParts) (regions : FinMap nat_cmp RegionPlan) → p ≡ world_parts_of all
    → regions ≡ regions_of all → made_of all p regions ≡ world_of_tables all
unfolding world_of_tables
made_is_world all p regions e q = ap (made_of all p) q ∙ ap (λ (x : WorldParts). made_of all x (regions_of all)) e

pub returns-in_err-mutual_neighbours : goal.returns-in_err-mutual_neighbours
unfolding neighbours_are_mutual
returns-in_err-mutual_neighbours c =
    let all = c.args.all in
    let made = c.in_ok-regions.ensures.value ∙ region_maps_are_same all c.args.parts c.into_vec.result.items c.requires.parts c.into_vec.ensures in
    gives_error _ _ _ _ _ c.from_residual-in_err-mutual_neighbours.ensures.1 (error_of_first_list_is_of_joined c.in_err-mutual_neighbours.field-0.0 (neighbours_are_mutual all) (land_condition all) (rw (c.as_slice.ensures, made) at c.in_err-mutual_neighbours.ensures.value))

pub world_with_land-requires : goal.world_with_land-requires
world_with_land-requires c =
    let all = c.args.all in
    let made = c.in_ok-regions.ensures.value ∙ region_maps_are_same all c.args.parts c.into_vec.result.items c.requires.parts c.into_vec.ensures in
    let e = made_is_world all c.args.parts c.in_ok-regions.regions c.requires.parts made in
    let back = rw (c.as_slice.ensures, made) at c.in_ok-mutual_neighbours.ensures.back in
    record { world = rw c.into_skills-skills.ensures (subst (λ (w : WorldValue). 0 < length (land_of w) → IsWorld w) (sym e) (is_world all c.requires.all (subst (AreWorldPartsOf all) c.requires.parts c.requires.sound) c.requires.names back)) }

pub returns : goal.returns
unfolding neighbours_are_mutual
returns c =
    let all = c.args.all in
    let made = c.in_ok-regions.ensures.value ∙ region_maps_are_same all c.args.parts c.into_vec.result.items c.requires.parts c.into_vec.ensures in
    let e = made_is_world all c.args.parts c.in_ok-regions.regions c.requires.parts made in
    result_by_second_list_is_by_joined (λ w. w) c.world_with_land.result (neighbours_are_mutual all) (land_condition all) (world_of_tables all) (rw (c.as_slice.ensures, made) at c.in_ok-mutual_neighbours.ensures.value.0)
    (subst (λ (w : WorldValue). Gives (λ x. x) c.world_with_land.result (first_fault (is_some_land (land_of w))) w) e (rw c.into_skills-skills.ensures at c.world_with_land.ensures))
