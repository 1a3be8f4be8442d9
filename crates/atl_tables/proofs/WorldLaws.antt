-- Tables in their ranges give a world (`IsWorld`), if names differ, neighbours are mutual, and some region is land.
-- `all` has all tables of a world file as read.
use Rattle.std.proofs.Common.{◌≡◌, ◌<◌, ℕ, zero, suc, List, [], ◌∷◌, length, map, Some, refl, subst, sym, arith}
use Rattle.std.specs.List.{All, slice_get}
use Rattle.std.proofs.lemmas.List.{length-map}
use Rattle.std.proofs.lemmas.Option.{get_or_from_slice_get, slice_get_within}
use Rattle.std.proofs.lemmas.List.Elements.{All-get_or, All-head, All-tail}
use Rattle.atl_tables.specs.Drafts.{ThingNamesDiffer, IsWorldDraft}
use Rattle.atl_tables.specs.EachIndex.{EachIndex}
use Rattle.atl_tables.specs.ItemTable.{item_of}
use Rattle.atl_world.specs.Names.{NamesDiffer}
use Rattle.atl_tables.specs.Parts.{world_parts_of, AreWorldPartsOf}
use Rattle.atl_world.specs.Worlds.{IsTerrain, IsItem, IsSkill, IsKind, IsRegionPlan, HasMutualNeighbours, IsWorld, land_of}
use Rattle.atl_tables.specs.RegionTable.{region_of}
use Rattle.atl_tables.specs.TerrainTable.{terrain_of}
use Rattle.atl_tables.specs.KindTable.{kind_of}
use Rattle.atl_tables.specs.World.{world_of_tables, regions_of}
use Rattle.atl_tables.specs.declared.world_draft.WorldDraft.{WorldDraft}
use Rattle.atl_world.specs.declared.world.RegionPlan.{RegionPlan}
use Rattle.atl_tables.proofs.HasNumberLaws.{map_is_no_longer_than_list, property_holds_in_map}
use Rattle.atl_tables.proofs.DuplicateLaws.{names_kept}

pub holds_at_index : {A : Type 0} (P : A → Type 0) (xs : List A) → All P xs → (i : ℕ) (x : A) → slice_get xs i ≡ Some x
    → P x
holds_at_index P xs all i x h =
    subst P (get_or_from_slice_get xs i x x h) (All-get_or P xs i x (slice_get_within xs i x h) all)

-- for `is_world`, where f makes records in range (Q) of tables in range (P)
mapped_indices : {A B : Type 0} (P : A → Type 0) (Q : B → Type 0) (f : A → B) → ((x : A) → P x → Q (f x))
    → (xs : List A) → All P xs → EachIndex (λ i y. Q y) (map f xs)
mapped_indices P Q f then [] all i y h = absurd (cc)
mapped_indices P Q f then (x ∷ xs) all zero y h = let same : f x ≡ y = cc in subst Q same (then x (All-head P x xs all))
mapped_indices P Q f then (x ∷ xs) all (suc i) y h = mapped_indices P Q f then xs (All-tail P x xs all) i y h

-- the world of tables in range keeps the facts of every world (`IsWorld`), if what it has is in range, names differ,
-- neighbours are mutual, and some region is land
pub is_world : (all : WorldDraft) → IsWorldDraft all → AreWorldPartsOf all (world_parts_of all) → ThingNamesDiffer all
    → All (λ d. HasMutualNeighbours (regions_of all) d.basics.number d.sides.north d.sides.south d.sides.east d.sides.west) all.regions
    → 0 < length (land_of (world_of_tables all)) → IsWorld (world_of_tables all)
unfolding world_of_tables regions_of region_of terrain_of item_of kind_of
is_world all tables parts names back land =
    let regions = regions_of all in
    let item_count : length (map (item_of all) all.items) ≡ length all.items = length-map all.items (item_of all) in
    let terrain_count : length (map (terrain_of all) all.terrains) ≡ length all.terrains = length-map all.terrains (terrain_of all) in
    let kind_count : length (map (kind_of all) all.kinds) ≡ length all.kinds = length-map all.kinds (kind_of all) in
    let region_count : length (map (region_of all) all.regions) ≡ length all.regions = length-map all.regions (region_of all) in
    record {
      rules = parts.rules;
      terrains = subst (λ n. EachIndex (λ i x. IsTerrain n x) (map (terrain_of all) all.terrains)) (sym item_count) parts.terrains;
      items = subst (λ n. EachIndex (λ i x. IsItem n (length all.skills) i x) (map (item_of all) all.items)) (sym item_count) parts.items;
      skills = holds_at_index IsSkill all.skills tables.skills;
      kinds = subst (λ n. EachIndex (λ i x. IsKind n (length all.skills) x) (map (kind_of all) all.kinds)) (sym item_count) parts.kinds;
      regions =
          property_holds_in_map (λ p. p.number)
          (λ n p. IsRegionPlan (length (map (terrain_of all) all.terrains)) (length (map (item_of all) all.items)) n p)
          (map (region_of all) all.regions)
          (subst (λ n. EachIndex (λ i x. IsRegionPlan n (length (map (item_of all) all.items)) x.number x) (map (region_of all) all.regions)) (sym terrain_count) (subst (λ n. EachIndex (λ i x. IsRegionPlan (length all.terrains) n x.number x) (map (region_of all) all.regions)) (sym item_count) parts.regions));
      neighbours =
          property_holds_in_map (λ p. p.number) (λ n p. HasMutualNeighbours regions n p.north p.south p.east p.west)
          (map (region_of all) all.regions)
          (mapped_indices (λ d. HasMutualNeighbours regions d.basics.number d.sides.north d.sides.south d.sides.east d.sides.west) (λ p. HasMutualNeighbours regions p.number p.north p.south p.east p.west) (region_of all) (λ d h. h) all.regions back);
      terrain_names = subst NamesDiffer (sym (names_kept (terrain_of all) (λ d. d.name) (λ t. t.name) (λ d. refl) all.terrains)) names.terrains;
      item_names = subst NamesDiffer (sym (names_kept (item_of all) (λ d. d.name) (λ x. x.name) (λ d. refl) all.items)) names.items;
      skill_names = names.skills;
      kind_names = subst NamesDiffer (sym (names_kept (kind_of all) (λ d. d.name) (λ k. k.name) (λ d. refl) all.kinds)) names.kinds;
      few_terrains = omega (arith, terrain_count, tables.few_terrains);
      few_items = omega (arith, item_count, tables.few_items);
      few_skills = tables.few_skills;
      few_kinds = omega (arith, kind_count, tables.few_kinds);
      few_regions = omega (arith, map_is_no_longer_than_list (λ (p : RegionPlan). p.number) (map (region_of all) all.regions), region_count, tables.few_regions);
      some_land = land;
    }
