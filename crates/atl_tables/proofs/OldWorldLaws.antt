-- A world that a text gives in the first format has no markets.
use Rattle.std.proofs.Common.{◌≡◌, ℕ, zero, suc, List, [], ◌∷◌, map, Option, Some, None, option_map, Ok, refl, sym, ap, subst, ◌∙◌}
use Rattle.std.specs.Cmp.{nat_cmp_total}
use Rattle.std.specs.FinMap.{FinMap, get, same_map, nat_cmp-IsAntisymmetric}
use Rattle.std.specs.Ordering.{nat_cmp}
use Rattle.toml.specs.Data.{Members}
use Rattle.toml.specs.Parse.{parse_document}
use Rattle.atl_tables.specs.Faults.{first_fault, fault_or_value}
use Rattle.atl_tables.specs.EachIndex.{EachIndex}
use Rattle.atl_tables.specs.OldWorlds.{OldWorldsHaveNoMarkets}
use Rattle.atl_world.specs.Worlds.{WorldValue, without_market, without_markets}
use Rattle.atl_tables.specs.RegionTable.{as_draft, region_of}
use Rattle.atl_world.specs.Sums.{map_values}
use Rattle.atl_tables.specs.World.{document_conditions, world_of_text, world_of_tables, regions_in, regions_of, tables_of, world_of_document}
use Rattle.atl_tables.specs.declared.fault.WorldFault.{WorldFault}
use Rattle.atl_world.specs.declared.format.Format.TheVariants.{First}
use Rattle.atl_tables.specs.declared.region_table.OldRegion.{OldRegion}
use Rattle.atl_tables.specs.declared.world_draft.WorldDraft.{WorldDraft}
use Rattle.atl_world.specs.declared.world.RegionPlan.{RegionPlan}
use Rattle.atl_world.proofs.MappedLaws.{get-mapped}
use Rattle.atl_tables.proofs.HasNumberLaws.{property_holds_in_map}

option_is_unchanged : {V : Type 0} (f : V → V) (o : Option V) → ((v : V) → o ≡ Some v → f v ≡ v) → option_map f o ≡ o
option_is_unchanged f None same = refl
option_is_unchanged f (Some v) same = ap Some (same v refl)

mapped_same : {V : Type 0} (f : V → V) (m : FinMap nat_cmp V) → ((n : ℕ) (v : V) → get m n ≡ Some v → f v ≡ v)
    → map_values f m ≡ m
mapped_same f m same =
    same_map nat_cmp_total nat_cmp-IsAntisymmetric _ _
    (λ n. get-mapped f m n ∙ option_is_unchanged f (get m n) (same n))

-- `all` has all tables of a world file
module _ (all : WorldDraft) where
  old_regions_have_no_markets : (rs : List OldRegion)
      → EachIndex (λ i p. without_market p ≡ p) (map (region_of all) (map as_draft rs))
  unfolding region_of
  old_regions_have_no_markets [] i p h = absurd (cc)
  old_regions_have_no_markets (r ∷ rs) zero p h = let same : region_of all (as_draft r) ≡ p = cc in subst (λ (q : RegionPlan). without_market q ≡ q) same refl
  old_regions_have_no_markets (r ∷ rs) (suc i) p h = old_regions_have_no_markets rs i p h

  tables_of_old_regions_have_no_markets : (rs : List OldRegion) → all.regions ≡ map as_draft rs
      → without_markets (world_of_tables all) ≡ world_of_tables all
  unfolding world_of_tables regions_of
  tables_of_old_regions_have_no_markets rs read =
      let plans = subst (λ ds. EachIndex (λ i p. without_market p ≡ p) (map (region_of all) ds)) (sym read) (old_regions_have_no_markets rs) in
      ap (λ m. record (world_of_tables all) { regions = m }) (mapped_same without_market (regions_of all) (property_holds_in_map (λ (p : RegionPlan). p.number) (λ n p. without_market p ≡ p) (map (region_of all) all.regions) plans))

ok_value_is_world : (fault : Option WorldFault) (x w : WorldValue) → fault_or_value fault x ≡ Ok w → x ≡ w
ok_value_is_world None x w h = cc
ok_value_is_world (Some f) x w h = absurd (cc)

old_document_has_no_markets : (o : Option Members) (w : WorldValue) → world_of_document First o ≡ Ok w
    → without_markets w ≡ w
unfolding tables_of regions_in
old_document_has_no_markets None w h = absurd (cc)
old_document_has_no_markets (Some doc) w h =
    let all = tables_of First doc in
    subst (λ (x : WorldValue). without_markets x ≡ x) (ok_value_is_world (first_fault (document_conditions First doc)) (world_of_tables all) w h) (tables_of_old_regions_have_no_markets all _ refl)

pub old_has_no_markets : OldWorldsHaveNoMarkets
unfolding world_of_text
old_has_no_markets text w h = old_document_has_no_markets (parse_document text) w h
