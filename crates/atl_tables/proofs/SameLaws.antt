-- Two maps of regions are equal but for markets exactly if their entries, regions with their numbers, are so.
use Rattle.std.proofs.Common.{◌≡◌, ℕ, List, ◌∷◌, map, sym, ap, ◌∙◌}
use Rattle.std.specs.FinMap.{FinMap, entries, same_entries_map}
use Rattle.std.specs.Ordering.{nat_cmp}
use Rattle.atl_world.specs.Worlds.{without_market}
use Rattle.atl_world.specs.Sums.{map_values}
use Rattle.atl_world.specs.declared.world.RegionPlan.{RegionPlan}
use Rattle.atl_world.proofs.MappedLaws.{entries-mapped}

-- entries of a map of regions, with the markets left out
abbrev pub entries_without_markets : List (ℕ × RegionPlan) → List (ℕ × RegionPlan)
entries_without_markets es = map (λ e. (e.0, without_market e.1)) es

-- m and n are the two maps that are compared
module _ (m n : FinMap nat_cmp RegionPlan) where
  pub same_maps : entries_without_markets (entries m) ≡ entries_without_markets (entries n)
      → map_values without_market m ≡ map_values without_market n
  same_maps same = same_entries_map _ _ (entries-mapped without_market m ∙ same ∙ sym (entries-mapped without_market n))

  pub same_entries : map_values without_market m ≡ map_values without_market n
      → entries_without_markets (entries m) ≡ entries_without_markets (entries n)
  same_entries same = sym (entries-mapped without_market m) ∙ ap entries same ∙ entries-mapped without_market n

-- (k, p) and (n, q) are the first entries of two lists, and `es` and `fs` are the entries after them
module _ (k n : ℕ) (p q : RegionPlan) (es fs : List (ℕ × RegionPlan)) where
  pub same_rest : entries_without_markets ((k, p) ∷ es) ≡ entries_without_markets ((n, q) ∷ fs)
      → entries_without_markets es ≡ entries_without_markets fs
  same_rest same = cc

  -- two lists of entries are equal but for markets, if their first entries are, and the entries after these
  pub same_with_first_entry : k ≡ n → without_market p ≡ without_market q
      → entries_without_markets es ≡ entries_without_markets fs
      → entries_without_markets ((k, p) ∷ es) ≡ entries_without_markets ((n, q) ∷ fs)
  same_with_first_entry number plan rest = cc
