use Rattle.std.proofs.Common.{◌≡◌, ◌++◌, length, map}
use Rattle.std.specs.Vec.Iter.{into_iter_items, into_iter_len}
use Rattle.atl_tables.specs.RegionTable.{as_draft}
use Rattle.atl_tables.proofs.region_table.without_markets.Given as goal

-- the regions made so far, followed by those to be made of the regions still to come, are all regions, without markets
abbrev pub invariant-loop-region : goal.invariant-loop-region
invariant-loop-region l = record {
  made : l.drafts ++ map as_draft (into_iter_items l.region-iterator) ≡ map as_draft l.fn.regions;
  count : into_iter_len l.region-iterator ≡ length (into_iter_items l.region-iterator);
}
