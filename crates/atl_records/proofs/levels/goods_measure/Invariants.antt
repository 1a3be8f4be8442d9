use Rattle.std.proofs.Common.{◌≡◌, ℕ, ◌+◌, ◌*◌, ◌≤◌, true, sum_by}
use Rattle.std.specs.Ordering.{nat_cmp}
use Rattle.std.specs.FinMap.{is_sorted}
use Rattle.atl_world.specs.Limits.{most_items, most_weight}
use Rattle.atl_world.proofs.EntryOrderLaws.{BeginsFrom}
use Rattle.atl_records.specs.Limits.{most_u32}
use Rattle.atl_records.specs.Levels.{goods_measure, measure_of}
use Rattle.atl_records.proofs.levels.goods_measure.Given as goal

-- `sum`, plus what the items not counted yet add, is the whole sum; these items are sorted, and begin from a number
-- `low` for which `sum` is at most most_u32 * most_weight * low
abbrev pub invariant-loop-item : goal.invariant-loop-item
invariant-loop-item l = record {
  rest : l.sum + sum_by (λ e. e.1 * measure_of l.of l.world e.0) l.item-iterator ≡ goods_measure l.of l.world l.holding;
  sorted : is_sorted nat_cmp l.item-iterator ≡ true;
  fits : (low : ℕ) × (low ≤ most_items) × (l.sum ≤ most_u32 * most_weight * low) × BeginsFrom low l.item-iterator;
}
