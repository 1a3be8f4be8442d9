use Rattle.std.proofs.Common.{rules, sym, arith, nat_le}
use Rattle.std.specs.Prelude.{nat_lt}
use Rattle.std.proofs.lemmas.List.Sorted.{IsPartitionPoint-from_clause}
use Rattle.std.proofs.lemmas.List.Sums.{position_or_len_is}
use Rattle.atl_containers.proofs.SortedLaws.{sorted_is_partitioned, not_below, not_above}
use Rattle.atl_containers.proofs.numbers.first_not_below.Goals as goal

pub returns-clause-position : goal.returns-clause-position
returns-clause-position c =
    let number = c.args.number in
    let items = c.args.items.now in
    let point = IsPartitionPoint-from_clause (λ y. nat_lt y number) items _ c.partition_point.ensures.partitioned (sorted_is_partitioned number items c.requires) (λ a r q k. search rules) in
    sym (position_or_len_is (nat_le number) items _ 0 c.partition_point.ensures.bound (λ k h. not_above number _ (point.0 k 0 (omega arith) h)) (λ h. not_below number _ (point.1 _ 0 (omega arith) h)))
