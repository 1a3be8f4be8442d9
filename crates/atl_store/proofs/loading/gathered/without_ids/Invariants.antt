use Rattle.std.proofs.Common.{◌≡◌, map}
use Rattle.atl_store.proofs.loading.gathered.without_ids.Given as goal

-- at each turn the list has the rows of earlier turns without their rowids, in their order
abbrev pub invariant-loop-row : goal.invariant-loop-row
invariant-loop-row g l = l.rows.items ≡ map (λ s. s.row) l.yielded
