use Rattle.std.proofs.Common.{◌≡◌, map, take}
use Rattle.atl_store.proofs.loading.gathered.rowids_of.Given as goal

-- at each turn the list has the rowids of the rows of earlier turns, in their order
abbrev pub invariant-loop-row : goal.invariant-loop-row
invariant-loop-row g l = l.rowids.items ≡ map (λ s. s.rowid) (take l.row-index l.placed)
