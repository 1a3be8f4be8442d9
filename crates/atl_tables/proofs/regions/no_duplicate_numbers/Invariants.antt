use Rattle.std.proofs.Common.{◌≡◌, ℕ, drop, take}
use Rattle.std.specs.Option.{is_some}
use Rattle.std.specs.FinMap.{get}
use Rattle.atl_tables.specs.Each.{conditions_on_each}
use Rattle.atl_tables.specs.Faults.{first_fault}
use Rattle.atl_tables.specs.Regions.{some_region_has_number, duplicate_number_at}
use Rattle.atl_tables.proofs.regions.no_duplicate_numbers.Given as goal

-- `seen` has the numbers of the regions checked so far, and the first fault of the regions not checked yet is that of
-- all regions
abbrev pub invariant-loop-i : goal.invariant-loop-i
invariant-loop-i l = record {
  faults : first_fault (conditions_on_each (duplicate_number_at l.drafts) l.i (drop l.i l.drafts))
      ≡ first_fault (conditions_on_each (duplicate_number_at l.drafts) 0 l.drafts);
  seen : (n : ℕ) → is_some (get l.seen n) ≡ some_region_has_number n (take l.i l.drafts);
}
