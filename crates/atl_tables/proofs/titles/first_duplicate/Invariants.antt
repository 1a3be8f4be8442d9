use Rattle.std.proofs.Common.{◌≡◌, ℕ, List, take, drop}
use Rattle.atl_tables.specs.Each.{conditions_on_each}
use Rattle.atl_tables.specs.Faults.{first_fault}
use Rattle.atl_tables.specs.SeenNames.{HasNames}
use Rattle.atl_tables.specs.Titles.{no_duplicate_before}
use Rattle.atl_tables.proofs.titles.first_duplicate.Given as goal

-- `seen` has the titles checked so far, and wherever the array stands, the first fault of the elements not checked yet
-- is that of all elements
abbrev pub invariant-loop-i : goal.invariant-loop-i
invariant-loop-i g l = record {
  seen : HasNames g.T.Titled.title_of (take l.i l.items) l.seen;
  faults : (array key : List ℕ)
      → first_fault (conditions_on_each (no_duplicate_before g.T.Titled.title_of array key l.items) l.i (drop l.i l.items))
      ≡ first_fault (conditions_on_each (no_duplicate_before g.T.Titled.title_of array key l.items) 0 l.items);
}
