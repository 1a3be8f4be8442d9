use Rattle.std.proofs.Common.{◌≡◌, ◌++◌}
use Rattle.atl_campaign.specs.Rows.{rows_of_sort}
use Rattle.atl_campaign.proofs.rows.add_sort_rows.Given as goal

-- the rows so far, and then those of the things left, are the rows at the start, and then those of all things
abbrev pub invariant-loop-thing : goal.invariant-loop-thing
invariant-loop-thing l =
    l.rows ++ rows_of_sort l.number l.sort l.thing-iterator ≡ l.initial.rows ++ rows_of_sort l.number l.sort l.fn.things
