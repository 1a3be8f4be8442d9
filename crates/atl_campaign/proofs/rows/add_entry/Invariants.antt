use Rattle.std.proofs.Common.{◌≡◌, ◌++◌}
use Rattle.atl_records.specs.Grids.{accounts_under}
use Rattle.atl_campaign.specs.Rows.{rows_under}
use Rattle.atl_campaign.proofs.rows.add_entry.Given as goal

-- the rows so far are the rows at the start, and then those of the entry's amounts of the things done, if not 0
abbrev pub invariant-loop-number : goal.invariant-loop-number
invariant-loop-number l = l.rows ≡ l.initial.rows ++ rows_under l.books (accounts_under l.number l.entry)
