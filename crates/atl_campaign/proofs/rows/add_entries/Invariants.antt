use Rattle.std.proofs.Common.{◌≡◌, ◌++◌, drop}
use Rattle.std.specs.List.{flat_map}
use Rattle.atl_records.specs.Grids.{accounts_under}
use Rattle.atl_campaign.specs.Rows.{rows_under}
use Rattle.atl_campaign.proofs.rows.add_entries.Given as goal

-- the rows so far, and then those of the entries left, are the rows at the start, and then those of all entries
abbrev pub invariant-loop-entry : goal.invariant-loop-entry
invariant-loop-entry l =
    l.rows ++ rows_under l.books (flat_map (accounts_under l.things) (drop l.entry-index l.entries)) ≡ l.fn.rows ++ rows_under l.books (flat_map (accounts_under l.things) l.entries)
