use Rattle.std.proofs.Common.{◌≡◌, pos}
use Rattle.std.specs.Prelude.{replicate}
use Rattle.atl_records.specs.Limits.{entry_count}
use Rattle.atl_records.proofs.books.Books.new.Given as goal

-- as many rows are made as the loop has made turns, and every amount in them is 0
abbrev pub invariant-loop-made : goal.invariant-loop-made
invariant-loop-made l = l.rows.items ≡ replicate l._made (replicate entry_count (pos 0))
