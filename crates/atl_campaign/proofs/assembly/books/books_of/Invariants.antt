use Rattle.std.proofs.Common.{◌≡◌, drop}
use Rattle.atl_records.specs.Books.{no_amounts}
use Rattle.atl_campaign.specs.FromRows.{with_books_rows}
use Rattle.atl_campaign.proofs.assembly.books.books_of.Given as goal

-- the books so far, with the amounts of the rows left put in, are the empty books with the amounts of all rows put in
abbrev pub invariant-loop-row : goal.invariant-loop-row
invariant-loop-row l = with_books_rows (drop l.row-index l.rows) l.books ≡ with_books_rows l.rows (no_amounts l.things)
