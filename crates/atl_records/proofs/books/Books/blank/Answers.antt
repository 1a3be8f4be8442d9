use Rattle.std.proofs.Common.{ap, ◌∙◌}
use Rattle.atl_records.specs.Grids.{as_books}
use Rattle.atl_records.proofs.GridLaws.{as_books-replicate}
use Rattle.atl_records.proofs.books.Books.blank.Goals as goal

pub returns : goal.returns
returns c = ap as_books c.new.ensures.items ∙ as_books-replicate 0
