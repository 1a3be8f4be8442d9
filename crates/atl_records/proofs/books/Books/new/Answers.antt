use Rattle.std.proofs.Common.{◌≡◌, ap, ◌∙◌, pos, arith}
use Rattle.std.specs.Prelude.{replicate}
use Rattle.atl_records.specs.Grids.{as_books}
use Rattle.atl_records.specs.Limits.{entry_count}
use Rattle.atl_records.proofs.GridLaws.{as_books-replicate}
use Rattle.atl_records.proofs.books.Books.new.Goals as goal

pub returns : goal.returns
returns c =
    let all : c.loop-made._made ≡ c.args.things = omega arith in
    ap as_books (c.loop-made.invariant ∙ ap (λ n. replicate n (replicate entry_count (pos 0))) all)
    ∙ as_books-replicate c.args.things
