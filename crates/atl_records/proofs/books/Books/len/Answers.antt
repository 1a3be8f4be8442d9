use Rattle.std.proofs.Common.{◌≡◌, ap, length, rules, sym, subst, ◌∙◌}
use Rattle.atl_records.specs.Books.{AreBooks, BooksValue}
use Rattle.atl_records.specs.Grids.{as_books}
use Rattle.atl_records.proofs.GridLaws.{AreBooks-as_books, things-as_books}
use Rattle.atl_records.proofs.books.Books.len.Goals as goal

pub returns-clause-value : goal.returns-clause-value
returns-clause-value c =
    let size : c.len.result ≡ length c.self.inside.rows.items = search rules in
    size ∙ sym (things-as_books c.self.inside.rows.items) ∙ ap (λ (b : BooksValue). b.things) c.self.view_is

pub returns-clause-books : goal.returns-clause-books
returns-clause-books c =
    let rows = c.self.inside.rows.items in
    let size : c.len.result ≡ length rows = search rules in
    subst (AreBooks c.len.result) c.self.view_is (subst (λ n. AreBooks n (as_books rows)) (sym size) (AreBooks-as_books rows))
