use Rattle.std.proofs.Common.{◌≡◌, ◌<◌, length, get_or, pos, ap, sym, ◌∙◌, arith, rules, to_z, of_z, w64}
use Rattle.std.proofs.lemmas.Int.{to_z-of_z}
use Rattle.atl_records.specs.Books.{BooksValue, amount_in, thing_index}
use Rattle.atl_records.proofs.GridLaws.{amount-as_books, cell_read, grid_there}
use Rattle.atl_records.proofs.books.Books.amount.Goals as goal

pub index-requires : goal.index-requires
index-requires c = let there = grid_there c.self.inside.rows.items c.args.self.now c.args.thing c.self.view_is c.requires in omega (arith, there)

pub returns : goal.returns
returns c =
    let rows = c.self.inside.rows.items in
    let there : thing_index c.args.thing < length rows = grid_there rows c.args.self.now c.args.thing c.self.view_is c.requires in
    let same : to_z w64 (of_z w64 (get_or c.index.result.now c.column.result (pos 0))) ≡ get_or c.index.result.now c.column.result (pos 0) = search (arith, rules, to_z-of_z) in
    same
    ∙ cell_read rows c.args.entry c.args.thing c.row_index.result c.column.result c.index.result.now c.index.ensures c.row_index.ensures.index c.column.ensures.index there
    ∙ sym (amount-as_books rows c.args.entry c.args.thing)
    ∙ ap (λ (b : BooksValue). amount_in b c.args.entry c.args.thing) c.self.view_is
