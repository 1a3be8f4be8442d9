use Rattle.std.proofs.Common.{◌<◌, length, ap, sym, subst, ◌∙◌, arith, w64}
use Rattle.std.proofs.lemmas.Int.{to_z-of_z}
use Rattle.atl_records.specs.Books.{BooksValue, thing_index, with_amount}
use Rattle.atl_records.specs.Grids.{IsGrid, as_books}
use Rattle.atl_records.proofs.GridLaws.{IsGrid-with_cell, as_books-with_cell, cell_written, grid_there}
use Rattle.atl_records.proofs.books.Books.put.Goals as goal

pub index_mut-requires : goal.index_mut-requires
index_mut-requires c = let there = grid_there c.self.inside.rows.items c.args.self.now c.args.thing c.self.view_is c.requires in omega (arith, there)

pub invariant_of-self : goal.invariant_of-self
invariant_of-self c =
    let rows = c.self.inside.rows.items in
    let there : thing_index c.args.thing < length rows = grid_there rows c.args.self.now c.args.thing c.self.view_is c.requires in
    let written = cell_written rows c.args.entry c.args.thing c.row_index-row.result c.column-column.result c.index_mut.result.now _ c.args.amount c.index_mut.ensures.value c.row_index-row.ensures.index c.column-column.ensures.index (to_z-of_z w64 c.args.amount c.ranges.amount) there in
    subst IsGrid (sym written) (IsGrid-with_cell rows c.self.invariant c.args.entry c.args.thing c.args.amount there)

pub returns : goal.returns
returns c =
    let rows = c.self.inside.rows.items in
    let there : thing_index c.args.thing < length rows = grid_there rows c.args.self.now c.args.thing c.self.view_is c.requires in
    let written = cell_written rows c.args.entry c.args.thing c.row_index-row.result c.column-column.result c.index_mut.result.now _ c.args.amount c.index_mut.ensures.value c.row_index-row.ensures.index c.column-column.ensures.index (to_z-of_z w64 c.args.amount c.ranges.amount) there in
    ap as_books written ∙ as_books-with_cell rows c.self.invariant c.args.entry c.args.thing c.args.amount there
    ∙ ap (λ (b : BooksValue). with_amount b c.args.entry c.args.thing c.args.amount) c.self.view_is
