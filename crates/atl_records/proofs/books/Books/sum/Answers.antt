use Rattle.std.proofs.Common.{◌≡◌, ◌<◌, length, ap, ◌∙◌, arith, rules, to_z, of_z}
use Rattle.std.specs.Int.{w128}
use Rattle.std.proofs.lemmas.Int.{to_z-of_z}
use Rattle.atl_records.specs.Books.{BooksValue, booked, thing_index}
use Rattle.atl_records.proofs.GridLaws.{grid_there, row_summed}
use Rattle.atl_records.proofs.books.Books.sum.Goals as goal

pub index-requires : goal.index-requires
index-requires c = let there = grid_there c.self.inside.rows.items c.args.self.now c.args.thing c.self.view_is c.requires in omega (arith, there)

pub returns : goal.returns
returns c =
    let rows = c.self.inside.rows.items in
    let there : thing_index c.args.thing < length rows = grid_there rows c.args.self.now c.args.thing c.self.view_is c.requires in
    let same : to_z w128 (of_z w128 c.row_sum.result) ≡ c.row_sum.result = search (arith, rules, to_z-of_z) in
    same ∙ c.row_sum.ensures
    ∙ row_summed rows c.args.thing c.row_index.result c.index.result.now c.index.ensures c.row_index.ensures.index c.self.invariant there
    ∙ ap (λ (b : BooksValue). booked b c.args.thing) c.self.view_is
