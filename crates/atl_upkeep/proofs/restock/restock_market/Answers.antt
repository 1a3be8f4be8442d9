use Rattle.std.proofs.Common.{◌≡◌, rules, pos, to_z, of_z, w64}
use Rattle.std.proofs.lemmas.Int.{to_z-of_z}
use Rattle.atl_world.specs.Limits.{most_amount}
use Rattle.atl_records.specs.declared.books.BooksEntry.TheVariants.{Stocked}
use Rattle.atl_records.specs.declared.books.Thing.TheVariants.{Item}
use Rattle.atl_records.specs.Books.{amount_in}
use Rattle.atl_phase.proofs.BookingLaws.{booking_fits, within-pos}
use Rattle.atl_upkeep.proofs.RestockLaws.{market_marks, restock_small, room_alone}
use Rattle.atl_upkeep.proofs.restock.restock_market.Goals as goal

pub book-requires-clause-fits : goal.book-requires-clause-fits
book-requires-clause-fits c =
    let before = c.args.campaign.now.value in
    let same : to_z w64 (of_z w64 c.from.result) ≡ c.from.result = search (rules, to_z-of_z) in
    rw (same, c.from.ensures, c.in_ok-set_stock.ensures.ok, c.requires.known.number_is)
    (booking_fits (amount_in before.books Stocked (Item c.args.item)) (pos c.restock-more.result) most_amount
    (within-pos c.restock-more.result most_amount (rw c.restock-more.ensures (restock_small c.args.market.now c.stock-stock.result c.requires.known.limit)))
    (room_alone before c.args.item c.requires.room))

pub returns-clause-marks : goal.returns-clause-marks
returns-clause-marks c =
    let more : to_z w64 (of_z w64 c.from.result) ≡ pos c.restock-more.result = search (rules, to_z-of_z, c.from.ensures) in
    market_marks c.stock-stock.result c.restock-more.result c.args.region c.args.item c.args.campaign.now c.set_stock.new.self c.book.new.self
    c.in_ok-set_stock.ensures.ok c.in_ok-set_stock.ensures.marks (rw (more, c.requires.known.number_is) at c.book.ensures.what) (rw c.requires.known.number_is at c.book.ensures.marks)
