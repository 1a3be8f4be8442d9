use Rattle.std.proofs.Common.{◌≡◌, ◌+◌, arith, rules, pos, to_z, of_z, w64}
use Rattle.std.proofs.lemmas.Int.{to_z-of_z}
use Rattle.atl_records.specs.declared.books.BooksEntry.TheVariants.{Births, Income}
use Rattle.atl_records.specs.declared.books.Thing.TheVariants.{People, Money}
use Rattle.atl_records.specs.Books.{amount_in}
use Rattle.atl_world.specs.Limits.{most_amount}
use Rattle.atl_phase.specs.Meaning.{moves_only}
use Rattle.atl_phase.proofs.BookingLaws.{booked-room, booking_fits, within-pos}
use Rattle.atl_upkeep.proofs.SeasonLaws.{births_first, growth_marks}
use Rattle.atl_upkeep.proofs.season.add_births_and_income.Goals as goal

pub book-requires-clause-fits : goal.book-requires-clause-fits
book-requires-clause-fits c =
    let same : to_z w64 (of_z w64 c.from.result) ≡ c.from.result = search (rules, to_z-of_z) in
    let before = c.args.campaign.now.value in
    rw (same, c.from.ensures, c.set_region_money.ensures.what, c.set_peasants.ensures.what)
    (booking_fits (amount_in before.books Births People) (pos c.args.born) most_amount (within-pos c.args.born most_amount (omega (arith, c.requires.peasants))) (c.requires.room Births People))

pub book-requires-2-clause-fits : goal.book-requires-2-clause-fits
book-requires-2-clause-fits c =
    let one : to_z w64 (of_z w64 c.from.result) ≡ c.from.result = search (rules, to_z-of_z) in
    let same : to_z w64 (of_z w64 c.from-2.result) ≡ c.from-2.result = search (rules, to_z-of_z) in
    let books = c.args.campaign.now.value.books in
    rw (same, c.from-2.ensures, c.book.ensures.what, one, c.from.ensures, c.set_region_money.ensures.what, c.set_peasants.ensures.what)
    (booking_fits _ (pos c.args.earned) most_amount (within-pos c.args.earned most_amount (omega (arith, c.requires.money)))
    (booked-room books Births People (pos c.args.born) most_amount (within-pos c.args.born most_amount (omega (arith, c.requires.peasants))) (moves_only most_amount Income Money) (births_first c.args.campaign.now.value c.requires.room) Income Money))

pub returns-clause-marks : goal.returns-clause-marks
returns-clause-marks c =
    let one : to_z w64 (of_z w64 c.from.result) ≡ pos c.args.born = search (rules, c.from.ensures) in
    let second : to_z w64 (of_z w64 c.from-2.result) ≡ pos c.args.earned = search (rules, c.from-2.ensures) in
    growth_marks c.args.campaign.now c.set_peasants.new.self c.set_region_money.new.self c.book.new.self c.book-2.new.self c.args.number (c.args.peasants + c.args.born) (c.args.money + c.args.earned) c.args.born c.args.earned
    c.set_peasants.ensures.what c.set_peasants.ensures.marks c.set_region_money.ensures.what c.set_region_money.ensures.marks
    (rw one at c.book.ensures.what) c.book.ensures.marks (rw second at c.book-2.ensures.what) c.book-2.ensures.marks
