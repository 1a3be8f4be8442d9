use Rattle.std.proofs.Common.{◌≡◌, ap, ◌∙◌, refl, arith, pos, ◌+ℤ◌, to_z, w64}
use Rattle.std.proofs.lemmas.Int.{to_z_pos}
use Rattle.atl_records.specs.declared.books.BooksEntry.TheVariants.{Founding}
use Rattle.atl_records.specs.declared.books.Thing.TheVariants.{Money, People}
use Rattle.atl_records.specs.Books.{amount_in}
use Rattle.atl_records.proofs.BookLaws.{amount-no_amounts, other_amount}
use Rattle.atl_campaign.proofs.FitLaws.{first_fits}
use Rattle.atl_campaign.proofs.campaign.founding.founding_books.Goals as goal

-- founding_books may book the money: all money of the regions fits 64 bits, and nothing is booked yet
pub book-requires-clause-fits : goal.book-requires-clause-fits
book-requires-clause-fits c =
    let money = c.regions_total-money.result in
    let none : amount_in c.in_ok-books.books Founding Money ≡ pos 0 = ap (λ b. amount_in b Founding Money) c.in_ok-books.ensures ∙ amount-no_amounts c.args.things Founding Money in
    let read : to_z w64 money ≡ pos money = to_z_pos w64 money (omega (arith, c.regions_total-money.ensures.fits, c.requires.few)) in
    rw (none, read) (first_fits money (omega (arith, c.regions_total-money.ensures.fits, c.requires.few)))

pub book-requires-2-clause-fits : goal.book-requires-2-clause-fits
book-requires-2-clause-fits c =
    let people = c.regions_total-people.result in
    let books = c.in_ok-books.books in
    let none : amount_in c.book.new.self Founding People ≡ pos 0 =
    ap (λ b. amount_in b Founding People) c.book.ensures
    ∙ other_amount books Founding Money (amount_in books Founding Money +ℤ to_z w64 c.regions_total-money.result) Founding People refl
    ∙ ap (λ b. amount_in b Founding People) c.in_ok-books.ensures ∙ amount-no_amounts c.args.things Founding People in
    let read : to_z w64 people ≡ pos people = to_z_pos w64 people (omega (arith, c.regions_total-people.ensures.fits, c.requires.few)) in
    rw (none, read) (first_fits people (omega (arith, c.regions_total-people.ensures.fits, c.requires.few)))
