use Rattle.std.proofs.Common.{◌≡◌, sym, ap, subst, ◌∙◌, refl, arith, pos, ◌+ℤ◌, FitsSigned, to_z, of_z, w64}
use Rattle.atl_records.specs.declared.books.BooksEntry.TheVariants.{Joining}
use Rattle.atl_records.specs.declared.books.Thing.TheVariants.{Money, People}
use Rattle.atl_records.specs.Books.{amount_in}
use Rattle.atl_records.proofs.BookLaws.{other_amount}
use Rattle.atl_campaign.proofs.FitLaws.{more_fits}
use Rattle.atl_campaign.proofs.campaign.joining.book_joining.Goals as goal

pub book-requires-2-clause-fits : goal.book-requires-2-clause-fits
book-requires-2-clause-fits c =
    let old = c.args.books.now in
    let more = to_z w64 (of_z w64 c.from.result) in
    let same : amount_in c.book.new.self Joining People ≡ amount_in old Joining People =
    ap (λ b. amount_in b Joining People) c.book.ensures ∙ other_amount old Joining Money (amount_in old Joining Money +ℤ more) Joining People refl in
    subst (λ z. FitsSigned w64 (z +ℤ pos 1)) (sym same) (more_fits (amount_in old Joining People) 1 c.requires.people (omega arith))
