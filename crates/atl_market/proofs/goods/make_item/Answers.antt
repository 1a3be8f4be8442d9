use Rattle.std.proofs.Common.{◌≡◌, sym, ap, ◌∙◌, ◌+◌, arith, rules, pos, to_z, of_z, w64}
use Rattle.std.proofs.lemmas.Int.{to_z-of_z}
use Rattle.atl_records.specs.Books.{amount_in}
use Rattle.atl_campaign.specs.Campaign.{CampaignValue, with_booking, with_item}
use Rattle.atl_records.specs.declared.books.BooksEntry.TheVariants.{Made}
use Rattle.atl_records.specs.declared.books.Thing.TheVariants.{Item}
use Rattle.atl_phase.proofs.BookingLaws.{booking_fits, within-pos}
use Rattle.atl_phase.proofs.ChangeLaws.{item_changes}
use Rattle.atl_phase.proofs.MarkLaws.{booked_marks}
use Rattle.atl_market.proofs.ThereLaws.{unit_there}
use Rattle.atl_market.proofs.goods.make_item.Goals as goal

pub book-requires-clause-there : goal.book-requires-clause-there
book-requires-clause-there c =
    let can = c.requires.can in
    rw (ap (λ (d : CampaignValue). d.books) c.in_ok-set_item.ensures.ok) (omega (arith, can.steady.numbers.books.count, can.known))

pub book-requires-clause-fits : goal.book-requires-clause-fits
book-requires-clause-fits c =
    let same : to_z w64 (of_z w64 c.from-2.result) ≡ c.from-2.result = search (rules, to_z-of_z) in
    rw (same, c.from-2.ensures, ap (λ (d : CampaignValue). d.books) c.in_ok-set_item.ensures.ok)
    (booking_fits (amount_in c.args.campaign.now.value.books Made (Item c.args.item)) (pos c.args.amount) c.args.amount (within-pos c.args.amount c.args.amount (omega arith)) c.requires.can.room)

pub returns-clause-what : goal.returns-clause-what
returns-clause-what c =
    let can = c.requires.can in
    let old = c.args.campaign.now.value in
    let n = c.args.number in
    let same : to_z w64 (of_z w64 c.from-2.result) ≡ pos c.args.amount = search (rules, c.from-2.ensures) in
    (rw same at c.book.ensures.what)
    ∙ ap (λ (d : CampaignValue). with_booking d Made (Item c.args.item) (pos c.args.amount))
    (c.in_ok-set_item.ensures.ok ∙ ap (λ i. with_item old n i (c.held_of.result + c.args.amount)) c.from.ensures ∙ ap (λ a. with_item old n c.args.item (a + c.args.amount)) (c.held_of.ensures can.unit can.there))
    ∙ sym (unit_there old n _ can.unit can.there)

pub returns-clause-marks : goal.returns-clause-marks
returns-clause-marks c =
    let can = c.requires.can in
    let same : to_z w64 (of_z w64 c.from-2.result) ≡ pos c.args.amount = search (rules, c.from-2.ensures) in
    let set = item_changes c.args.campaign.now c.set_item.new.self c.args.number c.from.result (c.held_of.result + c.args.amount) c.in_ok-set_item.ensures.ok c.in_ok-set_item.ensures.marks in
    booked_marks c.args.campaign.now c.set_item.new.self c.book.new.self Made (Item c.args.item) (pos c.args.amount) set.marks
    (rw same at c.book.ensures.what) c.book.ensures.marks
