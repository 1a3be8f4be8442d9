use Rattle.std.proofs.Common.{◌≡◌, ◌≤◌, ◌+◌, ◌∙◌, sym, subst, arith, rules, pos, to_z, of_z, w64}
use Rattle.std.proofs.lemmas.Int.{to_z-of_z}
use Rattle.std.proofs.lemmas.Option.{same_Some}
use Rattle.atl_records.specs.Books.{amount_in}
use Rattle.atl_records.specs.Limits.{holding_limit}
use Rattle.atl_records.specs.declared.books.BooksEntry.TheVariants.{Wages}
use Rattle.atl_records.specs.declared.books.Thing.TheVariants.{Money}
use Rattle.atl_records.specs.declared.records.Unit.{Unit}
use Rattle.atl_phase.proofs.BookingLaws.{booking_fits, within-pos}
use Rattle.atl_phase.proofs.ChangeLaws.{money_changes}
use Rattle.atl_phase.proofs.MarkLaws.{booked_marks}
use Rattle.atl_market.specs.Work.{wages_for}
use Rattle.atl_market.proofs.work.WorkPhasePotPhase.pay.Goals as goal

pub book-requires-clause-fits : goal.book-requires-clause-fits
book-requires-clause-fits c =
    let can = c.requires.can in
    let money = c.wages_for-money.result in
    let unit = same_Some _ _ (sym can.there ∙ sym c.in-Some.ensures) in
    let room = subst (λ (u : Unit). u.holding.money + wages_for c.args.world.now u.region c.args.share ≤ holding_limit) unit can.fits in
    let same : to_z w64 (of_z w64 c.from.result) ≡ c.from.result = search (rules, to_z-of_z) in
    rw (same, c.from.ensures, c.set_money.ensures.what)
    (booking_fits (amount_in c.args.campaign.now.value.books Wages Money) (pos money) holding_limit (within-pos money holding_limit (omega (arith, room, c.wages_for-money.ensures))) (can.room Wages Money))

pub returns-clause-marks : goal.returns-clause-marks
returns-clause-marks c =
    let money = c.wages_for-money.result in
    let same : to_z w64 (of_z w64 c.from.result) ≡ pos money = search (rules, c.from.ensures) in
    let set = money_changes c.args.campaign.now c.set_money.new.self c.args.number (c.money-held.result + money) c.set_money.ensures.what c.set_money.ensures.marks in
    booked_marks c.args.campaign.now c.set_money.new.self c.book.new.self Wages Money (pos money) set.marks (rw same at c.book.ensures.what) c.book.ensures.marks
