use Rattle.std.proofs.Common.{sym, ap, ◌∙◌, ◌-◌, arith}
use Rattle.std.specs.Prelude.{neg_ℤ, pos}
use Rattle.atl_campaign.specs.Campaign.{CampaignValue, with_booking, with_item}
use Rattle.atl_records.specs.declared.books.BooksEntry.TheVariants.{Used}
use Rattle.atl_records.specs.declared.books.Thing.TheVariants.{Item}
use Rattle.atl_phase.proofs.ChangeLaws.{item_changes}
use Rattle.atl_phase.proofs.MarkLaws.{booked_marks}
use Rattle.atl_market.proofs.ThereLaws.{unit_there}
use Rattle.atl_market.proofs.goods.use_item.Goals as goal

pub book_taken-requires-clause-there : goal.book_taken-requires-clause-there
book_taken-requires-clause-there c =
    let can = c.requires.can in
    rw (ap (λ (d : CampaignValue). d.books) c.in_ok-set_item.ensures.ok) (omega (arith, can.steady.numbers.books.count, can.known))

pub book_taken-requires-clause-room : goal.book_taken-requires-clause-room
book_taken-requires-clause-room c =
    rw (ap (λ (d : CampaignValue). d.books) c.in_ok-set_item.ensures.ok) c.requires.can.room

pub returns-clause-what : goal.returns-clause-what
returns-clause-what c =
    let can = c.requires.can in
    let old = c.args.campaign.now.value in
    let n = c.args.number in
    c.book_taken.ensures.what
    ∙ ap (λ (d : CampaignValue). with_booking d Used (Item c.args.item) (neg_ℤ (pos c.args.amount)))
    (c.in_ok-set_item.ensures.ok ∙ ap (λ i. with_item old n i (c.held_of.result - c.args.amount)) c.from.ensures ∙ ap (λ a. with_item old n c.args.item (a - c.args.amount)) (c.held_of.ensures can.unit can.there))
    ∙ sym (unit_there old n _ can.unit can.there)

pub returns-clause-marks : goal.returns-clause-marks
returns-clause-marks c =
    let can = c.requires.can in
    let set = item_changes c.args.campaign.now c.set_item.new.self c.args.number c.from.result (c.held_of.result - c.args.amount) c.in_ok-set_item.ensures.ok c.in_ok-set_item.ensures.marks in
    booked_marks c.args.campaign.now c.set_item.new.self c.book_taken.new.campaign Used (Item c.args.item) (neg_ℤ (pos c.args.amount)) set.marks
    c.book_taken.ensures.what c.book_taken.ensures.marks
