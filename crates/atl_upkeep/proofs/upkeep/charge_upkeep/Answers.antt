use Rattle.std.proofs.Common.{ap, sym, arith}
use Rattle.std.specs.Prelude.{neg_ℤ, pos}
use Rattle.atl_world.specs.Limits.{most_amount}
use Rattle.atl_records.specs.Books.{after_booking, amount_in}
use Rattle.atl_records.specs.declared.books.BooksEntry.TheVariants.{Starved, Upkeep}
use Rattle.atl_records.specs.declared.books.Thing.TheVariants.{Money, People}
use Rattle.atl_campaign.specs.Campaign.{CampaignValue}
use Rattle.atl_phase.specs.Meaning.{moves_only}
use Rattle.atl_phase.proofs.BookingLaws.{booked-room, within-neg}
use Rattle.atl_phase.proofs.MarkLaws.{booked_marks}
use Rattle.atl_phase.proofs.MeaningLaws.{amount_room_for_less}
use Rattle.atl_upkeep.proofs.UpkeepLaws.{few_paid, few_starved, upkeep_at_is}
use Rattle.atl_upkeep.proofs.upkeep.charge_upkeep.Goals as goal

pub book_taken-requires : goal.book_taken-requires
book_taken-requires c =
    let (w, can) = c.requires in
    let s = c.args.upkeep_result.now in
    let before = c.args.campaign.now.value in
    let u = can.unit in
    let what = c.in_ok-take_upkeep.ensures.what u can.there in
    let few = few_paid w before s u can.there can.spare can.steady in
    record {
      there = rw (ap (λ (s : CampaignValue). s.books) what) (omega (arith, can.steady.numbers.books.count));
      room = rw (ap (λ (s : CampaignValue). s.books) what) (amount_room_for_less s.paid most_amount (amount_in before.books Upkeep Money) few (can.room Upkeep Money));
    }

pub book_taken-requires-2 : goal.book_taken-requires-2
book_taken-requires-2 c =
    let (w, can) = c.requires in
    let s = c.args.upkeep_result.now in
    let before = c.args.campaign.now.value in
    let paid = few_paid w before s can.unit can.there can.spare can.steady in
    let starved = few_starved w before s can.unit can.there can.spare can.steady in
    let after = after_booking before.books Upkeep Money (neg_ℤ (pos s.paid)) in
    let booked = ap (λ (s : CampaignValue). s.books) c.book_taken.ensures.what in
    let fed = ap (λ (s : CampaignValue). s.books) (c.in_ok-take_upkeep.ensures.what can.unit can.there) in
    record {
      there = rw (booked, fed) (omega (arith, can.steady.numbers.books.count));
      room =
          rw (booked, fed)
          (amount_room_for_less s.starved most_amount (amount_in after Starved People) starved
          (booked-room before.books Upkeep Money (neg_ℤ (pos s.paid)) most_amount
          (within-neg s.paid most_amount paid) (moves_only most_amount Starved People) can.room Starved People));
    }

pub returns-clause-what : goal.returns-clause-what
returns-clause-what c =
    let (w, can) = c.requires in
    let what = c.in_ok-take_upkeep.ensures.what can.unit can.there in
    rw (c.book_taken-2.ensures.what, c.book_taken.ensures.what, what) (sym (upkeep_at_is c.args.campaign.now.value c.args.upkeep_result.now can.unit can.there))

pub returns-clause-marks : goal.returns-clause-marks
returns-clause-marks c =
    let old = c.args.campaign.now in
    let one = c.take_upkeep.new.campaign in
    let two = c.book_taken.new.campaign in
    let s = c.args.upkeep_result.now in
    booked_marks old two c.book_taken-2.new.campaign Starved People (neg_ℤ (pos s.starved))
    (booked_marks old one two Upkeep Money (neg_ℤ (pos s.paid)) c.in_ok-take_upkeep.ensures.marks c.book_taken.ensures.what c.book_taken.ensures.marks)
    c.book_taken-2.ensures.what c.book_taken-2.ensures.marks
