use Rattle.std.proofs.Common.{◌+◌, ◌-◌, sym, ap, arith}
use Rattle.std.specs.Prelude.{neg_ℤ, pos}
use Rattle.atl_records.specs.declared.books.BooksEntry.TheVariants.{Lost}
use Rattle.atl_records.specs.declared.books.Thing.TheVariants.{Item}
use Rattle.atl_records.specs.Books.{amount_in}
use Rattle.atl_campaign.specs.Campaign.{CampaignValue}
use Rattle.atl_campaign.proofs.CoverLaws.{marks-refl}
use Rattle.atl_phase.proofs.ChangeLaws.{item_changes}
use Rattle.atl_phase.proofs.MarkLaws.{booked_marks}
use Rattle.atl_phase.proofs.MeaningLaws.{amount_room_for_less}
use Rattle.atl_upkeep.proofs.SweepLaws.{passed_item_is}
use Rattle.atl_upkeep.proofs.sweep.pass_item.Goals as goal

pub book_taken-requires : goal.book_taken-requires
book_taken-requires c =
    let books = ap (λ (s : CampaignValue). s.books) c.in_ok-set_item-in-Some.ensures.ok in
    record {
      there = rw books (omega (arith, c.requires.steady.numbers.books.count, c.requires.known));
      room =
          rw books
          (amount_room_for_less (c.args.amount - c.accepted_of-taken.result) c.args.amount (amount_in c.args.campaign.now.value.books Lost (Item c.args.item))
          (omega arith) c.requires.room);
    }

pub returns-in_ok-set_item-in-Some : goal.returns-in_ok-set_item-in-Some
returns-in_ok-set_item-in-Some c =
    let u = c.in-Some.unit.now in
    let there = sym c.in-Some.ensures in
    let old = c.args.campaign.now in
    let mid = c.set_item.new.self in
    let have = c.amount-have.result + c.accepted_of-taken.result in
    let set = item_changes old mid c.args.to c.from-number.result have c.in_ok-set_item-in-Some.ensures.ok c.in_ok-set_item-in-Some.ensures.marks in
    record {
      what =
          rw (c.book_taken.ensures.what, c.in_ok-set_item-in-Some.ensures.ok, c.accepted_of-taken.ensures, c.amount-have.ensures, c.from-number.ensures)
          (passed_item_is old.value c.args.to c.args.item c.args.amount u there);
      marks =
          booked_marks old mid c.book_taken.new.campaign Lost (Item c.args.item) (neg_ℤ (pos (c.args.amount - c.accepted_of-taken.result))) set.marks
          c.book_taken.ensures.what c.book_taken.ensures.marks;
    }

pub returns-in-None-clause-marks : goal.returns-in-None-clause-marks
returns-in-None-clause-marks c =
    booked_marks c.args.campaign.now c.args.campaign.now c.book_taken-in-None.new.campaign Lost (Item c.args.item) (neg_ℤ (pos c.args.amount))
    (marks-refl c.args.campaign.now) c.book_taken-in-None.ensures.what c.book_taken-in-None.ensures.marks
