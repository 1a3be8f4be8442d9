use Rattle.std.proofs.Common.{◌-◌}
use Rattle.std.specs.Prelude.{neg_ℤ, pos}
use Rattle.atl_records.specs.declared.books.BooksEntry.TheVariants.{Lost}
use Rattle.atl_records.specs.declared.books.Thing.TheVariants.{Money}
use Rattle.atl_campaign.proofs.CoverLaws.{marks-refl}
use Rattle.atl_phase.proofs.ChangeLaws.{money_changes}
use Rattle.atl_phase.proofs.MarkLaws.{booked_marks}
use Rattle.atl_upkeep.proofs.sweep.pass_money.Goals as goal

pub returns-in-Some-clause-marks : goal.returns-in-Some-clause-marks
returns-in-Some-clause-marks c =
    let old = c.args.campaign.now in
    let mid = c.set_money.new.self in
    booked_marks old mid c.book_taken.new.campaign Lost Money (neg_ℤ (pos (c.args.amount - c.accepted_of-taken.result)))
    (money_changes old mid c.args.to _ c.set_money.ensures.what c.set_money.ensures.marks).marks c.book_taken.ensures.what c.book_taken.ensures.marks

pub returns-in-None-clause-marks : goal.returns-in-None-clause-marks
returns-in-None-clause-marks c =
    booked_marks c.args.campaign.now c.args.campaign.now c.book_taken-in-None.new.campaign Lost Money (neg_ℤ (pos c.args.amount))
    (marks-refl c.args.campaign.now) c.book_taken-in-None.ensures.what c.book_taken-in-None.ensures.marks
