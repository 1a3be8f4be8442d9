use Rattle.std.proofs.Common.{ap, ◌∙◌, arith}
use Rattle.std.specs.Prelude.{neg_ℤ, pos}
use Rattle.atl_records.specs.declared.books.BooksEntry.TheVariants.{Study}
use Rattle.atl_records.specs.declared.books.Thing.TheVariants.{Money}
use Rattle.atl_campaign.specs.Campaign.{CampaignValue, with_booking}
use Rattle.atl_phase.proofs.ChangeLaws.{changed_held}
use Rattle.atl_phase.proofs.MarkLaws.{booked_marks}
use Rattle.atl_action.specs.Study.{with_study}
use Rattle.atl_action.proofs.StudyLaws.{cost_room}
use Rattle.atl_action.proofs.study.put_study.Goals as goal

pub book_taken-requires-clause-there : goal.book_taken-requires-clause-there
book_taken-requires-clause-there c =
    rw (ap (λ (d : CampaignValue). d.books) c.in_ok-pay_and_set_days.ensures.value) (omega (arith, c.requires.steady.numbers.books.count))

pub book_taken-requires-clause-room : goal.book_taken-requires-clause-room
book_taken-requires-clause-room c =
    let (u, is, payable) = c.requires.payable in
    rw (ap (λ (d : CampaignValue). d.books) c.in_ok-pay_and_set_days.ensures.value)
    (cost_room c.args.world.now c.args.campaign.now.value c.args.unit u c.args.skill c.args.cost c.args.days is c.requires.steady payable c.requires.room)

pub returns-clause-what : goal.returns-clause-what
returns-clause-what c = λ u is.
    c.book_taken.ensures.what
    ∙ ap (λ (d : CampaignValue). with_booking d Study Money (neg_ℤ (pos c.args.cost)))
    (changed_held (λ h. with_study h c.args.skill c.args.cost c.args.days) c.args.campaign.now.value c.pay_and_set_days.new.campaign.value c.args.unit c.in_ok-pay_and_set_days.ensures.value u is)

pub returns-clause-marks : goal.returns-clause-marks
returns-clause-marks c =
    let learned = c.in_ok-pay_and_set_days.ensures in
    booked_marks c.args.campaign.now c.pay_and_set_days.new.campaign c.book_taken.new.campaign Study Money (neg_ℤ (pos c.args.cost)) learned.marks
    c.book_taken.ensures.what c.book_taken.ensures.marks
