use Rattle.std.proofs.Common.{◌≡◌, ◌≤◌, ◌-◌, ◌*◌, ◌∙◌, ℕ, Some, sym, ap, arith, rules}
use Rattle.std.specs.Prelude.{neg_ℤ, pos}
use Rattle.std.specs.FinMap.{get}
use Rattle.atl_records.specs.declared.books.BooksEntry.TheVariants.{Recruiting}
use Rattle.atl_records.specs.declared.books.Thing.TheVariants.{Money}
use Rattle.atl_records.specs.Books.{amount_in}
use Rattle.atl_records.specs.Limits.{holding_limit}
use Rattle.atl_campaign.specs.Campaign.{CampaignValue, with_booking, with_peasants}
use Rattle.atl_campaign.specs.Lending.{with_holding_at}
use Rattle.atl_campaign.proofs.CoverLaws.{marks-peasants, marks-trans}
use Rattle.atl_phase.proofs.ChangeLaws.{changed_held, men_changes, money_changes, then_changes}
use Rattle.atl_phase.proofs.MarkLaws.{booked_marks, marks_by}
use Rattle.atl_phase.proofs.MeaningLaws.{amount_room_for_less}
use Rattle.atl_market.specs.Recruit.{with_paid_recruits}
use Rattle.atl_market.proofs.RecruitLaws.{recruited_is, with_recruits_booked}
use Rattle.atl_market.proofs.recruit.RecruitPhasePotPhase.pay.Goals as goal

pub book_taken-requires-clause-there : goal.book_taken-requires-clause-there
book_taken-requires-clause-there c =
    let books = ap (λ (d : CampaignValue). d.books) c.set_peasants.ensures.what ∙ ap (λ (d : CampaignValue). d.books) c.set_money.ensures.what ∙ ap (λ (d : CampaignValue). d.books) c.set_men.ensures.what in
    rw books (omega (arith, c.requires.can.early.steady.numbers.books.count))

pub book_taken-requires-clause-room : goal.book_taken-requires-clause-room
book_taken-requires-clause-room c =
    let can = c.requires.can in
    let books = ap (λ (d : CampaignValue). d.books) c.set_peasants.ensures.what ∙ ap (λ (d : CampaignValue). d.books) c.set_money.ensures.what ∙ ap (λ (d : CampaignValue). d.books) c.set_men.ensures.what in
    let cost = c.args.share * c.rules.result.now.recruit_price in
    let price : c.rules.result.now.recruit_price ≡ c.args.world.now.rules.recruit_price = search rules in
    let little : cost ≤ holding_limit = rw price (omega (arith, can.payable, (can.early.steady.numbers.units c.args.number can.at.unit can.at.there).1.money)) in
    rw books (amount_room_for_less cost holding_limit (amount_in c.args.campaign.now.value.books Recruiting Money) little (can.room Recruiting Money))

pub returns-clause-what : goal.returns-clause-what
returns-clause-what c =
    let old = c.args.campaign.now in
    let n = c.args.number in
    let u = c.in-Some.unit.now in
    let q = c.in-Some-region.found.now in
    let there : get old.value.units n ≡ Some u = sym c.in-Some.ensures in
    let around : get old.value.regions u.region ≡ Some q = sym c.in-Some-region.ensures in
    let cost = c.args.share * c.rules.result.now.recruit_price in
    let price : c.rules.result.now.recruit_price ≡ c.args.world.now.rules.recruit_price = search rules in
    let set = then_changes old c.set_men.new.self c.set_money.new.self n _ _ (men_changes old c.set_men.new.self n _ c.set_men.ensures.what c.set_men.ensures.marks) (money_changes c.set_men.new.self c.set_money.new.self n _ c.set_money.ensures.what c.set_money.ensures.marks) in
    let held : c.set_money.new.self.value ≡ with_holding_at old.value n (with_paid_recruits u.holding c.args.share cost) (Some u) =
    rw (← c.men.ensures.value, ← c.money.ensures.value) (changed_held _ old.value c.set_money.new.self.value n set.value u there) in
    c.book_taken.ensures.what
    ∙ ap (λ (d : CampaignValue). with_booking d Recruiting Money (neg_ℤ (pos cost))) (c.set_peasants.ensures.what ∙ ap (λ (d : CampaignValue). with_peasants d u.region (q.peasants - c.args.share)) held)
    ∙ ap (λ (p : ℕ). with_recruits_booked old.value n u q c.args.share (c.args.share * p)) price
    ∙ sym (recruited_is c.args.world.now old.value (n, c.args.share) u q there around)

pub returns-clause-marks : goal.returns-clause-marks
returns-clause-marks c =
    let old = c.args.campaign.now in
    let mid = c.set_money.new.self in
    let last = c.set_peasants.new.self in
    let n = c.args.number in
    let region = c.in-Some.unit.now.region in
    let left = c.in-Some-region.found.now.peasants - c.args.share in
    let set = then_changes old c.set_men.new.self mid n _ _ (men_changes old c.set_men.new.self n _ c.set_men.ensures.what c.set_men.ensures.marks) (money_changes c.set_men.new.self mid n _ c.set_money.ensures.what c.set_money.ensures.marks) in
    booked_marks old last c.book_taken.new.campaign Recruiting Money _
    (marks-trans old mid last set.marks (marks_by mid last _ c.set_peasants.ensures.what c.set_peasants.ensures.marks (marks-peasants mid region left)))
    c.book_taken.ensures.what c.book_taken.ensures.marks
