use Rattle.std.proofs.Common.{◌≡◌, ℕ, sym, ap, ◌∙◌, rules, arith, to_z, of_z, w64}
use Rattle.std.proofs.lemmas.Int.{to_z-of_z}
use Rattle.atl_records.specs.Books.{amount_in}
use Rattle.atl_records.specs.Holdings.{with_amount_of}
use Rattle.atl_campaign.specs.Lending.{with_holding}
use Rattle.atl_records.specs.Limits.{holding_limit}
use Rattle.atl_campaign.specs.Campaign.{MarkedCampaign, with_booking, with_item, with_money, with_stock}
use Rattle.atl_campaign.specs.Marking.{mark_item, mark_unit_row}
use Rattle.atl_records.specs.declared.books.Thing.TheVariants.{Money}
use Rattle.atl_phase.proofs.BookingLaws.{booking_fits}
use Rattle.atl_phase.proofs.ChangeLaws.{item_changes, money_changes, then_changes}
use Rattle.atl_phase.proofs.MarkLaws.{booked_marks}
use Rattle.atl_phase.specs.Holdings.{ChangesHolding}
use Rattle.atl_market.specs.Trade.{with_trade_result}
use Rattle.atl_market.specs.declared.trade.TradeResult.{TradeResult}
use Rattle.atl_market.proofs.TradeLaws.{traded_books, traded_marks, traded_what}
use Rattle.atl_market.proofs.trade.book_trade.Goals as goal

goods_set : (a b c : MarkedCampaign) (n item : ℕ) (d : TradeResult) → b.value ≡ with_money a.value n d.money
    → b.marks ≡ mark_unit_row a n
    → c.value ≡ with_item b.value n item d.amount → c.marks ≡ mark_item b n item d.amount
    → ChangesHolding a c n (λ h. with_trade_result h item d)
goods_set a b c n item d b_is b_marks c_is c_marks =
    then_changes a b c n (λ h. record h { money = d.money }) (λ h. record h { items = with_amount_of h.items item d.amount })
    (money_changes a b n d.money b_is b_marks) (item_changes b c n item d.amount c_is c_marks)

pub book-requires-clause-there : goal.book-requires-clause-there
book-requires-clause-there c =
    let can = c.requires in
    let set = goods_set c.args.campaign.now c.set_money.new.self c.set_item.new.self c.args.number c.args.item c.args.deal c.set_money.ensures.what c.set_money.ensures.marks c.in_ok-set_item.ensures.ok c.in_ok-set_item.ensures.marks in
    let books = traded_books c.args.campaign.now c.set_item.new.self c.set_stock.new.self c.args.number c.args.region c.args.item c.args.deal.stock _ set c.in_ok-set_stock.ensures.ok in
    rw books (omega (arith, can.things))

pub book-requires-clause-fits : goal.book-requires-clause-fits
book-requires-clause-fits c =
    let can = c.requires in
    let set = goods_set c.args.campaign.now c.set_money.new.self c.set_item.new.self c.args.number c.args.item c.args.deal c.set_money.ensures.what c.set_money.ensures.marks c.in_ok-set_item.ensures.ok c.in_ok-set_item.ensures.marks in
    let books = traded_books c.args.campaign.now c.set_item.new.self c.set_stock.new.self c.args.number c.args.region c.args.item c.args.deal.stock _ set c.in_ok-set_stock.ensures.ok in
    let same : to_z w64 (of_z w64 c.args.deal.booked) ≡ c.args.deal.booked = search (rules, to_z-of_z) in
    rw (same, books) (booking_fits (amount_in c.args.campaign.now.value.books c.args.entry Money) c.args.deal.booked holding_limit can.small can.room)

pub returns-clause-what : goal.returns-clause-what
returns-clause-what c = λ u is at.
    let deal = c.args.deal in
    let set = goods_set c.args.campaign.now c.set_money.new.self c.set_item.new.self c.args.number c.args.item c.args.deal c.set_money.ensures.what c.set_money.ensures.marks c.in_ok-set_item.ensures.ok c.in_ok-set_item.ensures.marks in
    let same : to_z w64 (of_z w64 deal.booked) ≡ deal.booked = search (rules, to_z-of_z) in
    (rw same at c.book.ensures.what)
    ∙ ap (λ d. with_booking d c.args.entry Money deal.booked)
    (traded_what c.args.campaign.now c.set_item.new.self c.set_stock.new.self c.args.number c.args.region c.args.item deal.stock (λ h. with_trade_result h c.args.item deal) set c.in_ok-set_stock.ensures.ok u is
    ∙ sym (ap (λ r. with_stock (with_holding c.args.campaign.now.value c.args.number (with_trade_result u.holding c.args.item deal)) r c.args.item deal.stock) at))

pub returns-clause-marks : goal.returns-clause-marks
returns-clause-marks c =
    let old = c.args.campaign.now in
    let set = goods_set c.args.campaign.now c.set_money.new.self c.set_item.new.self c.args.number c.args.item c.args.deal c.set_money.ensures.what c.set_money.ensures.marks c.in_ok-set_item.ensures.ok c.in_ok-set_item.ensures.marks in
    let mid = c.set_stock.new.self in
    let same : to_z w64 (of_z w64 c.args.deal.booked) ≡ c.args.deal.booked = search (rules, to_z-of_z) in
    let books = traded_books old c.set_item.new.self mid c.args.number c.args.region c.args.item c.args.deal.stock _ set c.in_ok-set_stock.ensures.ok in
    booked_marks old mid c.book.new.self c.args.entry Money c.args.deal.booked
    (traded_marks old c.set_item.new.self mid c.args.number c.args.region c.args.item c.args.deal.stock _ set c.in_ok-set_stock.ensures.ok c.set_stock.ensures.marks)
    (rw same at c.book.ensures.what) c.book.ensures.marks
