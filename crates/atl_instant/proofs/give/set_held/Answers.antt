use Rattle.std.proofs.Common.{sym}
use Rattle.atl_phase.proofs.ChangeLaws.{item_changes, money_changes}
use Rattle.atl_phase.proofs.MarkLaws.{on_ok_both}
use Rattle.atl_instant.proofs.give.set_held.Goals as goal

pub returns-in-Money : goal.returns-in-Money
returns-in-Money c =
    rw c.in-Money.is
    (money_changes c.args.campaign.now c.set_money.new.self c.args.number c.args.amount c.set_money.ensures.what c.set_money.ensures.marks)

pub returns-in-Item : goal.returns-in-Item
returns-in-Item c =
    rw (c.in-Item.is, sym c.from.ensures)
    (on_ok_both c.set_item.result (item_changes c.args.campaign.now c.set_item.new.self c.args.number c.from.result c.args.amount) c.set_item.ensures.ok c.set_item.ensures.marks)
