use Rattle.std.proofs.Common.{rules, ◌≡◌, sym, arith}
use Rattle.std.specs.FinMap.{entries}
use Rattle.atl_world.specs.Limits.{most_amount}
use Rattle.atl_records.specs.declared.books.BooksEntry.TheVariants.{Lost}
use Rattle.atl_records.specs.declared.books.Thing.TheVariants.{Money}
use Rattle.atl_records.specs.Books.{amount_in}
use Rattle.atl_campaign.proofs.CoverLaws.{marks-trans}
use Rattle.atl_campaign.proofs.LeavingLaws.{marks-without}
use Rattle.atl_phase.proofs.MeaningLaws.{amount_room_for_less}
use Rattle.atl_instant.proofs.QuitLaws.{known_held}
use Rattle.atl_upkeep.proofs.SweepLaws.{items_room, money_steady}
use Rattle.atl_upkeep.proofs.sweep.sweep_unit.Goals as goal

pub pass_money-requires-clause-room : goal.pass_money-requires-clause-room
pass_money-requires-clause-room c =
    amount_room_for_less c.money-money.result most_amount (amount_in c.args.campaign.now.value.books Lost Money)
    (omega (arith, c.money-money.ensures.value, c.money-money.ensures.fits)) (c.requires.room Lost Money)

pub pass_items-requires : goal.pass_items-requires
pass_items-requires c =
    let w = c.args.world.now in
    let before = c.args.campaign.now.value in
    let to = c.receiver_in-to.result in
    let u = c.in-Some.unit.now in
    let there = sym c.in-Some.ensures in
    let list : c.deref.result.now ≡ entries u.holding.items = search rules in
    let none : u.holding.men ≡ 0 = search rules in
    record {
      steady = rw c.pass_money.ensures.what (money_steady w before c.requires.steady to c.money-money.result);
      known = rw list (known_held w before c.args.number u there c.requires.steady);
      room = rw (list, c.pass_money.ensures.what, c.money-money.ensures.value) (items_room w before c.requires.steady c.args.number to u there none c.requires.room);
    }

pub returns-clause-marks : goal.returns-clause-marks
returns-clause-marks c =
    marks-trans c.args.campaign.now c.pass_money.new.campaign c.remove_unit.new.self c.pass_money.ensures.marks
    (marks-trans c.pass_money.new.campaign c.pass_items.new.campaign c.remove_unit.new.self c.in_ok-pass_items.ensures.marks
    (marks-without c.pass_items.new.campaign c.remove_unit.new.self c.args.number c.remove_unit.ensures.what c.remove_unit.ensures.marks))
