use Rattle.std.proofs.Common.{rules, ◌≡◌, sym}
use Rattle.std.specs.FinMap.{entries}
use Rattle.atl_campaign.proofs.CoverLaws.{marks-trans}
use Rattle.atl_campaign.proofs.LeavingLaws.{marks-without}
use Rattle.atl_instant.proofs.QuitLaws.{held_room, known_held}
use Rattle.atl_instant.proofs.quit.leave.Goals as goal

pub book_off-requires : goal.book_off-requires
book_off-requires c =
    let before = c.args.campaign.now.value in
    let u = c.in-Some.unit.now in
    let there = sym c.in-Some.ensures in
    let list : c.deref.result.now ≡ entries u.holding.items = search rules in
    record {
      things = c.requires.steady.numbers.books.count;
      known = rw list (known_held c.args.world.now before c.args.number u there c.requires.steady);
      room = rw (list, c.men-men.ensures.value, c.money-money.ensures.value) (held_room before c.args.number u there c.requires.room);
    }

pub returns-clause-marks : goal.returns-clause-marks
returns-clause-marks c =
    marks-trans c.args.campaign.now c.book_off.new.campaign c.remove_unit.new.self c.book_off.ensures.marks
    (marks-without c.book_off.new.campaign c.remove_unit.new.self c.args.number c.remove_unit.ensures.what c.remove_unit.ensures.marks)
