use Rattle.atl_records.specs.declared.books.BooksEntry.TheVariants.{Lost}
use Rattle.atl_records.specs.declared.books.Thing.TheVariants.{Money, People}
use Rattle.atl_campaign.proofs.CoverLaws.{marks-trans}
use Rattle.atl_phase.specs.Meaning.{both_move, moves_only}
use Rattle.atl_phase.specs.Bounds.{items_bound}
use Rattle.atl_instant.specs.Quit.{with_loss}
use Rattle.atl_instant.proofs.QuitLaws.{room_for_loss, marks-loss, room_after_loss}
use Rattle.atl_instant.proofs.quit.book_off.Goals as goal

pub book_loss-requires-clause-room : goal.book_loss-requires-clause-room
book_loss-requires-clause-room c =
    room_for_loss People c.args.men (both_move (moves_only c.args.money Lost Money) (items_bound c.args.items.now)) c.args.campaign.now.value c.requires.room

pub book_loss-requires-2-clause-room : goal.book_loss-requires-2-clause-room
book_loss-requires-2-clause-room c =
    let before = c.args.campaign.now.value in
    let rest = both_move (moves_only c.args.money Lost Money) (items_bound c.args.items.now) in
    rw c.book_loss.ensures.what (room_for_loss Money c.args.money (items_bound c.args.items.now) (with_loss before People c.args.men) (room_after_loss People c.args.men rest before c.requires.room))

pub book_items-requires-clause-room : goal.book_items-requires-clause-room
book_items-requires-clause-room c =
    let before = c.args.campaign.now.value in
    let rest = both_move (moves_only c.args.money Lost Money) (items_bound c.args.items.now) in
    let between = with_loss before People c.args.men in
    rw (c.book_loss-2.ensures.what, c.book_loss.ensures.what)
    (room_after_loss Money c.args.money (items_bound c.args.items.now) between
    (room_after_loss People c.args.men rest before c.requires.room))

pub returns-clause-marks : goal.returns-clause-marks
returns-clause-marks c =
    let one = c.book_loss.new.campaign in
    let two = c.book_loss-2.new.campaign in
    marks-trans c.args.campaign.now one c.book_items.new.campaign
    (marks-loss c.args.campaign.now one People c.args.men c.book_loss.ensures.what c.book_loss.ensures.marks)
    (marks-trans one two c.book_items.new.campaign
    (marks-loss one two Money c.args.money c.book_loss-2.ensures.what c.book_loss-2.ensures.marks)
    c.book_items.ensures.marks)
