use Rattle.std.proofs.Common.{◌≡◌, ◌+◌, ℕ, drop, get_or}
use Rattle.atl_records.specs.declared.books.Thing.TheVariants.{Item}
use Rattle.atl_campaign.proofs.CoverLaws.{marks-trans}
use Rattle.atl_phase.proofs.FoldLaws.{fold_after_step}
use Rattle.atl_phase.specs.Bounds.{items_bound}
use Rattle.atl_instant.specs.Quit.{with_item_loss}
use Rattle.atl_instant.proofs.QuitLaws.{marks-loss, known_ahead, room_for_item, room_after_loss, room_for_item_and_later}
use Rattle.atl_instant.proofs.quit.book_items.Goals as goal

pub book_loss-requires-clause-room : goal.book_loss-requires-clause-room
book_loss-requires-clause-room c =
    room_for_item c.args.items.now c.loop-item.item-index c.loop-item.campaign.value c.loop-item-test.true
    c.loop-item.invariant.room

pub loop-item-preserved : goal.loop-item-preserved
loop-item-preserved c =
    let w = c.args.world.now in
    let list = c.args.items.now in
    let i = c.loop-item.item-index in
    let x : ℕ × ℕ = get_or list i (0, 0) in
    let before = c.loop-item.campaign.value in
    let old = c.loop-item.invariant in
    let known = known_ahead w list i c.loop-item-test.true old.known in
    let is : c.book_loss.new.campaign.value ≡ with_item_loss before x = c.book_loss.ensures.what in
    record {
      rest = fold_after_step with_item_loss list i (0, 0) before c.loop-item-test.true is old.rest;
      things = rw is old.things;
      known = known.1;
      room =
          rw is (room_after_loss (Item x.0) x.1 (items_bound (drop (i + 1) list)) before
          (room_for_item_and_later list i before c.loop-item-test.true old.room));
      marks = marks-trans c.args.campaign.now c.loop-item.campaign c.book_loss.new.campaign old.marks
          (marks-loss c.loop-item.campaign c.book_loss.new.campaign (Item x.0) x.1 c.book_loss.ensures.what c.book_loss.ensures.marks);
    }
