use Rattle.std.proofs.Common.{◌≡◌, ◌<◌, length, drop}
use Rattle.std.specs.Prelude.{fold}
use Rattle.atl_campaign.specs.Covers.{MarksChanges}
use Rattle.atl_world.specs.Every.{EachEntry}
use Rattle.atl_campaign.specs.Founding.{thing_count}
use Rattle.atl_phase.specs.Bounds.{HaveRoom, items_bound}
use Rattle.atl_instant.specs.Quit.{with_item_loss}
use Rattle.atl_instant.proofs.quit.book_items.Given as goal

-- Booking the items still to come gives what booking all of them gives. These items and the things of the books are of
-- the world, the books have room for the items, and all changes are marked.
abbrev pub invariant-loop-item : goal.invariant-loop-item
invariant-loop-item l = record {
  rest : fold with_item_loss l.campaign.value (drop l.item-index l.items)
      ≡ fold with_item_loss l.initial.campaign.value l.items;
  things : l.campaign.value.books.things ≡ thing_count l.world;
  known : EachEntry (λ i amount. i < length l.world.items) (drop l.item-index l.items);
  room : HaveRoom (items_bound (drop l.item-index l.items)) l.campaign.value;
  marks : MarksChanges l.initial.campaign l.campaign;
}
