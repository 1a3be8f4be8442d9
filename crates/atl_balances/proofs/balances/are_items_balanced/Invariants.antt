use Rattle.std.proofs.Common.{◌≡◌, ◌<◌, ℕ, pos}
use Rattle.atl_records.specs.Books.{booked}
use Rattle.atl_campaign.specs.Totals.{total}
use Rattle.atl_records.specs.declared.books.Thing.TheVariants.{Item}
use Rattle.atl_balances.proofs.balances.are_items_balanced.Given as goal

-- the total of each item below `item`, the loop's number, equals the sum booked of it
abbrev pub invariant-loop-item : goal.invariant-loop-item
invariant-loop-item l =
    (i : ℕ) → i < l.item → pos (total l.campaign.value (Item i)) ≡ booked l.campaign.value.books (Item i)
