-- Pots of items: the units of a region that ask for the same item share what the region has of it.
-- See docs/RULES.md, "Pots".
use Rattle.std.specs.Prelude.{ℕ, Option, Some, None, option_map}
use Rattle.std.specs.List.{filter_map}
use Rattle.std.specs.Ordering.{nat_cmp}
use Rattle.std.specs.FinMap.{FinMap, entries, from_entries}
use Rattle.atl_campaign.specs.Campaign.{CampaignValue}
use Rattle.atl_pots.specs.Pots.{share_of, wants_for}

-- `asked_item` gives, by a unit's number, the number of the item that it asks for, if any. `pot_of` gives how much of
-- an item a region has to share. `wants` has how much each unit wants of its item, by unit.
module _ (asked_item : ℕ → Option ℕ) (pot_of : (item region : ℕ) → ℕ) (wants : FinMap nat_cmp ℕ) (c : CampaignValue) where
  -- the share that a unit, by its number, gets of what its region has of an item; None where no item is given, or the
  -- unit doesn't ask for this item, has no want, or is in no region of the campaign
  abbrev pub share_for : ℕ → Option ℕ → Option ℕ
  share_for number None = None
  share_for number (Some item) = share_of (pot_of item) (wants_for asked_item wants item) c number

  -- a unit's share, by its number, of the item that it asks for; None where it asks for none, or has no share
  abbrev pub item_share : ℕ → Option ℕ
  item_share number = share_for number (asked_item number)

  -- a map, by unit, of the shares of all units that have a want and get a share
  abbrev pub item_shares : FinMap nat_cmp ℕ
  item_shares = from_entries (filter_map (λ e. option_map (λ share. (e.0, share)) (item_share e.0)) (entries wants))
