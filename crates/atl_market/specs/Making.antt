-- For proofs alone: when a unit can use and make items, and produce.
use Rattle.std.specs.Prelude.{◌≡◌, ◌≤◌, ◌<◌, ◌+◌, ◌*◌, ℕ, length, Some}
use Rattle.std.specs.List.{slice_get}
use Rattle.std.specs.Ordering.{nat_cmp}
use Rattle.std.specs.FinMap.{FinMap, get}
use Rattle.atl_world.specs.Worlds.{WorldValue}
use Rattle.atl_world.specs.declared.world.Item.{Item}
use Rattle.atl_records.specs.declared.books.BooksEntry.TheVariants.{Made, Used}
use Rattle.atl_records.specs.declared.books.Thing.TheVariants as things
use Rattle.atl_records.specs.declared.records.Unit.{Unit}
use Rattle.atl_records.specs.Books.{amount_in}
use Rattle.atl_campaign.specs.Good.{IsSteady}
use Rattle.atl_records.specs.Holdings.{amount_of}
use Rattle.atl_records.specs.Limits.{holding_limit}
use Rattle.atl_campaign.specs.Campaign.{CampaignValue}
use Rattle.atl_phase.specs.Bounds.{HasRoom, HaveRoom}
use Rattle.atl_market.specs.Produce.{produce_moves, with_raw_used}

-- Unit `n` can use up `amount` of item `i`, which is booked as used. It is there and holds enough, the world has the
-- item, the campaign is steady, and the books have room for the amount.
pub record CanUse (w : WorldValue) (c : CampaignValue) (n i amount : ℕ) : Type 0 where
  pub unit : Unit
  pub there : get c.units n ≡ Some unit
  pub known : i < length w.items
  pub enough : amount ≤ amount_of unit.holding.items i
  pub steady : IsSteady w c
  pub room : HasRoom amount (amount_in c.books Used (things.Item i))

-- Unit `n` can make `amount` of item `i`. It is there and has room for the amount, and so have the books. The world has
-- the item, and the campaign is steady.
pub record CanMake (w : WorldValue) (c : CampaignValue) (n i amount : ℕ) : Type 0 where
  pub unit : Unit
  pub there : get c.units n ≡ Some unit
  pub known : i < length w.items
  pub fits : amount_of unit.holding.items i + amount ≤ holding_limit
  pub steady : IsSteady w c
  pub room : HasRoom amount (amount_in c.books Made (things.Item i))

-- unit `n` can use the raw items for `made` pieces of the item `x`, which has the number `i`, and then make the pieces
pub record CanMakeOf (w : WorldValue) (c : CampaignValue) (n made i : ℕ) (x : Item) : Type 0 where
  -- the unit can use as much of the raw item, if one goes into the item, as the `made` pieces take
  pub use_raw : (r : ℕ) → x.raw ≡ Some r → CanUse w c n r (made * x.raw_count)
  -- the `made` pieces take at most 999,999,999 of the raw item, if there is one
  pub few_raw : (r : ℕ) → x.raw ≡ Some r → made * x.raw_count ≤ holding_limit
  -- after the raw item is used, the unit can make the `made` pieces
  pub make : CanMake w (with_raw_used c n (made * x.raw_count) x.raw) n i made

-- a unit has room for `made` pieces of the item `x`, which has the number `i` in the world, and the raw items for them
pub record HasRoomAndRaw (w : WorldValue) (u : Unit) (made i : ℕ) (x : Item) : Type 0 where
  pub known : i < length w.items
  pub fits : amount_of u.holding.items i + made ≤ holding_limit
  -- the raw item, if one goes into the item, is one of the world's items
  pub raw_known : (r : ℕ) → x.raw ≡ Some r → r < length w.items
  -- the unit holds as much of the raw item, if there is one, as the `made` pieces take
  pub raw : (r : ℕ) → x.raw ≡ Some r → made * x.raw_count ≤ amount_of u.holding.items r

-- The unit of a pair (unit, share) can make its share of the item that its order names, which `asked` has by unit. The
-- unit is there, and has room and raw items for the share, if the world has the item. The campaign is steady, and the
-- books have room for 999,999,999 of each item made, and as much used.
pub record CanProduce (asked : FinMap nat_cmp ℕ) (w : WorldValue) (c : CampaignValue) (e : ℕ × ℕ) : Type 0 where
  pub unit : Unit
  pub there : get c.units e.0 ≡ Some unit
  -- the unit has room and raw items for its share of the item that it asks for, if the world has this item
  pub fits : (i : ℕ) (x : Item) → get asked e.0 ≡ Some i → slice_get w.items i ≡ Some x → HasRoomAndRaw w unit e.1 i x
  pub steady : IsSteady w c
  -- the books have room for 999,999,999 of each item made, and as much of each used
  pub room : HaveRoom (produce_moves holding_limit) c
