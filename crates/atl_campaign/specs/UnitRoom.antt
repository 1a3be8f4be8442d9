-- For proofs alone: the invariant of `Units`, which holds the units with their marks. Goods are items and days.
use Rattle.std.specs.Ordering.{nat_cmp}
use Rattle.std.specs.FinMap.{FinMap}
use Rattle.atl_world.specs.RoomySets.{RoomySet, HasRoomForMarks}
use Rattle.atl_records.specs.declared.records.Unit.{Unit}
use Rattle.atl_campaign.specs.Marks.{MarkedThings, AreUnitPartsWithin}

-- A unit is in `marks` if its row is marked (in `rows`), or all its items and days are (in `goods`), or it is in
-- `items` or `skills`, which have single ones. There is room to mark each unit, its row and its goods.
pub record AreUnits (units : FinMap nat_cmp Unit) (marks rows goods : RoomySet) (items skills : MarkedThings) : Type 0 where
  pub within : AreUnitPartsWithin marks.numbers rows.numbers goods.numbers items skills
  pub marks_fit : HasRoomForMarks units marks
  pub rows_fit : HasRoomForMarks units rows
  pub goods_fit : HasRoomForMarks units goods
