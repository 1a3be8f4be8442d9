-- For proofs alone: the lists of units that a campaign keeps (`AreUnitLists`), and room for marks of the books.
use Rattle.std.specs.Prelude.{◌≤◌, ◌*◌, ℕ}
use Rattle.std.specs.Ordering.{nat_cmp}
use Rattle.std.specs.FinMap.{FinMap}
use Rattle.atl_world.specs.RoomySets.{RoomySet}
use Rattle.atl_records.specs.Limits.{entry_count}
use Rattle.atl_records.specs.declared.records.Unit.{Unit}
use Rattle.atl_lists.specs.declared.lists.UnitLists.{UnitLists}
use Rattle.atl_lists.specs.Lists.{AreUnitLists}
use Rattle.atl_campaign.specs.Marks.{AreOfThings}

-- only amounts of the books for the first `things` things are marked, and the dirty set has room for all of these
pub record MarksAmounts (things : ℕ) (marks : RoomySet) : Type 0 where
  pub room : entry_count * things ≤ marks.room
  pub numbers : AreOfThings things marks.numbers

-- The invariant of a `Campaign`: its lists are those of its units. Its dirty set of the books (`marks`) has only
-- amounts of the first `things` things, with room for all of these.
pub record AreListsAndMarksKept (units : FinMap nat_cmp Unit) (lists : UnitLists) (things : ℕ) (marks : RoomySet) : Type 0 where
  pub unit_lists : AreUnitLists units lists
  pub amounts : MarksAmounts things marks
