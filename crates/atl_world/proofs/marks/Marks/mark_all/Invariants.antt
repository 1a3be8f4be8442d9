use Rattle.std.proofs.Common.{◌≡◌, map}
use Rattle.std.specs.FinSet as set
use Rattle.atl_world.specs.RoomySets.{valued_or_marked}
use Rattle.atl_world.proofs.marks.Marks.mark_all.Given as goal

-- the marks so far, together with the numbers still to come, are the old marks and all numbers of the map; the room
-- stays the same
abbrev pub invariant-loop-number : goal.invariant-loop-number
invariant-loop-number g l = record {
  all : set.union l.self.numbers (set.from_list (map (λ e. e.0) l.number-iterator))
      ≡ valued_or_marked l.values l.fn.self.numbers;
  room : l.self.room ≡ l.fn.self.room;
}
