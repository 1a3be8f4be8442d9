use Rattle.std.proofs.Common.{◌≡◌, drop, take}
use Rattle.std.specs.List.{All}
use Rattle.atl_tables.specs.Each.{conditions_on_each}
use Rattle.atl_tables.specs.Faults.{first_fault}
use Rattle.atl_tables.specs.Neighbours.{neighbours_at}
use Rattle.atl_world.specs.Worlds.{HasMutualNeighbours}
use Rattle.atl_tables.proofs.neighbours.mutual_neighbours.Given as goal

-- the first fault of the regions not checked yet is that of all regions, and each region checked so far is on the
-- opposite side of each of its neighbours
abbrev pub invariant-loop-i : goal.invariant-loop-i
invariant-loop-i l = record {
  faults : first_fault (conditions_on_each (neighbours_at l.regions) l.i (drop l.i l.drafts))
      ≡ first_fault (conditions_on_each (neighbours_at l.regions) 0 l.drafts);
  back : All (λ d. HasMutualNeighbours l.regions d.basics.number d.sides.north d.sides.south d.sides.east d.sides.west) (take l.i l.drafts);
}
