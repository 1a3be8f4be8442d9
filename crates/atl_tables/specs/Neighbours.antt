-- The condition that neighbours are mutual: each neighbour of a region exists, and has the region on its opposite side.
-- See docs/FORMATS.md, "The world file".
use Rattle.std.specs.Prelude.{ℕ, Bool, false, ◌==◌, List, [], ◌∷◌, codes, Option, Some, None, option_and_then, if◌then◌else◌}
use Rattle.std.specs.Ordering.{nat_cmp}
use Rattle.std.specs.FinMap.{FinMap, get}
use Rattle.atl_tables.specs.Faults.{Conditions}
use Rattle.atl_tables.specs.Keys.{path, element_path}
use Rattle.atl_world.specs.declared.direction.Direction.{Direction}
use Rattle.atl_world.specs.declared.direction.Direction.TheVariants.{North, South, East, West}
use Rattle.atl_tables.specs.declared.fault.WorldFault.{WorldFault}
use Rattle.atl_tables.specs.declared.fault.WorldFault.TheVariants.{BadNeighbour}
use Rattle.atl_tables.specs.declared.region_table.RegionDraft.{RegionDraft}
use Rattle.atl_world.specs.declared.world.RegionPlan.{RegionPlan}
use Rattle.atl_world.specs.Worlds.{neighbour_to}

-- whether an optional region number is given (Some) and equals n
abbrev pub equals_number : ℕ → Option ℕ → Bool
equals_number n None = false
equals_number n (Some m) = m == n

-- the fault BadNeighbour at the path p, if the region `number` has a neighbour (Some) that isn't among the `regions`,
-- or doesn't have this region on its side `opposite`; else None
abbrev pub neighbour_fault : List ℕ → FinMap nat_cmp RegionPlan → Direction → ℕ → Option ℕ → Option WorldFault
neighbour_fault p regions opposite number None = None
neighbour_fault p regions opposite number (Some m) =
    if equals_number number (option_and_then (neighbour_to opposite) (get regions m)) then None
    else Some (BadNeighbour p)

-- The conditions on the neighbour, if there is one, of the i-th region, d, in the north, south, east and west, in this
-- order. It is among the `regions`, and has this region on its opposite side; else BadNeighbour.
unfoldable pub neighbours_at : FinMap nat_cmp RegionPlan → ℕ → RegionDraft → Conditions
neighbours_at regions i d =
    neighbour_fault (path (element_path (codes "region") i) (codes "north")) regions South d.basics.number d.sides.north
    ∷ neighbour_fault (path (element_path (codes "region") i) (codes "south")) regions North d.basics.number d.sides.south
    ∷ neighbour_fault (path (element_path (codes "region") i) (codes "east")) regions West d.basics.number d.sides.east
    ∷ neighbour_fault (path (element_path (codes "region") i) (codes "west")) regions East d.basics.number d.sides.west
    ∷ []
