use Rattle.std.proofs.Common.{◌≡◌, ◌++◌}
use Rattle.atl_world.specs.Worlds.{is_land}
use Rattle.atl_world.specs.Sums.{numbers_among, numbers_where}
use Rattle.atl_tables.proofs.reading.land_numbers.Given as goal

-- the numbers so far, followed by those of land among the regions still to come, are the numbers of all regions of land
abbrev pub invariant-loop-number : goal.invariant-loop-number
invariant-loop-number l =
    l.numbers ++ numbers_among (is_land l.terrains) l.number-iterator ≡ numbers_where (is_land l.terrains) l.regions
