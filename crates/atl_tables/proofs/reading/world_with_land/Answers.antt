use Rattle.std.proofs.Common.{◌<◌, length, arith}
use Rattle.atl_world.specs.Worlds.{is_land}
use Rattle.atl_world.specs.Sums.{numbers_where}
use Rattle.atl_tables.proofs.reading.world_with_land.Goals as goal

pub from_parts-requires-clause-world : goal.from_parts-requires-clause-world
from_parts-requires-clause-world c =
    let land = rw c.as_slice.ensures at c.in_ok-land.ensures in
    let some : 0 < length (numbers_where (is_land c.args.terrains) c.args.regions) = rw (← land) (omega (arith, c.len.ensures)) in
    c.requires.world some
