use Rattle.atl_commands.proofs.CloseLaws.{only_memory}
use Rattle.atl_commands.proofs.closing.read_stored.Goals as goal

pub out_of_memory-requires : goal.out_of_memory-requires
out_of_memory-requires c =
    only_memory c.args.world.now c.requires.0 c.args.text.now c.in-Err.fault c.requires.1 c.in-Err.ensures.reading
