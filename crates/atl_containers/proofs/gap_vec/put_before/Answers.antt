use Rattle.atl_containers.proofs.GapVecLaws.{opened}
use Rattle.atl_containers.proofs.gap_vec.put_before.Goals as goal

pub returns-clause-part : goal.returns-clause-part
returns-clause-part g c =
    rw c.copy_within.ensures.items
    (opened c.args.items.now.items c.args.free c.args.position c.args.thing c.requires.some c.requires.within)
