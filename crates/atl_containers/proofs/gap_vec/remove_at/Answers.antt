use Rattle.std.proofs.Common.{arith}
use Rattle.atl_containers.proofs.GapVecLaws.{closed, removed}
use Rattle.atl_containers.proofs.gap_vec.remove_at.Goals as goal

pub returns-then-position-len-clause-part : goal.returns-then-position-len-clause-part
returns-then-position-len-clause-part g c =
    rw c.copy_within.ensures.items (closed c.args.items.now.items c.args.free c.args.position c.requires)

pub returns-clause-part : goal.returns-clause-part
returns-clause-part g c =
    rw c.remove.ensures.items (removed c.args.items.now.items c.args.free c.args.position (omega arith))
