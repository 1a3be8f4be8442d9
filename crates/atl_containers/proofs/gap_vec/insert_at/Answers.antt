use Rattle.atl_containers.proofs.GapVecLaws.{inserted}
use Rattle.atl_containers.proofs.gap_vec.insert_at.Goals as goal

pub returns-then-len-free-clause-part : goal.returns-then-len-free-clause-part
returns-then-len-free-clause-part g c =
    rw c.in_ok-insert.ensures.items
    (inserted c.args.items.now.items c.args.free c.args.position c.args.thing c.requires.within)
