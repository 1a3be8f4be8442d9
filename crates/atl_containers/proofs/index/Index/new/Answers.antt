use Rattle.atl_containers.proofs.IndexLaws.{sorted-none}
use Rattle.atl_containers.proofs.index.Index.new.Goals as goal

pub invariant_of-result : goal.invariant_of-result
invariant_of-result c = rw c.new.ensures sorted-none
