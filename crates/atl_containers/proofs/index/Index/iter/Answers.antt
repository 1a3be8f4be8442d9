use Rattle.std.proofs.Common.{sym, ap, ◌∙◌}
use Rattle.std.specs.FinMap.{entries}
use Rattle.atl_containers.specs.Index.{slots_of}
use Rattle.atl_containers.proofs.IndexLaws.{entries-index}
use Rattle.atl_containers.proofs.index.Index.iter.Goals as goal

pub returns : goal.returns
returns c =
    ap slots_of (c.iter.ensures.rest ∙ c.as_slice.ensures) ∙ sym (entries-index c.self.inside.entries c.self.invariant)
    ∙ ap entries c.self.view_is
