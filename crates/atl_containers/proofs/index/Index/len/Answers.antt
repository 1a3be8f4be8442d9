use Rattle.std.proofs.Common.{sym, ap, ◌∙◌}
use Rattle.std.specs.FinMap.{len}
use Rattle.atl_containers.proofs.IndexLaws.{len-index}
use Rattle.atl_containers.proofs.index.Index.len.Goals as goal

pub returns-clause-value : goal.returns-clause-value
returns-clause-value c =
    c.len.ensures.value ∙ sym (len-index c.self.inside.entries c.self.invariant) ∙ ap len c.self.view_is
