use Rattle.std.proofs.Common.{sym, ap, ◌∙◌}
use Rattle.std.specs.FinMap.{len}
use Rattle.atl_containers.proofs.SlotLaws.{len_values}
use Rattle.atl_containers.proofs.arena.Arena.len.Goals as goal

pub returns-clause-value : goal.returns-clause-value
returns-clause-value g c =
    c.len.ensures.value ∙ sym (len_values c.self.inside.slots c.self.inside.index c.self.invariant.slots_used)
    ∙ ap len c.self.view_is
