use Rattle.std.proofs.Common.{sym, ap, ◌∙◌}
use Rattle.std.specs.FinMap.{entries}
use Rattle.atl_containers.specs.Slots.{slot_entries}
use Rattle.atl_containers.proofs.SlotLaws.{entries_values, all_in_use}
use Rattle.atl_containers.proofs.arena.Arena.iter.Goals as goal

pub invariant_of-result : goal.invariant_of-result
invariant_of-result g c =
    rw c.iter.ensures (all_in_use c.self.inside.index c.self.inside.slots c.self.invariant.slots_used)

pub returns : goal.returns
returns g c =
    ap (λ es. slot_entries es c.self.inside.slots) c.iter.ensures
    ∙ sym (entries_values c.self.inside.slots c.self.inside.index c.self.invariant.slots_used)
    ∙ ap entries c.self.view_is
