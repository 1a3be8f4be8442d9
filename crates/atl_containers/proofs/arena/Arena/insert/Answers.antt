use Rattle.std.proofs.Common.{ap, ◌∙◌}
use Rattle.std.specs.FinMap.{get, insert}
use Rattle.slab.specs.Slab as slab
use Rattle.atl_containers.proofs.SlotLaws.{values_added, IsArena-added, nothing_changed, put_back, on_err, unindexed}
use Rattle.atl_containers.proofs.arena.Arena.insert.Goals as goal

pub returns-in_err-slot-clause-err : goal.returns-in_err-slot-clause-err
returns-in_err-slot-clause-err g c =
    on_err c.from_residual.result
    (nothing_changed c.self.inside.index c.self.inside.slots c.insert.new.self (λ j. ap (λ s. slab.get s j) c.in_err-slot.ensures.err) ∙ c.self.view_is)

pub invariant_of-self-in-Ok : goal.invariant_of-self-in-Ok
invariant_of-self-in-Ok g c =
    let fresh = unindexed c.self.inside.index c.self.inside.slots c.args.number c.self.invariant.slots_used (ap (λ m. get m c.args.number) c.self.view_is ∙ c.requires) in
    rw c.in-Ok.ensures.ok (IsArena-added c.self.inside.index c.self.inside.slots c.insert.new.self c.args.number c.in_ok-slot.slot _ c.in_ok-slot.ensures.updates c.in_ok-slot.ensures.was_vacant c.in_ok-slot.ensures.len fresh c.self.invariant)

pub returns-in-Ok-clause-ok : goal.returns-in-Ok-clause-ok
returns-in-Ok-clause-ok g c =
    rw c.in-Ok.ensures.ok (values_added c.self.inside.index c.self.inside.slots c.insert.new.self c.args.number c.in_ok-slot.slot _ c.in_ok-slot.ensures.updates c.in_ok-slot.ensures.was_vacant c.self.invariant.slots_used
    ∙ ap (λ m. insert m c.args.number c.args.value) c.self.view_is)

pub returns-in-Err-clause-err : goal.returns-in-Err-clause-err
returns-in-Err-clause-err g c =
    rw c.in-Err.ensures.err (nothing_changed c.self.inside.index c.self.inside.slots c.remove.new.self (put_back c.self.inside.slots c.insert.new.self c.remove.new.self c.in_ok-slot.slot _ c.in_ok-slot.ensures.was_vacant c.in_ok-slot.ensures.updates c.remove.ensures.updates) ∙ c.self.view_is)

pub insert-requires-2 : goal.insert-requires-2
insert-requires-2 g c =
    unindexed c.self.inside.index c.self.inside.slots c.args.number c.self.invariant.slots_used
    (ap (λ m. get m c.args.number) c.self.view_is ∙ c.requires)
