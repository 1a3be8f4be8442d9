use Rattle.std.proofs.Common.{◌≡◌, Some, None, sym, ap, ◌∙◌}
use Rattle.std.specs.Prelude.{is_some}
use Rattle.std.specs.FinMap.{get, remove}
use Rattle.atl_world.proofs.TrackLaws.{remove_none}
use Rattle.atl_containers.specs.Slots.{values_of}
use Rattle.atl_containers.proofs.SlotLaws.{value_under, IsArena-removed, values_removed}
use Rattle.atl_containers.proofs.arena.Arena.remove.Goals as goal

pub invariant_of-self : goal.invariant_of-self
invariant_of-self g c =
    rw c.in-Some.ensures.taken (IsArena-removed c.self.inside.index c.self.inside.slots c.remove-in-Some.new.self c.args.number c.in-Some.slot c.remove-in-Some.ensures.updates c.remove-in-Some.ensures.len (sym c.in-Some.ensures.slot) c.self.invariant)

pub invariant_of-self-in-None : goal.invariant_of-self-in-None
invariant_of-self-in-None g c =
    rw (c.in-None.ensures.taken, remove_none c.self.inside.index c.args.number (sym c.in-None.ensures.slot))
    c.self.invariant

pub returns-in-Some : goal.returns-in-Some
returns-in-Some g c =
    let i = c.self.inside.index in
    let s = c.self.inside.slots in
    let n = c.args.number in
    let there = sym c.remove-in-Some.ensures.value ∙ value_under i s c.args.self.now n (Some c.in-Some.slot) c.self.invariant.slots_used c.self.view_is c.in-Some.ensures.slot in
    record {
      there = ap is_some there;
      taken = rw c.in-Some.ensures.taken (values_removed i s c.remove-in-Some.new.self n c.in-Some.slot c.remove-in-Some.ensures.updates (sym c.in-Some.ensures.slot) c.self.invariant.slots_used ∙ ap (λ m. remove m n) c.self.view_is);
    }

pub returns-in-None : goal.returns-in-None
returns-in-None g c =
    let i = c.self.inside.index in
    let s = c.self.inside.slots in
    let n = c.args.number in
    let none : get c.args.self.now n ≡ None = sym (value_under i s c.args.self.now n None c.self.invariant.slots_used c.self.view_is c.in-None.ensures.slot) in
    record {
      there = ap is_some (sym none);
      taken = ap (λ j. values_of j s) (c.in-None.ensures.taken ∙ remove_none i n (sym c.in-None.ensures.slot)) ∙ c.self.view_is ∙ sym (remove_none c.args.self.now n none);
    }
