use Rattle.std.proofs.Common.{◌≡◌, Some, None, true, sym, ap, ◌∙◌, inr}
use Rattle.std.specs.Prelude.{is_some}
use Rattle.std.specs.FinMap.{get, insert}
use Rattle.slab.specs.Slab as slab
use Rattle.atl_containers.proofs.SlotLaws.{value_under, values_changed, written, lent_same}
use Rattle.atl_containers.proofs.arena.Arena.get_mut.Goals as goal

pub returns-in-None : goal.returns-in-None
returns-in-None g c = (
  ap inr c.self.view_is,
  record { writes_back = tt; value = value_under c.self.inside.index c.self.inside.slots c.args.self.now c.args.number None c.self.invariant.slots_used c.self.view_is c.in-None.ensures },
)

pub returns-in-Some-get_mut : goal.returns-in-Some-get_mut
returns-in-Some-get_mut g c =
    let i = c.self.inside.index in
    let s = c.self.inside.slots in
    let n = c.args.number in
    let k = c.in-Some.slot in
    let is : get i n ≡ Some k = sym c.in-Some.ensures in
    let used : is_some (slab.get s k) ≡ true = c.self.invariant.slots_used.in_use n k is in (
      lent_same _ _ _ (λ w. values_changed i s (slab.with_value s k w) n k w (written s k w used) c.self.invariant.slots_used is ∙ ap (λ m. insert m n w) c.self.view_is),
      record { writes_back = tt; value = c.in-Some-get_mut.ensures.value ∙ value_under i s c.args.self.now n (Some k) c.self.invariant.slots_used c.self.view_is c.in-Some.ensures },
    )

-- where the slot had no value, get_mut would lend nothing, and no value would be under the number
pub returns-in-None-get_mut : goal.returns-in-None-get_mut
returns-in-None-get_mut g c = (
  ap inr c.self.view_is,
  record { writes_back = tt; value = c.in-None-get_mut.ensures.value ∙ value_under c.self.inside.index c.self.inside.slots c.args.self.now c.args.number (Some c.in-Some.slot) c.self.invariant.slots_used c.self.view_is c.in-Some.ensures },
)
