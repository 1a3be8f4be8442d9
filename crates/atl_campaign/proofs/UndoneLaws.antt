-- A law of marked maps: a value inserted under a new number and taken out again leaves the map and its marks as before.
use Rattle.std.proofs.Common.{◌≡◌, ℕ, Bool, None, ap, ◌∙◌}
use Rattle.std.specs.FinMap.{get}
use Rattle.std.specs.FinSet as set
use Rattle.atl_world.specs.MarkedMaps.{MarkedMapValue}
use Rattle.atl_world.specs.Tracking.{with_value, without_new_value}
use Rattle.atl_world.proofs.TrackLaws.{taken_out-undone}

-- `mid` is `old` with x under the new number n, and n marked; `new` is `mid` without x, with n marked only if it was
-- before: `new` is `old` again
pub insert_is_undone : {V : Type 0} (old mid new : MarkedMapValue V) (n : ℕ) (x : V) (was_marked : Bool)
    → get old.values n ≡ None → was_marked ≡ set.contains old.marks n → mid ≡ with_value old n x
    → new ≡ without_new_value mid n was_marked → new ≡ old
insert_is_undone old mid new n x was_marked fresh is put taken =
    taken ∙ ap (λ (t : MarkedMapValue _). without_new_value t n was_marked) put
    ∙ ap (without_new_value (with_value old n x) n) is ∙ taken_out-undone old n x fresh
