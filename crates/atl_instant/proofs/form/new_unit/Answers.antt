use Rattle.std.proofs.Common.{sym, ◌∙◌}
use Rattle.std.specs.Ordering.{nat_cmp}
use Rattle.std.specs.FinMap.{get-empty}
use Rattle.atl_world.proofs.EveryLaws.{none_some}
use Rattle.atl_instant.proofs.form.new_unit.Goals as goal

-- a new unit holds no items, so what `Holding::new` requires of its items holds
pub new-requires-3-clause-items : goal.new-requires-3-clause-items
new-requires-3-clause-items c = rw c.new.ensures (λ item amount e. none_some amount (sym (get-empty nat_cmp item) ∙ e))
