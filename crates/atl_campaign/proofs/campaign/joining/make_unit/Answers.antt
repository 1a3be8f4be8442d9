use Rattle.std.proofs.Common.{sym, ◌∙◌}
use Rattle.std.specs.Ordering.{nat_cmp}
use Rattle.std.specs.FinMap.{get-empty}
use Rattle.atl_world.proofs.EveryLaws.{none_some}
use Rattle.atl_campaign.proofs.campaign.joining.make_unit.Goals as goal

-- make_unit may make the unit's holding: it has no items, so each amount of an item is within its limit
pub new-requires-3-clause-items : goal.new-requires-3-clause-items
new-requires-3-clause-items c = rw c.new.ensures (λ item amount e. none_some amount (sym (get-empty nat_cmp item) ∙ e))
