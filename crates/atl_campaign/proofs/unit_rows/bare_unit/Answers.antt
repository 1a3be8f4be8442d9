use Rattle.std.proofs.Common.{sym, subst}
use Rattle.atl_records.specs.Holdings.{AreAmounts}
use Rattle.atl_campaign.proofs.AssemblyLaws.{none_held}
use Rattle.atl_campaign.proofs.unit_rows.bare_unit.Goals as goal

-- bare_unit may make the unit's holding: it has no items, so each amount of an item is within its limit
pub new-holding-requires-clause-items : goal.new-holding-requires-clause-items
new-holding-requires-clause-items c = subst AreAmounts (sym c.new-items.ensures) none_held
