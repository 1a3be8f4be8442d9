-- A law of slots: at most one order of a slot counts for a unit in a faction's mailing. A slot is a group of verbs of
-- which a unit carries out one order a month, as all month-long verbs. See docs/RULES.md, "Orders of a month".
use Rattle.std.specs.Prelude.{Bool, false, ◌&&◌, ◌==◌, Option, Some, None}
use Rattle.std.specs.List.{IsDistinct}
use Rattle.std.specs.Ordering.{nat_cmp}
use Rattle.std.specs.FinMap.{FinMap}
use Rattle.atl_world.specs.Worlds.{WorldValue}
use Rattle.atl_world.specs.declared.verb.Slot.{Slot}
use Rattle.atl_world.specs.declared.verb.Verb.{Verb}
use Rattle.atl_orders.specs.Mailing.{Reading}
use Rattle.atl_world.specs.Verbs.{row_of}
use Rattle.atl_phase.specs.declared.phase_order.Arrangement.{Arrangement}
use Rattle.atl_phase.specs.Month.{Aliases}
use Rattle.atl_phase.specs.Fit.{AreFit}
use Rattle.atl_phase.specs.PhaseOrders.{Task, is_same_slot, orders_of}

-- whether two verbs both have a slot (`Some`), and the same one
abbrev pub are_same_slot : Option Slot → Option Slot → Bool
are_same_slot None other = false
are_same_slot (Some slot) other = is_same_slot slot other

-- whether two orders are of one faction, are for one unit, and have verbs of one slot
abbrev pub share_slot : Task → Task → Bool
share_slot t o =
    t.unit == o.unit &&
    (t.faction == o.faction && are_same_slot (row_of t.order_value.verb).slot (row_of o.order_value.verb).slot)

-- A law: no two orders that a phase carries out, sorted by unit or by faction first (`arrangement`), are of one
-- faction, for one unit and of one slot (`share_slot`). For this the mailings can be read with the world. The test
-- `is_of` says which verbs the phase has.
abbrev pub OneOrderCounts : Type 0
OneOrderCounts =
    (w : WorldValue) (is_of : Verb → Bool) (arrangement : Arrangement) (aliases : Aliases) (readings : FinMap nat_cmp Reading) →
    AreFit w readings →
    IsDistinct share_slot (orders_of is_of arrangement aliases readings)
