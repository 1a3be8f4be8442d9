-- Mailings as they can be read with a world: names by the rule, numbers in range, and items, skills and kinds that it
-- has.
use Rattle.std.specs.Prelude.{ℕ, ◌≡◌, Some}
use Rattle.std.specs.Ordering.{nat_cmp}
use Rattle.std.specs.FinMap.{FinMap, get}
use Rattle.atl_world.specs.Worlds.{WorldValue}
use Rattle.atl_orders.specs.Bounds.{IsReading}
use Rattle.atl_orders.specs.Mailing.{Reading}

-- Each faction's reading is in bounds (`IsReading`). Its faction is from 1 to 9,999. Each order is for a unit number or
-- alias in range, and has operands of its verb's shape: numbers in range, names by the name rule, and items, skills and
-- kinds of the world. Lines are from 1 on, and each order is on a later one than the one before.
abbrev pub AreFit : WorldValue → FinMap nat_cmp Reading → Type 0
AreFit w readings = (f : ℕ) (r : Reading) → get readings f ≡ Some r → IsReading w r
