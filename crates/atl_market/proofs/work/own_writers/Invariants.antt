use Rattle.std.proofs.Common.{◌≡◌, ◌≤◌, ℕ, is_some, length, map, take}
use Rattle.std.specs.FinMap.{get}
use Rattle.std.specs.FinSet as set
use Rattle.atl_phase.specs.PhaseOrders.{task_of}
use Rattle.atl_market.specs.Idle.{own_writers}
use Rattle.atl_market.proofs.work.own_writers.Given as goal

-- the set so far has the units that the map of the writers of the orders so far has, and there is room for all orders
abbrev pub invariant-loop-order : goal.invariant-loop-order
invariant-loop-order l = record {
  each : (unit : ℕ)
      → set.contains l.writers.numbers unit
      ≡ is_some (get (own_writers l.campaign.value (map task_of (take l.order-index l.orders))) unit);
  few : set.len l.writers.numbers ≤ l.order-index;
  room : l.writers.room ≡ length l.orders;
}
