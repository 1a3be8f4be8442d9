use Rattle.std.proofs.Common.{◌≡◌, rules}
use Rattle.std.specs.Prelude.{map}
use Rattle.atl_phase.specs.PhaseOrders.{is_month_long, orders_by_unit, task_of}
use Rattle.atl_market.specs.Idle.{all_work}
use Rattle.atl_market.proofs.WorkOrderLaws.{work_sorted}
use Rattle.atl_market.proofs.work.work_orders.Goals as goal

pub returns : goal.returns
returns c =
    let all : map task_of c.add_idle_orders.new.list.items ≡ all_work c.args.campaign.now.value (orders_by_unit is_month_long c.args.month.now) = search rules in
    work_sorted c.args.campaign.now.value c.args.month.now c.add_idle_orders.new.list.items c.sort_by_unit.new.list.items all c.sort_by_unit.ensures.moved c.sort_by_unit.ensures.sorted
