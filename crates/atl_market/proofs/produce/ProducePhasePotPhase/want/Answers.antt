use Rattle.std.proofs.Common.{◌≡◌, ℕ, Option, is_some, true, subst, sym}
use Rattle.atl_phase.specs.PhaseOrders.{task_of}
use Rattle.atl_market.specs.PotPhase.{item_in}
use Rattle.atl_market.specs.Produce.{item_of}
use Rattle.atl_market.proofs.ProduceLaws.{names_item}
use Rattle.atl_market.proofs.produce.ProducePhasePotPhase.want.Goals as goal

pub most_makeable-requires : goal.most_makeable-requires
most_makeable-requires c =
    let w = c.args.world.now in
    subst (λ (o : Option ℕ). is_some (item_of w o) ≡ true) (sym c.named_item.ensures)
    (names_item c.args.unit.now.holding (item_of w (item_in (task_of c.args.order).order_value.operands)) c.requires.faultless)
