use Rattle.std.proofs.Common.{rules, ◌≡◌, ◌<◌, length}
use Rattle.std.specs.FinMap.{entries}
use Rattle.atl_world.proofs.EveryLaws.{each-from_every}
use Rattle.atl_phase.proofs.items.items_of.Goals as goal

pub loop-item-init : goal.loop-item-init
loop-item-init c =
    let w = c.args.world.now in
    let items = c.args.holding.now.items in
    let is : c.into_iter-item-iterator.result ≡ entries items = search rules in (
      tt,
      tt,
      search rules,
      rw is (each-from_every (λ i amount. i < length w.items) items c.requires.known),
    )
