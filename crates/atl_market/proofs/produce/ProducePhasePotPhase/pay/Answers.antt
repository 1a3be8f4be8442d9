use Rattle.std.proofs.Common.{◌≡◌, Some, rules}
use Rattle.std.specs.FinMap.{get}
use Rattle.std.specs.List.{slice_get}
use Rattle.atl_market.proofs.ProduceLaws.{can_make_item}
use Rattle.atl_market.proofs.produce.ProducePhasePotPhase.pay.Goals as goal

pub make-requires : goal.make-requires
make-requires c =
    let item = c.in-Some.item.now in
    let says : get c.args.items.now c.args.number ≡ Some item = search rules in
    let there : slice_get c.args.world.now.items item ≡ Some c.in-Some-item_of.found.now = search rules in
    can_make_item c.args.items.now c.args.world.now c.args.campaign.now.value (c.args.number, c.args.share) c.requires.can item c.in-Some-item_of.found.now says there
