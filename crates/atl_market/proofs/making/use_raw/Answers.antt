use Rattle.std.proofs.Common.{◌≡◌, Some, rules}
use Rattle.atl_market.proofs.making.use_raw.Goals as goal

pub use_item-requires : goal.use_item-requires
use_item-requires c =
    let raw : c.args.item.now.raw ≡ Some c.in-Some.raw = search rules in
    record { can = c.requires.can c.in-Some.raw raw }
