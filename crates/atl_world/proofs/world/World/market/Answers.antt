use Rattle.std.proofs.Common.{◌≡◌, ℕ, Option, Some, None, Bor, sym}
use Rattle.std.specs.FinMap.{FinMap, get}
use Rattle.std.specs.Option.{option_copied}
use Rattle.std.specs.Ordering.{nat_cmp}
use Rattle.std.specs.Prelude.{IfSome}
use Rattle.atl_world.specs.Worlds.{IsMarket}
use Rattle.atl_world.specs.declared.world.Market.{Market}
use Rattle.atl_world.proofs.world.World.market.Goals as goal

some_market : (items number : ℕ) (markets : FinMap nat_cmp Market)
    → ((i : ℕ) (m : Market) → get markets i ≡ Some m → IsMarket items i m) → (o : Option (Bor Market))
    → option_copied o ≡ get markets number → IfSome o (λ m. IsMarket items number m.now)
some_market items number markets each None is = tt
some_market items number markets each (Some m) is = each number m.now (sym is)

pub returns-clause-bounds : goal.returns-clause-bounds
returns-clause-bounds c =
    let plan = c.in_ok-region.field-0.now in
    let here = c.region.ensures.world.regions c.args.region plan (sym c.in_ok-region.ensures.value) in
    some_market _ c.args.item plan.markets here.markets c.get.result (rw c.from.ensures at c.get.ensures)
