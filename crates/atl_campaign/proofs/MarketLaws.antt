-- A law of markets: if a world keeps its rules, an item i that has a market in region n is one of the world's items.
use Rattle.std.proofs.Common.{◌≡◌, ℕ, ◌<◌, Option, Some, None, is_some, IsSome, length, true, refl, arith}
use Rattle.std.specs.Prelude.{option_and_then}
use Rattle.std.proofs.lemmas.Bool.{false≢true}
use Rattle.std.specs.FinMap.{get}
use Rattle.atl_world.specs.ByNumber.{market_of}
use Rattle.atl_world.specs.Worlds.{IsWorld, WorldValue}
use Rattle.atl_world.specs.declared.world.Market.{Market}
use Rattle.atl_world.specs.declared.world.RegionPlan.{RegionPlan}

pub market_known : (w : WorldValue) → IsWorld w → (n i : ℕ) → IsSome (market_of w n i) → i < length w.items
market_known w world n i some = by_plan (get w.regions n) refl some
  where
    by_market : (p : RegionPlan) (o : Option Market) → get w.regions n ≡ Some p → get p.markets i ≡ o → is_some o ≡ true
        → i < length w.items
    by_market p None there is e = absurd (false≢true e)
    by_market p (Some m) there is e = let market = (world.regions n p there).markets i m is in omega (arith, market.number_is, market.item)

    by_plan : (o : Option RegionPlan) → get w.regions n ≡ o → is_some (option_and_then (λ p. get p.markets i) o) ≡ true
        → i < length w.items
    by_plan None there e = absurd (false≢true e)
    by_plan (Some p) there e = by_market p (get p.markets i) there refl e
