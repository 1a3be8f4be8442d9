-- Laws of mailings that were read with a world: what they say is within the bounds of the world.
use Rattle.std.proofs.Common.{List, [], ◌∷◌, map}
use Rattle.std.specs.List.{AllByRecursion}
use Rattle.atl_world.specs.Worlds.{WorldValue}
use Rattle.atl_orders.proofs.BoundLaws.{readings_keep_bounds}
use Rattle.atl_orders.specs.Bounds.{IsReading}
use Rattle.atl_orders.specs.Mailing.{IsReadWith, reading_of}
use Rattle.atl_orders.specs.declared.mailing.Mailing.{Mailing}
use Rattle.atl_world.proofs.EveryLaws.{every-empty, every-insert}
use Rattle.atl_phase.specs.Month.{by_faction}
use Rattle.atl_phase.specs.Fit.{AreFit}

-- mailings (`ms`) that were each read with the world have readings within its bounds (`AreFit`)
pub read_fit : (w : WorldValue) (ms : List Mailing) → AllByRecursion (IsReadWith w) ms
    → AreFit w (by_faction (map reading_of ms))
read_fit w [] all = every-empty (λ f r. IsReading w r)
read_fit w (m ∷ ms) all =
    every-insert (λ f r. IsReading w r) (by_faction (map reading_of ms)) m.faction (reading_of m)
    (readings_keep_bounds w m.text (reading_of m) all.0) (read_fit w ms all.1)
