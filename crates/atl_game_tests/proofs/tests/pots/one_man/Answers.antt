use Rattle.std.proofs.Common.{sym, ◌∙◌}
use Rattle.std.proofs.lemmas.Option.{none-some}
use Rattle.std.specs.Ordering.{nat_cmp}
use Rattle.std.specs.FinMap.{get-empty}
use Rattle.atl_game_tests.proofs.tests.pots.one_man.Goals as goal

-- each amount in the map of items that `Holding::new` gets is within the limits, since the map is empty
pub new-requires-3-clause-items : goal.new-requires-3-clause-items
new-requires-3-clause-items c = rw c.new.ensures (λ item amount e. absurd (none-some amount (sym (get-empty nat_cmp item) ∙ e)))
