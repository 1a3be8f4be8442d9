use Rattle.std.proofs.Common.{sym, ◌∙◌}
use Rattle.std.proofs.lemmas.Option.{none-some}
use Rattle.std.specs.Ordering.{nat_cmp}
use Rattle.std.specs.FinMap.{get-empty}
use Rattle.atl_game_tests.proofs.tests.campaigns.making.one_man.Goals as goal

-- the empty map of items that `Holding::new` gets has only amounts within the limits
pub new-requires-3-clause-items : goal.new-requires-3-clause-items
new-requires-3-clause-items c = rw c.new.ensures (λ item amount e. absurd (none-some amount (sym (get-empty nat_cmp item) ∙ e)))
