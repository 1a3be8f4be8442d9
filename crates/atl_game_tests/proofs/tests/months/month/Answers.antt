use Rattle.std.proofs.Common.{subst, sym}
use Rattle.std.proofs.lemmas.List.Elements.{recursion_from_All}
use Rattle.atl_orders.specs.Mailing.{IsReadWith}
use Rattle.atl_phase.specs.Month.{MonthValue}
use Rattle.atl_phase.specs.Fit.{AreFit}
use Rattle.atl_phase.proofs.FitLaws.{read_fit}
use Rattle.atl_game_tests.proofs.tests.months.month.Goals as goal

pub returns : goal.returns
returns c =
    let w = c.args.world.now in
    let ms = c.in_ok-mailings.mailings.items in
    subst (λ (m : MonthValue). AreFit w m.readings) (sym c.new.ensures) (read_fit w ms (recursion_from_All (IsReadWith w) ms c.in_ok-mailings.ensures.read))
