use Rattle.std.proofs.Common.{rules, ◌≡◌, subst, sym}
use Rattle.std.specs.FinMap.{empty}
use Rattle.atl_world.specs.Every.{Every}
use Rattle.atl_world.proofs.EveryLaws.{every-empty}
use Rattle.atl_report.specs.Sites.{AreLevels}
use Rattle.atl_report.proofs.sites.no_lists.Goals as goal

-- there are no lists that could be wrong
pub returns : goal.returns
returns c =
    let none : c.new.result ≡ empty = search rules in
    λ w campaign. record {
      sites = tt;
      levels = subst (Every (AreLevels w campaign)) (sym none) (every-empty (AreLevels w campaign));
    }
