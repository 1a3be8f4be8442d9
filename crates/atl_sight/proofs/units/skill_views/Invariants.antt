use Rattle.std.proofs.Common.{◌≡◌, ◌++◌, map}
use Rattle.atl_sight.specs.Units.{skill_view, skill_views}
use Rattle.atl_sight.proofs.units.skill_views.Given as goal

abbrev pub invariant-loop-skill : goal.invariant-loop-skill
invariant-loop-skill l = l.skills ++ map (skill_view l.men) l.skill-iterator ≡ skill_views l.holding
