use Rattle.atl_world.specs.Every.{Every}
use Rattle.atl_report.specs.Sites.{AreLevels}
use Rattle.atl_report.proofs.region_units.levels_of.Given as goal

-- each region that has lists so far has its units by hiding level
abbrev pub invariant-loop-region : goal.invariant-loop-region
invariant-loop-region l =
    (goal.iterator-loop-region).can_next l.region-iterator ×
    (goal.iterator-loop-region).is_finite l.region-iterator ×
    Every (AreLevels l.world l.campaign.value) l.levels
