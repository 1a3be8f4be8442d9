use Rattle.std.proofs.Common.{◌≡◌, ◌++◌, drop, filter}
use Rattle.atl_teaching.specs.Teach.{is_below}
use Rattle.atl_teaching.proofs.teach.pupils_below.Given as goal

-- the list so far, followed by the pupils left whose level is lower than the teacher's, is the list of all such pupils
abbrev pub invariant-loop-unit : goal.invariant-loop-unit
invariant-loop-unit l =
    l.list.items ++ filter (is_below l.campaign.value l.learning l.teacher) (drop l.unit-index l.pupils) ≡ filter (is_below l.campaign.value l.learning l.teacher) l.pupils
