use Rattle.std.proofs.Common.{◌≡◌, ◌++◌, drop, filter, map}
use Rattle.atl_phase.specs.PhaseOrders.{unit_of}
use Rattle.atl_teaching.specs.Teach.{is_pupil}
use Rattle.atl_teaching.proofs.teach.pupils_of.Given as goal

-- the list so far, followed by the pupils among the units left, is the list of all pupils
abbrev pub invariant-loop-target : goal.invariant-loop-target
invariant-loop-target l =
    l.list.items ++ filter (is_pupil l.campaign.value l.learning l.region) (map (unit_of l.month.aliases l.order.faction) (drop l.target-index l.target-items))
    ≡ filter (is_pupil l.campaign.value l.learning l.region) (map (unit_of l.month.aliases l.order.faction) l.target-items)
