use Rattle.std.proofs.Common.{◌≡◌, ◌++◌, map}
use Rattle.std.specs.Prelude.{All}
use Rattle.atl_shares.specs.UpkeepSharing.{IsUpkeepInput}
use Rattle.atl_upkeep.specs.Upkeep.{upkeep_input_of, upkeep_inputs_of}
use Rattle.atl_upkeep.proofs.upkeep.upkeep_inputs_of.Given as goal

-- before each unit: what was read so far, with the units still to come, is what upkeep reads of all, each within its
-- limits
abbrev pub invariant-loop-number : goal.invariant-loop-number
invariant-loop-number l =
    (goal.iterator-loop-number).can_next l.number-iterator ×
    (goal.iterator-loop-number).is_finite l.number-iterator ×
    (l.inputs.items ++ map upkeep_input_of l.number-iterator ≡ upkeep_inputs_of l.campaign.value) ×
    All IsUpkeepInput l.inputs.items
