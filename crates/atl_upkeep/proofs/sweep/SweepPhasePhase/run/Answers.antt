use Rattle.std.proofs.Common.{rules, ◌≡◌, length, refl, arith}
use Rattle.std.proofs.lemmas.Grind.{common_steps}
use Rattle.atl_world.specs.Limits.{most_amount}
use Rattle.atl_campaign.proofs.CoverLaws.{marks-trans}
use Rattle.atl_phase.specs.Meaning.{most_moved}
use Rattle.atl_phase.specs.Bounds.{moved_times}
use Rattle.atl_phase.proofs.MeaningLaws.{room_less}
use Rattle.atl_upkeep.specs.Sweep.{loses_by, menless_units, sweep}
use Rattle.atl_upkeep.proofs.SweepAllLaws.{few_menless, loses_little, sweep_keeps_all, sweep_leaves_well}
use Rattle.atl_upkeep.proofs.sweep.SweepPhasePhase.run.Goals as goal

pub sweep_menless-requires-clause-room : goal.sweep_menless-requires-clause-room
sweep_menless-requires-clause-room c =
    let w = c.args.world.now in
    let before = c.args.campaign.value in
    room_less (moved_times (length (menless_units before)) (loses_by most_amount)) (loses_by most_moved) before (loses_little (length (menless_units before)) (few_menless w before c.requires.needs)) c.requires.room

pub returns : goal.returns
returns c =
    let w = c.args.world.now in
    let before = c.args.campaign.value in
    let is : c.sweep_factions.new.campaign.value ≡ sweep before = search rules in
    record {
      meaning = first_of (search rules, grind (arith, common_steps));
      leaves = rw is (sweep_leaves_well w before c.requires.needs);
      keeps = rw is (sweep_keeps_all w before c.requires.needs);
      readings = refl;
      marks = marks-trans c.args.campaign c.sweep_menless.new.campaign c.sweep_factions.new.campaign c.in_ok-sweep_menless.ensures.marks c.sweep_factions.ensures.marks;
    }
