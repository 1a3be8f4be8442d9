use Rattle.std.proofs.Common.{rules, ◌≡◌, length, [], ap, sym}
use Rattle.atl_world.specs.Limits.{most_amount}
use Rattle.atl_campaign.proofs.CoverLaws.{marks-refl}
use Rattle.atl_phase.specs.Bounds.{HaveRoom, moved_times}
use Rattle.atl_upkeep.specs.Sweep.{loses_by, menless_units}
use Rattle.atl_upkeep.proofs.sweep.sweep_menless.Goals as goal

pub receivers_of-requires : goal.receivers_of-requires
receivers_of-requires c n u is = (c.requires.steady.numbers.units n u is).0
