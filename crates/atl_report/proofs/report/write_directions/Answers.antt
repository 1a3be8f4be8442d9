use Rattle.std.proofs.Common.{append_assoc, rules}
use Rattle.atl_report.proofs.ExitLaws.{joined_in_turn}
use Rattle.atl_report.proofs.report.write_directions.Goals as goal

pub returns : goal.returns
returns c = rw (joined_in_turn c.args.plan.now) (search (rules, append_assoc))
