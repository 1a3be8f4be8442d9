use Rattle.std.proofs.Common.{append_assoc, rules}
use Rattle.atl_report.proofs.ExitLaws.{none_or_joined}
use Rattle.atl_report.proofs.report.write_known_exits.Goals as goal

pub returns : goal.returns
returns c = rw (none_or_joined c.args.plan.now) (search (rules, append_assoc))
