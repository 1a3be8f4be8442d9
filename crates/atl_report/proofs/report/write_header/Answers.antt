use Rattle.atl_report.specs.Report.{header_line}
use Rattle.atl_report.proofs.report.write_header.Goals as goal

pub returns : goal.returns
unfolding header_line
returns c = rw (← c.as_str-name.ensures) c.write.ensures.bytes
