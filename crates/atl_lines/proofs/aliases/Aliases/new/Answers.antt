use Rattle.std.proofs.Math.Path.{fun_ext}
use Rattle.atl_lines.proofs.aliases.Aliases.new.Goals as goal

pub returns : goal.returns
returns c = fun_ext c.in_ok-no_aliases.ensures.clear
