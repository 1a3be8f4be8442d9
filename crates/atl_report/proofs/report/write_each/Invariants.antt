use Rattle.std.proofs.Common.{◌≡◌, ◌++◌, drop, string_bytes}
use Rattle.atl_sight.specs.Each.{each_text}
use Rattle.atl_report.proofs.report.write_each.Given as goal

-- the text so far, with the texts of the elements still to come, is the text before the loop with those of all elements
abbrev pub invariant-loop-one : goal.invariant-loop-one
invariant-loop-one g l =
    string_bytes l.out ++ each_text (g.T.InReport.text l.world) (drop l.one-index l.list) ≡ string_bytes l.fn.out ++
    each_text (g.T.InReport.text l.world) l.list
