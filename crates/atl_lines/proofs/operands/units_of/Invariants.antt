use Rattle.std.proofs.Common.{◌≡◌, length}
use Rattle.atl_words.specs.Words.{words}
use Rattle.atl_lines.specs.Operands.{units_of}
use Rattle.atl_lines.specs.Views.{with_units}
use Rattle.atl_lines.proofs.operands.units_of.Given as goal

-- the units read so far, followed by those of the words left, or their fault, are what the whole line gives
abbrev pub invariant-words : goal.invariant-words
invariant-words l = with_units l.units (units_of (words l.rest)) ≡ units_of (words l.line)

abbrev pub decreases-words : goal.decreases-words
decreases-words l = length (words l.rest)
