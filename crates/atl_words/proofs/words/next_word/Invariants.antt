use Rattle.std.proofs.Common.{◌≡◌, drop}
use Rattle.atl_words.specs.Words.{words}
use Rattle.atl_words.proofs.words.next_word.Given as goal

-- the line from byte i on has the words of the whole line
abbrev pub invariant-loop-i : goal.invariant-loop-i
invariant-loop-i l = words (drop l.i l.line) ≡ words l.line
