-- For proofs alone: words and lines that the code is reading, as values of the definitions.
use Rattle.std.specs.Prelude.{ℕ, ◌+◌, List, [], length, Option, Some, None}
use Rattle.atl_words.specs.declared.words.Word.{Word}
use Rattle.atl_words.specs.TextLines.{lines}
use Rattle.atl_words.specs.Words.{WordText}

-- a word of the code as its bytes and whether it is in quotes
abbrev pub word_text : Word → WordText
word_text w = record { bytes = w.bytes.now; quoted = w.quoted }

-- the lines of the text that is left after a line feed; none if no line feed was found
abbrev pub lines_of_rest : Option (List ℕ) → List (List ℕ)
lines_of_rest None = []
lines_of_rest (Some text) = lines text

-- the length of the text that is left plus 1, a bound on the lines left to read; 0 if no line feed was found
abbrev pub rest_size : Option (List ℕ) → ℕ
rest_size None = 0
rest_size (Some text) = length text + 1
