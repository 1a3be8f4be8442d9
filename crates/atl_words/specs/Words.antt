-- The words of a line, and the numbers that words write. See docs/RULES.md, "Reading a mailing".
use Rattle.std.specs.Prelude.{ℕ, zero, suc, ◌+◌, ◌-◌, Bool, true, false, ◌||◌, ◌&&◌, List, [], ◌∷◌, length, Option, Some, None, nat_le, nat_lt, ◌==◌, if◌then◌else◌}
use Rattle.std.specs.List.{position_or_len, before_first, list_all}
use Rattle.std.specs.Char.{is_ascii_digit}
use Rattle.std.specs.Str.{str_eq_ignore_ascii_case}
use Rattle.std.specs.Str.Parse.{digits_value}
use Rattle.atl_world.specs.Letters.{space, quote}
use Rattle.atl_words.specs.Letters.{tab, semicolon}

-- a word: its bytes, and whether it is in quotes
pub record WordText : Type 0 where
  -- the bytes of the word, without quotation marks
  pub bytes : List ℕ
  pub quoted : Bool

-- whether a byte separates words: space or tab
abbrev pub is_blank : ℕ → Bool
is_blank b = b == space || b == tab

-- whether a byte is a quotation mark
abbrev pub is_quote : ℕ → Bool
is_quote b = b == quote

-- whether a byte ends a word without quotes: a blank, a quote, or the semicolon of a comment
abbrev pub ends_word : ℕ → Bool
ends_word b = is_blank b || is_quote b || b == semicolon

-- The words of a part of a line after its first `skip` bytes, which belong to the word before. Blanks separate words,
-- and a `;` outside quotes ends the reading. A word in quotes ends at the next quote. A word without quotes ends before
-- the first blank, quote or `;` (`ends_word`). Without such an end a word ends with the line.
unfoldable pub words_after : ℕ → List ℕ → List WordText
words_after skip [] = []
words_after (suc skip) (b ∷ bs) = words_after skip bs
words_after zero (b ∷ bs) =
    if is_blank b then words_after zero bs
    else if b == semicolon then []
    else if is_quote b
    then record { bytes = before_first is_quote bs; quoted = true } ∷ words_after (position_or_len is_quote bs + 1) bs
    else record { bytes = before_first ends_word (b ∷ bs); quoted = false }
    ∷ words_after (position_or_len ends_word (b ∷ bs) - 1) bs

-- the words of a line, up to a comment, which begins at a `;` outside quotes
abbrev pub words : List ℕ → List WordText
words line = words_after zero line

-- whether a word is this keyword, ignoring ASCII case
abbrev pub is_word : List ℕ → WordText → Bool
is_word name w = str_eq_ignore_ascii_case w.bytes name

-- whether the first word of a line is this keyword, ignoring ASCII case
abbrev pub begins : List ℕ → List WordText → Bool
begins name [] = false
begins name (w ∷ ws) = is_word name w

-- `number_of most bytes`: the number that `bytes`, one or more digits, write, if it is at most `most`; else None
abbrev pub number_of : ℕ → List ℕ → Option ℕ
number_of most bytes =
    if nat_lt 0 (length bytes) && list_all is_ascii_digit bytes && nat_le (digits_value 10 bytes) most
    then Some (digits_value 10 bytes) else None

-- an optional number, or None if it is 0
abbrev pub not_zero : Option ℕ → Option ℕ
not_zero None = None
not_zero (Some n) = if n == 0 then None else Some n
