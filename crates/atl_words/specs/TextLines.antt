-- The lines of a text. See docs/RULES.md, "Reading a mailing".
use Rattle.std.specs.Prelude.{ℕ, Bool, List, [], ◌∷◌, map, ◌==◌, if◌then◌else◌}
use Rattle.atl_words.specs.Letters.{line_feed, carriage_return}

-- whether a byte is a line feed
abbrev pub is_feed : ℕ → Bool
is_feed b = b == line_feed

-- a list of lines with a byte put in front of the first line; without lines, one line of this byte
abbrev pub with_front : ℕ → List (List ℕ) → List (List ℕ)
with_front b [] = (b ∷ []) ∷ []
with_front b (line ∷ lines) = (b ∷ line) ∷ lines

-- the pieces of a text between its line feeds, at least one; a carriage return at the end of a piece is still there
unfoldable pub pieces : List ℕ → List (List ℕ)
pieces [] = [] ∷ []
pieces (b ∷ bs) = if is_feed b then [] ∷ pieces bs else with_front b (pieces bs)

-- a line without the carriage return at its end, if there is one
abbrev pub without_return : List ℕ → List ℕ
without_return [] = []
without_return (b ∷ []) = if b == carriage_return then [] else b ∷ []
without_return (b ∷ c ∷ bs) = b ∷ without_return (c ∷ bs)

-- the lines of a text: its pieces between line feeds, each without one carriage return at its end, if it has any
abbrev pub lines : List ℕ → List (List ℕ)
lines text = map without_return (pieces text)
