-- For proofs alone: at which index of a text a word or a line is.
use Rattle.std.specs.Prelude.{◌≡◌, ℕ, ◌++◌, List, length}
use Rattle.atl_words.specs.declared.words.Cursor.{Cursor}

-- a text starts with `front`
pub record StartsWith (text front : List ℕ) : Type 0 where
  pub back : List ℕ
  pub whole : text ≡ front ++ back

-- bytes are a part of a line, and from their first byte to its end the line has `to_end` bytes
pub record IsPartOf (line bytes : List ℕ) (to_end : ℕ) : Type 0 where
  pub front : List ℕ
  pub back : List ℕ
  pub whole : line ≡ front ++ (bytes ++ back)
  pub to_end_is : length (bytes ++ back) ≡ to_end

-- a line ends with `rest`
pub record EndsWith (line rest : List ℕ) : Type 0 where
  pub front : List ℕ
  pub whole : line ≡ front ++ rest

-- `rest` is a part of a text, and ends just before the index `end` of the text
pub record EndsAt (text : List ℕ) (end : ℕ) (rest : List ℕ) : Type 0 where
  pub front : List ℕ
  pub back : List ℕ
  pub whole : text ≡ front ++ (rest ++ back)
  pub end_is : length (front ++ rest) ≡ end

-- the rest of a cursor's line is a part of its text, and ends just before the index `end`
abbrev pub IsCursor : Cursor → Type 0
IsCursor c = EndsAt c.text.now c.end c.rest.now
