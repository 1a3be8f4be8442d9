-- Rows that are described column by column: what each column holds, how the values of a campaign are written as the
-- fields of a row, how fields are read back, and which are in range.
-- Values and fields are nested pairs, one for each column in its order; the last pair ends in tt. cs are the columns, v
-- the values and r the fields of a row.
use Rattle.std.specs.Prelude.{ℕ, ℤ, pos, Bool, true, ◌&&◌, List, [], ◌∷◌, ⊤}
use Rattle.atl_rows.specs.RowValues.{flag, as_u32, is_set, is_from}

-- What a column holds: a number from the first to the second of two given ones; the number of another table's row, or
-- 0, for which there is no range; a flag; a text.
pub data Content : Type 0 where
  Whole : ℕ → ℕ → Content
  Reference : Content
  Flag : Content
  Text : Content

-- the type of what a campaign has of a column: a number from 0, a flag, or the bytes of a text
abbrev pub Value : Content → Type 0
Value (Whole low high) = ℕ
Value Reference = ℕ
Value Flag = Bool
Value Text = List ℕ

-- the type of what a row has in a column: any number, or the bytes of a text
abbrev pub Field : Content → Type 0
Field (Whole low high) = ℤ
Field Reference = ℤ
Field Flag = ℤ
Field Text = List ℕ

-- the field that has a value: a flag is 1 or 0, and any other value is itself
abbrev pub written : (c : Content) → Value c → Field c
written (Whole low high) n = pos n
written Reference n = pos n
written Flag set = flag set
written Text t = t

-- the value that a field is read as: a number as one of 32 bits (`as_u32`), a flag as set unless it is 0
abbrev pub read : (c : Content) → Field c → Value c
read (Whole low high) z = as_u32 z
read Reference z = as_u32 z
read Flag z = is_set z
read Text t = t

-- the type of the values of columns
abbrev pub Values : List Content → Type 0
Values [] = ⊤
Values (c ∷ cs) = Value c × Values cs

-- the type of the fields of columns
abbrev pub Fields : List Content → Type 0
Fields [] = ⊤
Fields (c ∷ cs) = Field c × Fields cs

-- the fields that have these values
abbrev pub written_row : (cs : List Content) → Values cs → Fields cs
written_row [] v = tt
written_row (c ∷ cs) v = (written c v.0, written_row cs v.1)

-- the values that these fields are read as
abbrev pub read_row : (cs : List Content) → Fields cs → Values cs
read_row [] r = tt
read_row (c ∷ cs) r = (read c r.0, read_row cs r.1)

-- whether `so_far`, and each number and each flag of the columns is in its range; references and texts have none
abbrev pub still_in_range : (cs : List Content) → Bool → Fields cs → Bool
still_in_range [] so_far r = so_far
still_in_range (Whole low high ∷ cs) so_far r = still_in_range cs (so_far && is_from low high r.0) r.1
still_in_range (Reference ∷ cs) so_far r = still_in_range cs so_far r.1
still_in_range (Flag ∷ cs) so_far r = still_in_range cs (so_far && is_from 0 1 r.0) r.1
still_in_range (Text ∷ cs) so_far r = still_in_range cs so_far r.1

-- whether each number of a row is in its column's range, and each flag is 0 or 1; a reference may be any number
abbrev pub row_in_range : (cs : List Content) → Fields cs → Bool
row_in_range cs r = still_in_range cs true r
