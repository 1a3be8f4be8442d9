-- The forms of columns: which values of SQL are of each, and what a value is read as; None if it is of another form.
-- A column of a row goes by its index from 0. Past the end of the row it has NULL, which is of no form.
use Rattle.std.specs.Prelude.{◌≡◌, ◌+◌, ℕ, ℤ, Bool, true, false, List, [], ◌∷◌, IsUtf8, ⊤, Option, Some, None}
use Rattle.std.specs.Str.{is_utf8}
use Rattle.sqlite_value.specs.declared.value.Value.{Value}
use Rattle.sqlite_value.specs.declared.value.Value.TheVariants.{Null, Int, Real, Text, Blob}
use Rattle.sqlite_value.specs.Order.{Row, column}
use Rattle.sqlite_schema.specs.declared.schema.Kind.{Kind}
use Rattle.sqlite_schema.specs.declared.schema.Kind.TheVariants as kinds

-- what a column is read as: an integer, a text of UTF-8, the bytes of a text (UTF-8 or not), or the bytes of a blob
pub data Form : Type 0 where
  Number : Form
  Utf8Text : Form
  TextBytes : Form
  Bytes : Form

-- the type that a STRICT table gives a column of this form
abbrev pub kind_of : Form → Kind
kind_of Number = kinds.Integer
kind_of Utf8Text = kinds.Text
kind_of TextBytes = kinds.Text
kind_of Bytes = kinds.Blob

-- a value can be read in this form
abbrev pub HasForm : Form → Value → Type 0
HasForm Number v = (n : ℤ) × (v ≡ Int n)
HasForm Utf8Text v = (t : List ℕ) × (v ≡ Text t) × IsUtf8 t
HasForm TextBytes v = (t : List ℕ) × (v ≡ Text t)
HasForm Bytes v = (b : List ℕ) × (v ≡ Blob b)

-- the values of the row from the column `at` on can be read in these forms, one for each; others may follow them
abbrev pub IsTypedFrom : ℕ → List Form → Row → Type 0
IsTypedFrom at [] row = ⊤
IsTypedFrom at (form ∷ forms) row = HasForm form (column row at) × IsTypedFrom (at + 1) forms row

-- the first values of the row can be read in these forms, one for each; others may follow them
abbrev pub IsTyped : List Form → Row → Type 0
IsTyped forms row = IsTypedFrom 0 forms row

-- the integer that a value is, else None
abbrev pub number_of : Value → Option ℤ
number_of Null = None
number_of (Int n) = Some n
number_of (Real x) = None
number_of (Text t) = None
number_of (Blob b) = None

-- the bytes of the text that a value is, UTF-8 or not, else None
abbrev pub text_of : Value → Option (List ℕ)
text_of Null = None
text_of (Int n) = None
text_of (Real x) = None
text_of (Text t) = Some t
text_of (Blob b) = None

-- the value if the test is true, else None
abbrev pub keep_if : {X : Type 0} → Bool → X → Option X
keep_if true x = Some x
keep_if false x = None

-- these bytes if they are UTF-8, else None
abbrev pub if_utf8 : List ℕ → Option (List ℕ)
if_utf8 t = keep_if (is_utf8 t) t

-- the bytes of the text that a value is, if they are UTF-8, else None
abbrev pub utf8_text_of : Value → Option (List ℕ)
utf8_text_of Null = None
utf8_text_of (Int n) = None
utf8_text_of (Real x) = None
utf8_text_of (Text t) = if_utf8 t
utf8_text_of (Blob b) = None

-- the bytes of the blob that a value is, else None
abbrev pub bytes_of : Value → Option (List ℕ)
bytes_of Null = None
bytes_of (Int n) = None
bytes_of (Real x) = None
bytes_of (Text t) = None
bytes_of (Blob b) = Some b
