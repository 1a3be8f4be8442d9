-- The header fields of a request, looked up by name.
use Rattle.std.specs.Prelude.{ℕ, List, [], ◌∷◌, map, filter, Option, Some, None}
use Rattle.std.specs.Str.{str_eq_ignore_ascii_case}
use Rattle.httparse.specs.Grammar.{RequestHead}
use Rattle.httparse.specs.Spans.{name_and_value}

-- a field: its name, and its value without the blanks around it
abbrev pub Pair : Type 0
Pair = List ℕ × List ℕ

-- the fields of a head, as names and values
abbrev pub fields_of : RequestHead → List Pair
fields_of head = map name_and_value head.fields

-- the values of all fields of a name, in their order; the ASCII case of names is ignored
unfoldable pub values_of : List ℕ → List Pair → List (List ℕ)
values_of name fields = map (λ f. f.1) (filter (λ f. str_eq_ignore_ascii_case f.0 name) fields)

-- the only value of a list; None if the list is empty or has several
abbrev pub single_value : List (List ℕ) → Option (List ℕ)
single_value [] = None
single_value (value ∷ []) = Some value
single_value (value ∷ other ∷ more) = None
