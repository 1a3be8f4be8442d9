-- The rules of names and of pass texts (passwords); which names are equal. See docs/RULES.md, "Names and pass texts".
use Rattle.std.specs.Prelude.{ℕ, Bool, ◌&&◌, not, ◌==◌, ◌-◌, nat_le, nat_lt, List, length, map, slice_index_or}
use Rattle.std.specs.List.{list_all, IsDistinct}
use Rattle.std.specs.Str.{bytes_eq}
use Rattle.std.specs.Char.{to_ascii_lowercase}
use Rattle.atl_world.specs.Letters.{space, tilde, quote}
use Rattle.atl_world.specs.Limits.{most_name_bytes}

-- whether a byte may be in a name: it is from 32 to 126, and no quotation mark
abbrev pub is_name_byte : ℕ → Bool
is_name_byte b = (nat_le space b && nat_le b tilde) && not (b == quote)

-- whether a byte may be in a pass text: it is from 33 to 126
abbrev pub is_pass_byte : ℕ → Bool
is_pass_byte b = nat_lt space b && nat_le b tilde

-- whether a text has 1 to 40 bytes
abbrev pub has_allowed_length : List ℕ → Bool
has_allowed_length bs = nat_le 1 (length bs) && nat_le (length bs) most_name_bytes

-- whether a text neither begins nor ends with a space
abbrev pub has_no_edge_space : List ℕ → Bool
has_no_edge_space bs = not (slice_index_or bs 0 0 == space) && not (slice_index_or bs (length bs - 1) 0 == space)

-- whether a text keeps the rule of names: 1 to 40 bytes that may be in a name, with no space at either end
abbrev pub name_ok : List ℕ → Bool
name_ok bs = (has_allowed_length bs && has_no_edge_space bs) && list_all is_name_byte bs

-- whether a text keeps the rule of pass texts: 1 to 40 bytes that may be in a pass text
abbrev pub pass_ok : List ℕ → Bool
pass_ok bs = has_allowed_length bs && list_all is_pass_byte bs

-- whether two names are equal, ignoring ASCII case
unfoldable pub same_name : List ℕ → List ℕ → Bool
same_name a b = bytes_eq (map to_ascii_lowercase a) (map to_ascii_lowercase b)

-- no two names of the list are equal, ignoring ASCII case
abbrev pub NamesDiffer : List (List ℕ) → Type 0
NamesDiffer names = IsDistinct same_name names
