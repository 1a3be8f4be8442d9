-- The item, skill or kind that a word names. See docs/RULES.md, "Names in orders". The flag `quoted` says whether the
-- word is in quotes.
use Rattle.std.specs.Prelude.{ℕ, Bool, List, map, position, Option, ◌==◌, if◌then◌else◌}
use Rattle.std.specs.Str.{str_eq_ignore_ascii_case}
use Rattle.atl_world.specs.Letters.{space, underscore}
use Rattle.atl_world.specs.Worlds.{WorldValue}

-- the byte of a name that a byte of a word means: the byte itself, but a space for `_` in a word without quotes
abbrev pub letter_of : Bool → ℕ → ℕ
letter_of quoted b = if quoted then b else if b == underscore then space else b

-- the name that a word means: its bytes, with a space for each `_` in a word without quotes
abbrev pub name_of : List ℕ → Bool → List ℕ
name_of word quoted = map (letter_of quoted) word

-- the index, from 0, of the first item, skill or kind of a list whose name (`title`) is the name that a word means
-- (`name_of`), ignoring ASCII case; None if there is none
abbrev pub index_named : {A : Type 0} → (A → List ℕ) → List A → List ℕ → Bool → Option ℕ
index_named title things word quoted = position (λ thing. str_eq_ignore_ascii_case (title thing) (name_of word quoted)) things

-- the number of the first item whose name a word means (`name_of`), ignoring ASCII case; None if there is none
abbrev pub item_named : WorldValue → List ℕ → Bool → Option ℕ
item_named w word quoted = index_named (λ item. item.name) w.items word quoted

-- the number of the first skill whose name a word means (`name_of`), ignoring ASCII case; None if there is none
abbrev pub skill_named : WorldValue → List ℕ → Bool → Option ℕ
skill_named w word quoted = index_named (λ skill. skill.name) w.skills word quoted

-- the number of the first kind of structure whose name a word means (`name_of`), ignoring ASCII case, or None
abbrev pub kind_named : WorldValue → List ℕ → Bool → Option ℕ
kind_named w word quoted = index_named (λ kind. kind.name) w.kinds word quoted
