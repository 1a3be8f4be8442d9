-- For proofs alone: a set of names that were seen, each kept in ASCII lower case. Z is the allocator of their texts.
use Rattle.std.specs.Prelude.{◌≡◌, ℕ, Bool, List, map}
use Rattle.std.specs.BTreeSet.{BTreeSet, contains_text}
use Rattle.std.specs.Char.{to_ascii_lowercase}
use Rattle.std.specs.List.{list_any}
use Rattle.std.specs.declared.string.String.{String}
use Rattle.atl_world.specs.Names.{same_name}

-- whether a set of names, all in lower case, has a given name, ignoring ASCII case
abbrev pub has_name : {Z : Type 0} → BTreeSet (String Z) → List ℕ → Bool
has_name seen name = contains_text seen (map to_ascii_lowercase name)

-- the set `seen` has exactly the names that `title` gives for the elements of the list `all`, ignoring ASCII case
abbrev pub HasNames : {A Z : Type 0} → (A → List ℕ) → List A → BTreeSet (String Z) → Type 0
HasNames title all seen = (name : List ℕ) → has_name seen name ≡ list_any (λ x. same_name (title x) name) all
