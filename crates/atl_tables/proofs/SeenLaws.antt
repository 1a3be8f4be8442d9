-- Laws of a set of the names seen so far, in ASCII lower case, by which a loop finds a name that comes twice. `seen` is
-- the set before a name is put in, `grown` the set after it, and `new` says whether the name was missing before.
-- `title` gives the name of an element, and Z is the allocator of the set's texts.
use Rattle.std.proofs.Common.{◌≡◌, ℕ, ◌+◌, ◌<◌, Bool, true, false, not, cond, ◌||◌, List, length, map, take, get_or, refl, sym, ap, ◌∙◌}
use Rattle.std.proofs.lemmas.List.Folds.{list_any_more}
use Rattle.std.proofs.lemmas.Map.Text.{btree_set_updates_text}
use Rattle.std.proofs.lemmas.Bool.{not-false, not-true}
use Rattle.std.specs.BTreeSet.{BTreeSet, Updates}
use Rattle.std.specs.Char.{to_ascii_lowercase}
use Rattle.std.specs.List.{list_any}
use Rattle.std.specs.String.{string_bytes, string_cmp}
use Rattle.std.specs.declared.string.String.{String}
use Rattle.atl_world.specs.Names.{same_name}
use Rattle.atl_tables.specs.SeenNames.{has_name, HasNames}

-- for `has_more`, where b says whether a name is the one put in, and `there` whether the set had it
choice_is_or : (b there : Bool) → cond b true there ≡ (there || b)
choice_is_or true true = refl
choice_is_or true false = refl
choice_is_or false true = refl
choice_is_or false false = refl

-- once a name is put, in lower case, into a set, the set has just this name and those that it had, ignoring ASCII case
pub has_more : {Z : Type 0} (seen grown : BTreeSet (String Z)) (lowered : String Z) (name : List ℕ)
    → Updates string_cmp seen grown lowered true → string_bytes lowered ≡ map to_ascii_lowercase name
    → (other : List ℕ) → has_name grown other ≡ (has_name seen other || same_name name other)
unfolding same_name
has_more seen grown lowered name put same other =
    rw same at (btree_set_updates_text (string_bytes lowered) seen grown true put (map to_ascii_lowercase other)) ∙ choice_is_or (same_name name other) (has_name seen other)

-- x is the element at index i of the list `all`, and `seen` has the names of the elements before it
module _ {A Z : Type 0} (title : A → List ℕ) (all : List A) (i : ℕ) (x : A) (seen : BTreeSet (String Z)) (so_far : HasNames title (take i all) seen) where
  -- if the name of x is not new in the set, an element before x has it
  pub came_before : (new : Bool) → new ≡ not (has_name seen (title x)) → new ≡ false
      → list_any (λ y. same_name (title y) (title x)) (take i all) ≡ true
  came_before new said h = sym (so_far (title x)) ∙ not-false _ (sym said ∙ h)

  -- if the name of x is new in the set, no element before x has it
  pub comes_first : (new : Bool) → new ≡ not (has_name seen (title x)) → new ≡ true
      → list_any (λ y. same_name (title y) (title x)) (take i all) ≡ false
  comes_first new said h = sym (so_far (title x)) ∙ not-true _ (sym said ∙ h)

  -- once the name of x is put in, the set has exactly the names of the elements up to x
  pub has_one_more : (grown : BTreeSet (String Z)) → i < length all → x ≡ get_or all i x
      → ((other : List ℕ) → has_name grown other ≡ (has_name seen other || same_name (title x) other))
      → HasNames title (take (i + 1) all) grown
  has_one_more grown below here put name =
      let more = list_any_more (λ y. same_name (title y) name) all i x below in
      put name ∙ ap (λ b. b || same_name (title x) name) (so_far name) ∙ sym (rw (← here) at more)
