-- If no condition on duplicate names is broken, the names differ. `array` is the path of an array, and `key` the key of
-- its elements' names. `all` are the elements of an array, or all tables of a world file.
use Rattle.std.proofs.Common.{◌≡◌, ℕ, zero, suc, ◌+◌, Bool, true, false, cond, List, [], ◌∷◌, ◌++◌, map, take, codes, Some, None, refl, sym, ap, ◌∙◌, append_assoc, arith}
use Rattle.std.specs.List.{list_any, slice_get, AllByRecursion}
use Rattle.std.proofs.lemmas.Bool.{or_parts}
use Rattle.std.proofs.lemmas.List.Folds.{list_any-append}
use Rattle.std.proofs.lemmas.Map.Keys.{IsDistinct-from_apart, IsDistinct-cons}
use Rattle.atl_tables.specs.Each.{conditions_on_each}
use Rattle.atl_tables.specs.Faults.{Conditions, first_fault}
use Rattle.atl_tables.specs.Keys.{path, element_path}
use Rattle.atl_world.specs.Names.{same_name, NamesDiffer}
use Rattle.atl_tables.specs.Drafts.{ThingNamesDiffer}
use Rattle.atl_tables.specs.RegionTable.{duplicate_market_items}
use Rattle.atl_tables.specs.Regions.{duplicate_numbers}
use Rattle.atl_tables.specs.TerrainTable.{duplicate_output_keys}
use Rattle.atl_tables.specs.Titles.{no_duplicate_before, no_duplicates}
use Rattle.atl_tables.specs.World.{titles_differ, names_differ}
use Rattle.atl_tables.specs.declared.fault.WorldFault.{WorldFault}
use Rattle.atl_tables.specs.declared.fault.WorldFault.TheVariants.{TwoNames}
use Rattle.atl_tables.specs.declared.world_draft.WorldDraft.{WorldDraft}

first_part_has_no_fault : (fs gs : Conditions) → first_fault (fs ++ gs) ≡ None → first_fault fs ≡ None
first_part_has_no_fault [] gs h = refl
first_part_has_no_fault (None ∷ fs) gs h = first_part_has_no_fault fs gs h
first_part_has_no_fault (Some f ∷ fs) gs h = h

second_part_has_no_fault : (fs gs : Conditions) → first_fault (fs ++ gs) ≡ None → first_fault gs ≡ None
second_part_has_no_fault [] gs h = h
second_part_has_no_fault (None ∷ fs) gs h = second_part_has_no_fault fs gs h
second_part_has_no_fault (Some f ∷ fs) gs h = absurd (cc)

element_has_no_fault : {A : Type 0} (conditions : ℕ → A → Conditions) (i : ℕ) (xs : List A)
    → first_fault (conditions_on_each conditions i xs) ≡ None → (k : ℕ) (x : A) → slice_get xs k ≡ Some x
    → first_fault (conditions (i + k) x) ≡ None
element_has_no_fault conditions i [] h k x e = absurd (cc)
element_has_no_fault conditions i (y ∷ ys) h zero x e =
    let same : y ≡ x = cc in
    let here : i + 0 ≡ i = omega arith in
    rw (here, ← same) (first_part_has_no_fault (conditions i y) (conditions_on_each conditions (i + 1) ys) h)
element_has_no_fault conditions i (y ∷ ys) h (suc k) x e =
    let there : i + suc k ≡ i + 1 + k = omega arith in
    rw there (element_has_no_fault conditions (i + 1) ys (second_part_has_no_fault (conditions i y) (conditions_on_each conditions (i + 1) ys) h) k x e)

-- `title` gives the name of an element
module _ {A : Type 0} (title : A → List ℕ) where
  abbrev name_occurs_in : A → List A → Bool
  name_occurs_in x front = list_any (λ y. same_name (title y) (title x)) front

  -- for `no_duplicate`, where b says whether an element before x has the name of x
  test_is_false : (b : Bool) (f : WorldFault) → first_fault (cond b (Some f) None ∷ []) ≡ None → b ≡ false
  test_is_false true f h = absurd (cc)
  test_is_false false f h = refl

  no_duplicate : (array key : List ℕ) (all : List A) (i : ℕ) (x : A)
      → first_fault (no_duplicate_before title array key all i x) ≡ None → name_occurs_in x (take i all) ≡ false
  unfolding no_duplicate_before
  no_duplicate array key all i x h =
      test_is_false (name_occurs_in x (take i all)) (TwoNames (path (element_path array i) key)) h

  head_differs : (x : A) (xs : List A)
      → ((k : ℕ) (y : A) → slice_get xs k ≡ Some y → same_name (title x) (title y) ≡ false)
      → AllByRecursion (λ n. same_name (title x) n ≡ false) (map title xs)
  head_differs x [] h = tt
  head_differs x (y ∷ ys) h = (h 0 y refl, head_differs x ys (λ k. h (suc k)))

  in_middle : (front rest : List A) (x y : A) → name_occurs_in y (front ++ x ∷ rest) ≡ false
      → same_name (title x) (title y) ≡ false
  in_middle front rest x y h =
      let both = or_parts _ _ (sym (list_any-append (λ z. same_name (title z) (title y)) front (x ∷ rest)) ∙ h) in
      (or_parts _ _ both.1).0

  -- the names of `xs` differ, if no element of `xs` has the name of one before it, in `front` or in `xs`
  later_names_differ : (front xs : List A)
      → ((k : ℕ) (x : A) → slice_get xs k ≡ Some x → name_occurs_in x (front ++ take k xs) ≡ false)
      → NamesDiffer (map title xs)
  later_names_differ front [] h = IsDistinct-from_apart same_name [] (λ i j d a b. absurd (omega (arith, b)))
  later_names_differ front (x ∷ xs) h =
      IsDistinct-cons same_name (title x) (map title xs) (head_differs x xs (λ k y e. in_middle front (take k xs) x y (h (suc k) y e)))
      (later_names_differ (front ++ x ∷ []) xs (λ k y e. ap (name_occurs_in y) (append_assoc front (x ∷ []) (take k xs)) ∙ h (suc k) y e))

  -- the names of an array's elements differ, if the conditions on duplicate names (`no_duplicates`) hold
  pub array_names_differ : (array key : List ℕ) (all : List A) → first_fault (no_duplicates title array key all) ≡ None
      → NamesDiffer (map title all)
  array_names_differ array key all h =
      later_names_differ [] all
      (λ k x e. let same : 0 + k ≡ k = omega arith in no_duplicate array key all k x (rw same at (element_has_no_fault (no_duplicate_before title array key all) 0 all h k x e)))

-- if f keeps the name of every x of type A, it keeps the names of a list; n gives the names before f, m those after it
pub names_kept : {A B : Type 0} (f : A → B) (n : A → List ℕ) (m : B → List ℕ) → ((x : A) → m (f x) ≡ n x)
    → (xs : List A) → map m (map f xs) ≡ map n xs
names_kept f n m h [] = refl
names_kept f n m h (x ∷ xs) = rw (h x, names_kept f n m h xs) refl

thing_names_differ_by_titles : (all : WorldDraft) → first_fault (titles_differ all) ≡ None → ThingNamesDiffer all
unfolding titles_differ
thing_names_differ_by_titles all h =
    let terrains = no_duplicates (λ d. d.name) (codes "terrain") (codes "name") all.terrains in
    let items = no_duplicates (λ d. d.name) (codes "item") (codes "name") all.items in
    let skills = no_duplicates (λ s. s.name) (codes "skill") (codes "name") all.skills in
    let kinds = no_duplicates (λ d. d.name) (codes "kind") (codes "name") all.kinds in
    let after_terrains = second_part_has_no_fault terrains (items ++ (skills ++ kinds)) h in
    let after_items = second_part_has_no_fault items (skills ++ kinds) after_terrains in
    record {
      terrains = array_names_differ (λ d. d.name) (codes "terrain") (codes "name") all.terrains (first_part_has_no_fault terrains (items ++ (skills ++ kinds)) h);
      items = array_names_differ (λ d. d.name) (codes "item") (codes "name") all.items (first_part_has_no_fault items (skills ++ kinds) after_terrains);
      skills = array_names_differ (λ s. s.name) (codes "skill") (codes "name") all.skills (first_part_has_no_fault skills kinds after_items);
      kinds = array_names_differ (λ d. d.name) (codes "kind") (codes "name") all.kinds (second_part_has_no_fault skills kinds after_items);
    }

-- no two terrains, no two items, no two skills and no two kinds have the same name, ignoring ASCII case
-- (`ThingNamesDiffer`), if no condition that a name or a number is unique is broken (`names_differ`)
pub thing_names_differ : (all : WorldDraft) → first_fault (names_differ all) ≡ None → ThingNamesDiffer all
unfolding names_differ
thing_names_differ all h =
    thing_names_differ_by_titles all
    (first_part_has_no_fault (titles_differ all) (duplicate_numbers all.regions ++ (conditions_on_each duplicate_output_keys 0 all.terrains ++ conditions_on_each duplicate_market_items 0 all.regions)) h)
