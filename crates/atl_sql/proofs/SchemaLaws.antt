-- Laws on the tests of a schema: if they pass, the schema begins with the tables of a campaign.
-- `found` is a table or an index of the schema, and `r` the result of a test: `Decides r P` says that `r` is true
-- exactly if `P` holds. `count` and `keys` are how many of the ten tables and of their four indexes come first.
use Rattle.std.proofs.Common.{◌≡◌, ◌==◌, ◌||◌, inl, inr, ℕ, ◌≤◌, ◌<◌, ◌+◌, ◌++◌, Bool, true, false, codes, List, [], ◌∷◌, length, get_or, slice_get, Option, Some, None, take, map, append_assoc, refl, sym, ap, ◌∙◌, subst, arith}
use Rattle.std.proofs.lemmas.Bool.{and_right, or_parts}
use Rattle.std.proofs.lemmas.List.{take-map}
use Rattle.std.specs.Bool.{Decides}
use Rattle.std.specs.List.{AllByRecursion, list_any}
use Rattle.std.specs.Fmt.{decimal}
use Rattle.std.specs.Option.{option_map}
use Rattle.std.proofs.lemmas.Option.{same_Some}
use Rattle.std.proofs.lemmas.Fmt.{decimal_digit}
use Rattle.sqlite_value.specs.Keys.{plain}
use Rattle.sqlite_value.specs.declared.keys.Order.{Order}
use Rattle.sqlite_catalog.specs.Listing.{automatic}
use Rattle.sqlite_schema.specs.declared.schema.Schema.{Schema}
use Rattle.sqlite_schema.specs.declared.schema.Column.{Column}
use Rattle.sqlite_sql.specs.Term.{Term}
use Rattle.sqlite_schema.specs.declared.schema.Table.{Table}
use Rattle.sqlite_schema.specs.declared.schema.Index.{Index}
use Rattle.sqlite_schema.specs.Rules.{guards}
use Rattle.sqlite_rules.specs.Lists.{Has}
use Rattle.sqlite_rules.proofs.ListLemmas.{all_has, all_from, has_left, has_either}
use Rattle.sqlite_trees.proofs.ListLemmas.{all-append}
use Rattle.atl_descriptions.specs.Described.{index_of}
use Rattle.atl_descriptions.specs.Sets.{table}
use Rattle.atl_descriptions.specs.Tables.{Part, Own, all_tables, all_indexes, all_trees, table_of, IsHarmless, AreTables, AreIndexes, Begins}

-- a list of one element, which is `x`, is the list of `x` alone; `d` is the element at index 0
pub only_one : {A : Type 0} (xs : List A) (x d : A) → 1 ≤ length xs → length xs < 2 → d ≡ get_or xs 0 d → d ≡ x
    → xs ≡ x ∷ []
only_one [] x d least most is same = absurd (omega (arith, least))
only_one (y ∷ []) x d least most is same = ap (λ z. z ∷ []) (sym is ∙ same)
only_one (y ∷ z ∷ xs) x d least most is same = absurd (omega (arith, most))

-- A test for an index whose name ends in the byte 49 is one for an index whose name ends in the number 1. Both names
-- are the same, since 49 is the digit 1 (`decimal 1`).
index_name_ends_in_one : (name : List ℕ) (tree table : ℕ) (key : List ℕ) (found : Index) (r : Bool)
    → Decides r (found ≡ record { name = codes "sqlite_autoindex_" ++ (name ++ (codes "_" ++ 49 ∷ [])); tree = tree; table = table; columns = key; order = plain; is_unique = true })
    → Decides r (found ≡ record { name = codes "sqlite_autoindex_" ++ (name ++ (codes "_" ++ decimal 1)); tree = tree; table = table; columns = key; order = plain; is_unique = true })
index_name_ends_in_one name tree table key found r decides =
    subst (λ (d : List ℕ). Decides r (found ≡ record { name = codes "sqlite_autoindex_" ++ (name ++ (codes "_" ++ d)); tree = tree; table = table; columns = key; order = plain; is_unique = true })) (sym (decimal_digit 1 (omega arith))) decides

decides_same : {A B : Type 0} (r : Bool) → (A → B) → (B → A) → Decides r A → Decides r B
decides_same r to from decides = (λ is. to (decides.0 is), λ has. decides.1 (from has))

sorts_plainly : (part : Part) → get_or (table_of part).orders 0 plain ≡ plain
sorts_plainly Own = refl
sorts_plainly part = refl

-- A test `r` whether `found` is the index of a described key tests whether it is the index of the first unique key of
-- the part's table (`index_of`). What describes it fits this table: `name` and `tree` of the index, its only unique
-- key, of the columns `key`, and the tree `at` of the table.
pub is_index : (part : Part) (name key : List ℕ) (tree at : ℕ) → (table_of part).uniques ≡ key ∷ []
    → name ≡ codes "sqlite_autoindex_" ++ ((table_of part).name ++ codes "_1")
    → tree ≡ (table_of part).tree + 1 → at ≡ (table_of part).tree
    → (found : Index) (r : Bool) → Decides r (found ≡ record { name = name; tree = tree; table = at; columns = key; order = plain; is_unique = true })
    → Decides r (index_of (table_of part) ≡ Some found)
is_index part name key tree at uniques named next same found r decides =
    let t = table_of part in
    let written : Decides r (found ≡ record { name = codes "sqlite_autoindex_" ++ (t.name ++ codes "_1"); tree = t.tree + 1; table = t.tree; columns = key; order = plain; is_unique = true }) =
    subst (λ (n : List ℕ). Decides r (found ≡ record { name = n; tree = t.tree + 1; table = t.tree; columns = key; order = plain; is_unique = true })) named
    (subst (λ (n : ℕ). Decides r (found ≡ record { name = name; tree = n; table = t.tree; columns = key; order = plain; is_unique = true })) next
    (subst (λ (n : ℕ). Decides r (found ≡ record { name = name; tree = tree; table = n; columns = key; order = plain; is_unique = true })) same decides)) in
    let made : Decides r (found ≡ automatic t 0 key (t.tree + 1)) =
    subst (λ (o : Order). Decides r (found ≡ record { name = codes "sqlite_autoindex_" ++ (t.name ++ (codes "_" ++ decimal 1)); tree = t.tree + 1; table = t.tree; columns = key; order = o; is_unique = true }))
    (sym (sorts_plainly part)) (index_name_ends_in_one t.name (t.tree + 1) t.tree key found r written) in
    let its : index_of t ≡ Some (automatic t 0 key (t.tree + 1)) = ap (λ (keys : List (List ℕ)). option_map (λ k. automatic t 0 k (t.tree + 1)) (slice_get keys 0)) uniques in
    decides_same r (λ is. its ∙ ap Some (sym is)) (λ is. same_Some _ _ (sym is ∙ its)) made

pub has_no_index : (t : Table) → t.uniques ≡ [] → (found : Index) → index_of t ≡ Some found → ⊥
has_no_index t none found is =
    let its : index_of t ≡ None = ap (λ (keys : List (List ℕ)). option_map (λ k. automatic t 0 k (t.tree + 1)) (slice_get keys 0)) none in
    cc

-- ---- a table by its description

-- a table of a campaign is made of its tree, name, columns, keys and checks alone
is_made : (part : Part)
    → table_of part
    ≡ table (table_of part).tree (table_of part).name (table_of part).columns (table_of part).key (table_of part).primary (table_of part).uniques (table_of part).checks
is_made Own = refl
is_made part = refl

-- A table is that of a part exactly if it is as described, and has the part's columns. Premises: the part's table is as
-- described.
module _ (part : Part) (tree : ℕ) (name : List ℕ) (number : Option ℕ) (primary : List ℕ) (uniques : List (List ℕ)) (checks : List Term)
    (trees : tree ≡ (table_of part).tree) (names : name ≡ (table_of part).name) (numbers : number ≡ (table_of part).key)
    (primaries : primary ≡ (table_of part).primary) (keys : uniques ≡ (table_of part).uniques) (tests : checks ≡ (table_of part).checks) where
  as_described : (columns : List Column)
      → table tree name columns number primary uniques checks
      ≡ table (table_of part).tree (table_of part).name columns (table_of part).key (table_of part).primary (table_of part).uniques (table_of part).checks
  as_described columns = rw (trees, names, numbers, primaries, keys, tests) refl

  pub is_of_part : (found : Table) → found ≡ table tree name found.columns number primary uniques checks
      → found.columns ≡ (table_of part).columns → found ≡ table_of part
  is_of_part found is columns =
      is ∙ as_described found.columns
      ∙ ap (λ (c : List Column). table (table_of part).tree (table_of part).name c (table_of part).key (table_of part).primary (table_of part).uniques (table_of part).checks) columns
      ∙ sym (is_made part)

  pub part_is_described : (found : Table) → found ≡ table_of part
      → found ≡ table tree name found.columns number primary uniques checks
  part_is_described found is =
      is ∙ is_made part
      ∙ ap (λ (c : List Column). table (table_of part).tree (table_of part).name c (table_of part).key (table_of part).primary (table_of part).uniques (table_of part).checks) (sym (ap (λ (t : Table). t.columns) is))
      ∙ sym (as_described found.columns)

-- a unique index that makes nothing unique in these tables (`guards`) is of none of them
pub harmless_is_of_none : (i : Index) (tables : List Table) → i.is_unique ≡ true
    → ((t : Table) → Has tables t → guards i t ≡ false)
    → list_any (λ t. i.table == t.tree) tables ≡ false
harmless_is_of_none i [] unique guards_none = refl
harmless_is_of_none i (t ∷ tables) unique guards_none =
    let first : (i.table == t.tree) ≡ false = rw unique at (guards_none t (inl refl)) in
    let rest = harmless_is_of_none i tables unique (λ u there. guards_none u (inr there)) in
    rw (first, rest) refl

-- an index that is of none of these tables makes nothing unique in them
pub guards_not : (i : Index) (tables : List Table) → list_any (λ t. i.table == t.tree) tables ≡ false → (t : Table)
    → Has tables t
    → guards i t ≡ false
guards_not i [] none t there = absurd there
guards_not i (x ∷ tables) none t (inl same) =
    ap (λ (u : Table). guards i u) same ∙ and_right i.is_unique _ (or_parts _ _ none).0
guards_not i (x ∷ tables) none t (inr later) = guards_not i tables (or_parts _ _ none).1 t later

-- ---- the trees of the first tables

any_mapped : {A B : Type 0} (f : A → B) (p : B → Bool) (xs : List A)
    → list_any p (map f xs) ≡ list_any (λ x. p (f x)) xs
any_mapped f p [] = refl
any_mapped f p (x ∷ xs) = ap (λ b. p (f x) || b) (any_mapped f p xs)

-- A tree is that of one of the first `count` elements of a list exactly if it is that of one of the first `count`
-- tables. Premise: the elements have the trees of the ten tables, in this order.
pub our_trees : {X : Type 0} (tree_of : X → ℕ) (xs : List X) → map tree_of xs ≡ all_trees → (tree count : ℕ)
    → list_any (λ x. tree == tree_of x) (take count xs) ≡ list_any (λ t. tree == t.tree) (take count all_tables)
our_trees tree_of xs same tree count =
    sym (any_mapped tree_of (λ n. tree == n) (take count xs))
    ∙ ap (list_any (λ n. tree == n)) (sym (take-map tree_of count xs) ∙ ap (take count) same ∙ take-map (λ (t : Table). t.tree) count all_tables)
    ∙ any_mapped (λ (t : Table). t.tree) (λ n. tree == n) (take count all_tables)

-- ---- the whole schema

-- the schema is to begin with the first `count` tables and the first `keys` indexes of a campaign
module _ (count keys : ℕ) (schema : Schema) where
  pub begins_made : AreTables count schema.tables → AreIndexes count keys schema.indexes → schema.views ≡ []
      → Begins count keys schema
  begins_made tables indexes none = record {
    tables = tables.others;
    indexes = indexes.others;
    made_of =
        ap (λ (v : List _). record { tables = schema.tables; indexes = schema.indexes; views = v }) none
        ∙ ap (λ (i : List Index). record { tables = schema.tables; indexes = i; views = [] }) indexes.made_of
        ∙ ap (λ (t : List Table). record { tables = t; indexes = take keys all_indexes ++ indexes.others; views = [] }) tables.made_of;
    free = tables.free;
    plain = λ i there. all_has (IsHarmless count) indexes.others i indexes.plain there;
  }

  pub its_tables : Begins count keys schema → AreTables count schema.tables
  its_tables begins =
      record { others = begins.tables; made_of = ap (λ (s : Schema). s.tables) begins.made_of; free = begins.free }

  pub its_indexes : Begins count keys schema → AreIndexes count keys schema.indexes
  its_indexes begins =
      record { others = begins.indexes; made_of = ap (λ (s : Schema). s.indexes) begins.made_of; plain = all_from (IsHarmless count) begins.indexes begins.plain }

  pub no_views : Begins count keys schema → schema.views ≡ []
  no_views begins = ap (λ (s : Schema). s.views) begins.made_of

  -- A schema that begins with some tables and indexes begins with fewer of them too.
  -- Premises: the tables left out have no foreign key; the indexes left out make nothing unique in the fewer tables.
  pub begins_with_fewer : (fewer fewer_keys : ℕ) (tables : List Table) (indexes : List Index)
      → take count all_tables ≡ take fewer all_tables ++ tables
      → take keys all_indexes ≡ take fewer_keys all_indexes ++ indexes
      → AllByRecursion (λ t. t.references ≡ []) tables → AllByRecursion (IsHarmless fewer) indexes
      → Begins count keys schema → Begins fewer fewer_keys schema
  begins_with_fewer fewer fewer_keys tables indexes first first_keys free plain begins = record {
    tables = tables ++ begins.tables;
    indexes = indexes ++ begins.indexes;
    made_of =
        begins.made_of
        ∙ ap (λ (t : List Table). record { tables = t; indexes = take keys all_indexes ++ begins.indexes; views = [] }) (ap (λ l. l ++ begins.tables) first ∙ append_assoc (take fewer all_tables) tables begins.tables)
        ∙ ap (λ (i : List Index). record { tables = take fewer all_tables ++ (tables ++ begins.tables); indexes = i; views = [] }) (ap (λ l. l ++ begins.indexes) first_keys ∙ append_assoc (take fewer_keys all_indexes) indexes begins.indexes);
    free = all-append _ tables begins.tables free begins.free;
    plain = λ i there. elim (has_either indexes begins.indexes i there) [
      | inl between ↦ all_has (IsHarmless fewer) indexes i plain between
      | inr after ↦ λ t ours. begins.plain i after t (subst (λ l. Has l t) (sym first) (has_left (take fewer all_tables) tables t ours))
    ];
  }
