-- Law: the schema table of a database lists only one schema, if this has no view or trigger.
-- The schema table is the one whose rows list a database's tables, indexes and views. `db` has the trees of the
-- database.
use Rattle.std.proofs.Common.{◌≡◌, ℕ, ◌+◌, ◌<◌, ◌++◌, false, pos, codes, List, [], ◌∷◌, filter, slice_get, Some, refl, sym, ap, ◌∙◌, subst, arith}
use Rattle.std.specs.Fmt.{decimal}
use Rattle.std.specs.List.{AllZip}
use Rattle.std.specs.Str.Parse.{digits_value}
use Rattle.std.proofs.lemmas.Fmt.{decimal_is_IsNumeral}
use Rattle.std.proofs.lemmas.List.{append_cancel_left}
use Rattle.sqlite_catalog.specs.Listing.{DefinesTable, IsTableRow, IsIndexRow, IsViewRow, IsDefined, automatic, is_table_row, is_index_row, is_view_row, IsSound}
use Rattle.sqlite_catalog.proofs.StepLemmas.{named_once, same_itself}
use Rattle.sqlite_schema.specs.Names.{same_name}
use Rattle.sqlite_schema.specs.declared.schema.Index.{Index}
use Rattle.sqlite_schema.specs.declared.schema.Schema.{Schema}
use Rattle.sqlite_schema.specs.declared.schema.Table.{Table}
use Rattle.sqlite_schema.specs.declared.schema.View.{View}
use Rattle.sqlite_trees.specs.Objects.{catalog_tree}
use Rattle.sqlite_trees.specs.Tree.{Trees, IsAscending}
use Rattle.sqlite_value.specs.Order.{Row, column}
use Rattle.sqlite_value.specs.declared.value.Value.{Value}
use Rattle.sqlite_value.specs.declared.value.Value.TheVariants.{Null, Int, Real, Text, Blob}

same_tree : (m n : ℕ) → Int (pos (m + 1)) ≡ Int (pos (n + 1)) → m ≡ n
same_tree m n is = let next : m + 1 ≡ n + 1 = cc in omega (arith, next)

-- ---- tables

one_made : (sql : List ℕ) (a b : Table) → a.tree ≡ b.tree → DefinesTable sql a → DefinesTable sql b → a ≡ b
one_made sql a b tree (made, given, is) (other, says, same) =
    let both : made ≡ other = let e = sym given ∙ says in cc in
    is ∙ ap (λ (t : Table). record t { tree = a.tree }) both ∙ ap (λ n. record other { tree = n }) tree ∙ sym same

one_table : (row : Row) (a b : Table) → IsTableRow row a → IsTableRow row b → a ≡ b
one_table row a b one two =
    let tree : a.tree ≡ b.tree = same_tree a.tree b.tree (sym one.described.id ∙ two.described.id) in
    let sql : one.sql ≡ two.sql = let e = sym one.sql_is ∙ two.sql_is in cc in
    one_made two.sql a b tree (subst (λ text. DefinesTable text a) sql one.defined) two.defined

-- two lists of things that the same rows list (by `R`) are equal, if no row lists two different things
one_list : {A B : Type 0} (R : A → B → Type 0) (rows : List A) (xs ys : List B)
    → ((row : A) (x y : B) → R row x → R row y → x ≡ y) → AllZip R rows xs → AllZip R rows ys → xs ≡ ys
one_list R [] [] [] same one two = refl
one_list R [] [] (y ∷ ys) same one two = absurd two
one_list R [] (x ∷ xs) ys same one two = absurd one
one_list R (r ∷ rows) [] ys same one two = absurd one
one_list R (r ∷ rows) (x ∷ xs) [] same one two = absurd two
one_list R (r ∷ rows) (x ∷ xs) (y ∷ ys) same one two =
    let first = same r x y one.0 two.0 in
    let rest = one_list R rows xs ys same one.1 two.1 in
    cc

-- ---- indexes

decimal_text_determines_number : (m n : ℕ) → m < 65536 → n < 65536 → decimal (m + 1) ≡ decimal (n + 1) → m ≡ n
decimal_text_determines_number m n small low is =
    let first = (decimal_is_IsNumeral (m + 1) (omega (arith, small))).1 in
    let second = (decimal_is_IsNumeral (n + 1) (omega (arith, low))).1 in
    let next : m + 1 ≡ n + 1 = sym first ∙ ap (digits_value 10) is ∙ second in
    omega (arith, next)

same_made : (table : Table) (k l : ℕ) (a b : Index) → a.name ≡ b.name
    → a.name ≡ codes "sqlite_autoindex_" ++ (table.name ++ (codes "_" ++ decimal (k + 1)))
    → b.name ≡ codes "sqlite_autoindex_" ++ (table.name ++ (codes "_" ++ decimal (l + 1)))
    → decimal (k + 1) ≡ decimal (l + 1)
same_made table k l a b name first second =
    append_cancel_left (codes "_") _ _ (append_cancel_left table.name _ _ (append_cancel_left (codes "sqlite_autoindex_") _ _ (sym first ∙ name ∙ second)))

one_automatic : (table : Table) (a b : Index) → a.tree ≡ b.tree → a.name ≡ b.name → IsDefined table a Null
    → IsDefined table b Null → a ≡ b
one_automatic table a b tree name (k, key, at, is, small) (l, other, position, same, low) =
    let number : k ≡ l = decimal_text_determines_number k l small low (same_made table k l a b name (ap (λ (i : Index). i.name) is) (ap (λ (i : Index). i.name) same)) in
    let keys : key ≡ other = let e : Some key ≡ Some other = sym at ∙ ap (slice_get table.uniques) number ∙ position in cc in
    is ∙ ap (λ n. automatic table n key a.tree) number ∙ ap (λ k. automatic table l k a.tree) keys
    ∙ ap (automatic table l other) tree ∙ sym same

one_stated : (table : Table) (sql : List ℕ) (a b : Index) → a.tree ≡ b.tree → IsDefined table a (Text sql)
    → IsDefined table b (Text sql) → a ≡ b
one_stated table sql a b tree (made, given, is) (other, says, same) =
    let both : made ≡ other = let e = sym given ∙ says in cc in
    is ∙ ap (λ (i : Index). record i { tree = a.tree; table = table.tree }) both ∙ ap (λ n. record other { tree = n; table = table.tree }) tree ∙ sym same

one_defined : (table : Table) (a b : Index) (v : Value) → a.tree ≡ b.tree → a.name ≡ b.name → IsDefined table a v
    → IsDefined table b v → a ≡ b
one_defined table a b Null tree name one two = one_automatic table a b tree name one two
one_defined table a b (Int n) tree name one two = absurd one
one_defined table a b (Real x) tree name one two = absurd one
one_defined table a b (Text sql) tree name one two = one_stated table sql a b tree one two
one_defined table a b (Blob bytes) tree name one two = absurd one

-- two indexes that one row of the schema table lists are equal, if no two tables have the same name
one_index : (tables : List Table) → IsAscending (λ s t. same_name s.name t.name ≡ false) tables
    → (row : Row) (a b : Index) → IsIndexRow tables row a → IsIndexRow tables row b → a ≡ b
one_index tables apart row a b one two =
    let tree : a.tree ≡ b.tree = same_tree a.tree b.tree (sym one.described.id ∙ two.described.id) in
    let name : a.name ≡ b.name = let e = sym one.described.name_is ∙ two.described.name_is in cc in
    let owner : one.table.name ≡ two.table.name = let e = sym one.described.owner_is ∙ two.described.owner_is in cc in
    let table : one.table ≡ two.table = named_once tables one.table two.table apart one.listed two.listed (ap (same_name one.table.name) (sym owner) ∙ same_itself one.table.name) in
    one_defined one.table a b (column row 4) tree name one.defined (subst (λ t. IsDefined t b (column row 4)) (sym table) two.defined)

no_views : (rows : List Row) (none views : List View) → none ≡ [] → AllZip IsViewRow rows none
    → AllZip IsViewRow rows views → views ≡ []
no_views [] none [] is one two = refl
no_views [] none (v ∷ views) is one two = absurd two
no_views (r ∷ rows) none views is one two = absurd (subst (AllZip IsViewRow (r ∷ rows)) is one)

-- ---- the whole

-- two schemas that the trees of one database list and obey (`IsSound`) are equal, if the first, `s`, has no `views`: no
-- view, no trigger, and nothing else that the database keeps as it is
pub one_schema : (db : Trees) (s t : Schema) → IsSound s db → IsSound t db → s.views ≡ [] → t ≡ s
one_schema db s t one two none =
    let first = one.lists.listed in
    let second = two.lists.listed in
    let tables : t.tables ≡ s.tables = one_list IsTableRow (filter is_table_row (db catalog_tree)) t.tables s.tables one_table second.tables first.tables in
    let indexes : t.indexes ≡ s.indexes = one_list (IsIndexRow s.tables) (filter is_index_row (db catalog_tree)) t.indexes s.indexes (one_index s.tables first.named) (subst (λ l. AllZip (IsIndexRow l) (filter is_index_row (db catalog_tree)) t.indexes) tables second.indexes) first.indexes in
    let views : t.views ≡ s.views = no_views (filter is_view_row (db catalog_tree)) s.views t.views none first.views second.views ∙ sym none in
    ap (λ (l : List Table). record t { tables = l }) tables ∙ ap (λ (l : List Index). record { tables = s.tables; indexes = l; views = t.views }) indexes ∙ ap (λ (l : List View). record { tables = s.tables; indexes = s.indexes; views = l }) views
