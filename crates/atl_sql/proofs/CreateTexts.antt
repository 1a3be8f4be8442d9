-- Laws on the CREATE texts of the ten tables: which table each text makes, and that all of them make the schema.
-- `before` and `after` are the schemas before and after a text is run, `old` and `new` the states. `g` is the kind of
-- store. A step is a call inside a transaction, by statements of a set (`Writes`).
-- `schema_of_first` gives the schema of the first tables of a campaign, with the indexes of their keys.
use Rattle.std.proofs.Common.{◌≡◌, ◌++◌, ◌∷◌, ◌+◌, ◌<◌, ℕ, false, cond, nat_eq, List, [], Result, Ok, get_or, length, map, refl, sym, ap, ◌∙◌, subst, zero-add}
use Rattle.std.proofs.lemmas.List.{get_or-map, length-map}
use Rattle.std.proofs.lemmas.List.FromFn.{get_or-range_with_len}
use Rattle.std.specs.Borrow.{MutBor}
use Rattle.sqlite_rules.specs.Lists.{Has}
use Rattle.sqlite_trees.specs.declared.store.Store.{Ghosts}
use Rattle.sqlite.specs.declared.error.Error.{Error}
use Rattle.sqlite.specs.Held.{Held}
use Rattle.sqlite_tied.specs.Compute.{everything}
use Rattle.sqlite.specs.Change.{created, next_tree}
use Rattle.sqlite.specs.Compile.{table_defined_by}
use Rattle.sqlite.specs.Does.{lacks_sequence}
use Rattle.sqlite.specs.Listing.{understood}
use Rattle.sqlite.specs.Schema.{Schema}
use Rattle.sqlite.specs.Table.{Table}
use Rattle.sqlite.specs.Command.TheVariants.{CreateTable}
use Rattle.sqlite.specs.State.{State, Executes}
use Rattle.sqlite.proofs.Callers.{IsPlain, command_of, statement_of}
use Rattle.atl_descriptions.specs.Tables.{Part, Own, all_parts, creation_of, table_count, table_of}
use Rattle.atl_sql.specs.Writes.{Writes, RunsStatement}
use Rattle.atl_descriptions.specs.Statements.{OneStatement, Creations}
use Rattle.atl_sql.proofs.Made.{CreatesTable, Extends}
use Rattle.atl_sql.proofs.CreateLaws.{creates}
use Rattle.atl_sql.proofs.ListLaws.{has_map}
use Rattle.atl_sql.proofs.MakingLaws.{extends, schema_of_first}
use Rattle.atl_sql.proofs.PartLaws.{all_among, tree_of}
use Rattle.atl_sql.proofs.WriteLaws.{weaker, among_only}

-- the text is a CREATE TABLE that turns the schema `before` into `after`, with `table` as the last table
pub record IsCreate (before after : Schema) (table : Table) (text : List ℕ) : Type 0 where
  pub command : command_of (understood before text) ≡ CreateTable
  -- the statement is the whole text
  pub whole : statement_of text (understood before text) ≡ text
  -- the text defines the table, with 0 as the number of its tree
  pub defines : table_defined_by text ≡ Ok (record table { tree = 0 })
  -- the text has no RETURNING and doesn't read the time
  pub plain : IsPlain (understood before text)
  -- to create this table in the schema `before` gives the schema `after`
  pub after_is : created before (record table { tree = 0 }) ≡ after
  pub tree_is : next_tree before ≡ table.tree
  pub last : after.tables ≡ before.tables ++ table ∷ []
  -- the schema `after` lacks no table of sequences, which only AUTOINCREMENT needs
  pub uncounted : lacks_sequence after ≡ false

-- a CREATE TABLE text (`IsCreate`) that runs without an error on a database of the schema `before` adds the table,
-- without rows (`CreatesTable`)
pub makes_table : (before after : Schema) (table : Table) (text : List ℕ) → IsCreate before after table text
    → (old new : State) (count : ℕ) → old.now.schema ≡ before → Executes text [] old new (Ok count)
    → CreatesTable before after table.tree old.now new.now
makes_table before after table text is old new count has ran =
    let uncounted = subst (λ s. lacks_sequence s ≡ false) (sym is.after_is) is.uncounted in
    subst (λ s. CreatesTable before s table.tree old.now new.now) is.after_is (subst (λ tree. CreatesTable before (created before (record table { tree = 0 })) tree old.now new.now) is.tree_is
    (creates before (record table { tree = 0 }) text old new count is.command is.whole is.defines is.plain uncounted has ran))

-- ---- of each part

abbrev place_among : Part → List Part → ℕ
place_among part [] = 0
place_among part (p ∷ parts) = cond (nat_eq (tree_of part) (tree_of p)) 0 (place_among part parts + 1)

abbrev position : Part → ℕ
position part = place_among part all_parts

-- the CREATE text of a part makes the part's table after those of the parts before it (`IsCreate`)
pub is_made : (part : Part)
    → IsCreate (schema_of_first (position part)) (schema_of_first (position part + 1)) (table_of part) (creation_of part)
unfolding understood everything
is_made Own =
    record { command = refl; whole = refl; defines = refl; plain = (refl, refl); after_is = refl; tree_is = refl; last = refl; uncounted = refl }
is_made part =
    record { command = refl; whole = refl; defines = refl; plain = (refl, refl); after_is = refl; tree_is = refl; last = refl; uncounted = refl }

placed : (i : ℕ) (d : Part) → i < length all_parts → position (get_or all_parts i d) ≡ i
placed i d small =
    sym (get_or-map position all_parts i d 0 small) ∙ get_or-range_with_len 0 (length all_parts) i 0 small ∙ zero-add i

made_at : (i : ℕ) (d : Part) → i < length all_parts
    → IsCreate (schema_of_first i) (schema_of_first (i + 1)) (table_of (get_or all_parts i d)) (creation_of (get_or all_parts i d))
made_at i d small =
    let part = get_or all_parts i d in
    subst (λ n. IsCreate (schema_of_first n) (schema_of_first (n + 1)) (table_of part) (creation_of part)) (placed i d small) (is_made part)

-- ---- of all, one after another

-- The text is the CREATE text of some part. Running it turns a database of the schema `before`, without rows, into one
-- of the schema `after`, without rows (`Extends`).
abbrev pub MakesNextTable : Schema → Schema → List ℕ → Type 1
MakesNextTable before after text =
    Has (map creation_of all_parts) text ×
    ((old new : State) → RunsStatement text [] old new → Extends before after old new)

create_text_makes_next_table : (before after : Schema) (table : Table) (text : List ℕ)
    → Has (map creation_of all_parts) text → IsCreate before after table text → MakesNextTable before after text
create_text_makes_next_table before after table text listed is = (listed, run)
  where
    run : (old new : State) → RunsStatement text [] old new → Extends before after old new
    run old new (inside, count, h) =
        extends before after table old new inside h.1.mode is.last
        (λ has. makes_table before after table text is old new count has h.0)

-- a list whose elements have the CREATE texts of the ten tables, in the order of the tables
module _ {X : Type 0} (text : X → List ℕ) (xs : List X) (all : map text xs ≡ map creation_of all_parts) where
  pub as_many : length xs ≡ table_count
  as_many = sym (length-map xs text) ∙ ap length all

  -- after the first `i` tables the text of the element at the index `i` makes the next one; `d` stands for an element
  -- past the end of the list
  pub makes_next : (i : ℕ) (d : X) → i < length xs
      → MakesNextTable (schema_of_first i) (schema_of_first (i + 1)) (text (get_or xs i d))
  makes_next i d small =
      let part = get_or all_parts i Own in
      let few : i < length all_parts = subst (λ n. i < n) as_many small in
      let is : text (get_or xs i d) ≡ creation_of part = sym (get_or-map text xs i d [] small) ∙ ap (λ (l : List (List ℕ)). get_or l i []) all ∙ get_or-map creation_of all_parts i Own [] few in
      let listed : Has (map creation_of all_parts) (creation_of part) = has_map creation_of all_parts part (all_among all_parts refl part) in
      subst (MakesNextTable (schema_of_first i) (schema_of_first (i + 1))) (sym is) (create_text_makes_next_table (schema_of_first i) (schema_of_first (i + 1)) (table_of part) (creation_of part) listed (made_at i Own few))

-- ---- in a transaction

-- a call returns r, and leads from a to b
module _ {S A : Type 0} (g : Ghosts S) {r : Result A Error} {a b : MutBor (Held S)} where
  -- a step by the CREATE text of one part is a step by those of the ten parts (`Creations`)
  pub creating : {Does : State → State → Type 0} {before after : Schema} (text : List ℕ)
      → MakesNextTable before after text → Writes g (OneStatement text []) Does r a b → Writes g Creations Does r a b
  creating text makes one = among_only g text [] (makes.0, refl) one

  -- a step by the CREATE text of the next table is a step by those of the ten parts that makes this table (`Extends`)
  pub made_by : {before after : Schema} (text : List ℕ) → MakesNextTable before after text
      → Writes g (OneStatement text []) (RunsStatement text []) r a b → Writes g Creations (Extends before after) r a b
  made_by text makes one = weaker g makes.1 (creating text makes one)
