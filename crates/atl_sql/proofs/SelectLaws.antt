-- Laws on the SELECTs of the ten tables: each shows each row of its table once, if the schema begins with the tables.
-- `part` is the part that the SELECT reads (`select_of_part`), and `count` is how many columns it shows.
use Rattle.std.proofs.Common.{◌≡◌, ◌++◌, ℕ, false, List, [], ◌∷◌, IsPermutation, length, map, take, refl, sym, subst}
use Rattle.std.specs.List.{range_with_len}
use Rattle.sqlite_tied.specs.Compute.{everything}
use Rattle.sqlite.specs.Command.TheVariants.{Select}
use Rattle.sqlite.specs.declared.types.Value.TheVariants.{Null}
use Rattle.sqlite.specs.Term.{Term, col}
use Rattle.sqlite.specs.Collation.TheVariants.{Binary}
use Rattle.sqlite.specs.Listing.{understood, reads_listing}
use Rattle.sqlite.specs.Order.{Row}
use Rattle.sqlite.specs.Program.{overlay}
use Rattle.sqlite.specs.Schema.{Schema}
use Rattle.sqlite.specs.Table.{Table}
use Rattle.sqlite_catalog.specs.Listing.{automatic}
use Rattle.sqlite_rules.proofs.ListLemmas.{all_has}
use Rattle.sqlite_schema.specs.Rules.{guards}
use Rattle.sqlite_schema.specs.declared.schema.Index.{Index}
use Rattle.sqlite.proofs.Callers.{IsPlain, command_of, reads_as}
use Rattle.sqlite_value.specs.Keys.{ascending}
use Rattle.sqlite_schema.specs.Names.{place_of}
use Rattle.sqlite_sql.specs.Term.{eval_all}
use Rattle.sqlite_trees.specs.Tree.{Trees}
use Rattle.atl_world.specs.declared.format.Format.{Format}
use Rattle.atl_world.specs.declared.format.Format.TheVariants.{First, Second}
use Rattle.atl_descriptions.specs.Tables.{Part, Own, Goods, Books, Markets, has_table, books_table, table_of, market_table, market_unique, all_tables, first_tables_and_others, table_count_in, index_count_in, IsHarmless, HasTablesOf}
use Rattle.atl_descriptions.specs.PartSelects.{select_of_part}
use Rattle.atl_sql.specs.Stored.{first_columns}
use Rattle.atl_sql.proofs.ReadLaws.{all_query, all_shown}
use Rattle.atl_sql.proofs.RowsLaws.{Reads}
use Rattle.atl_sql.proofs.SchemaLaws.{begins_with_fewer}
use Rattle.atl_sql.proofs.ShownLaws.{whole_shown}

-- ---- the formats

-- the index that the database makes for `market` makes nothing unique in the nine tables of the first format
market_harmless : IsHarmless 9 (automatic market_table 0 market_unique 13)
market_harmless t there =
    all_has (λ t. guards (automatic market_table 0 market_unique 13) t ≡ false) (take 9 all_tables) t
    (refl, (refl, (refl, (refl, (refl, (refl, (refl, (refl, (refl, tt))))))))) there

-- a schema that begins with the tables of any format begins with those of the first
pub has_first : (f : Format) (schema : Schema) → HasTablesOf f schema → HasTablesOf First schema
has_first First schema has = has
has_first Second schema has =
    begins_with_fewer 10 4 schema 9 3 (market_table ∷ []) (automatic market_table 0 market_unique 13 ∷ []) refl refl
    (refl, tt) (market_harmless, tt) has

-- ---- columns

abbrev first_column_terms : Table → ℕ → List Term
first_column_terms t count = map (λ at. col 1 (place_of t at)) (range_with_len 0 count)

abbrev rowid_term : Term
rowid_term = col 1 0

-- the terms of a part's SELECT: all columns of the table, and the rowid after them if the key isn't the row's number
abbrev columns_of : Part → List Term
columns_of Goods = first_column_terms has_table 4 ++ rowid_term ∷ []
columns_of Books = first_column_terms books_table 3 ++ rowid_term ∷ []
columns_of Markets = first_column_terms market_table 3 ++ rowid_term ∷ []
columns_of part = first_column_terms (table_of part) (length (table_of part).columns)

abbrev key_of : Part → ℕ
key_of Goods = 3
key_of Books = 2
key_of Markets = 2
key_of part = 1

-- ---- a SELECT of all rows

-- The SELECT of a part means a query of its columns (`columns_of`) of all rows, in the order of the key, whatever other
-- tables follow. The rows that the SELECT shows are those as which the part is read (`select_of_part`).
record IsMeant (part : Part) : Type 0 where
  command : (more : List Table) (indexes : List Index)
      → command_of (understood (first_tables_and_others (table_count_in (select_of_part part).since) (index_count_in (select_of_part part).since) more indexes) (select_of_part part).select)
      ≡ Select (record { lets = []; body = all_query (table_of part).tree (columns_of part) (map (λ column. (column, ascending Binary)) (first_column_terms (table_of part) (key_of part))) }) (select_of_part part).names
  plain : (more : List Table) (indexes : List Index)
      → IsPlain (understood (first_tables_and_others (table_count_in (select_of_part part).since) (index_count_in (select_of_part part).since) more indexes) (select_of_part part).select)
  -- the SELECT doesn't read `sqlite_schema`, the table in which the database lists its tables
  unlisted : (more : List Table) (indexes : List Index)
      → reads_listing (first_tables_and_others (table_count_in (select_of_part part).since) (index_count_in (select_of_part part).since) more indexes) (select_of_part part).select
      ≡ false
  -- the table's tree is one of the file, not that of a temporary table
  same : (db : Trees) → overlay db [] (table_of part).tree ≡ db (table_of part).tree
  rows : (db : Trees)
      → map (λ r. eval_all (columns_of part) ([] ∷ r ∷ [])) (db (table_of part).tree)
      ≡ (select_of_part part).in_table db
  whole : (r : Row)
      → first_columns (length (select_of_part part).names) (eval_all (columns_of part) ([] ∷ r ∷ []))
      ≡ eval_all (columns_of part) ([] ∷ r ∷ [])

select_meaning : (part : Part) → IsMeant part
unfolding understood everything
select_meaning Own =
    record { command = λ more indexes. refl; plain = λ more indexes. (refl, refl); unlisted = λ more indexes. refl; same = λ db. refl; rows = λ db. refl; whole = λ r. refl }
select_meaning part =
    record { command = λ more indexes. refl; plain = λ more indexes. (refl, refl); unlisted = λ more indexes. refl; same = λ db. refl; rows = λ db. refl; whole = λ r. refl }

-- under the tables of the earliest format that has a part, the part's SELECT shows all rows of its table (`Reads`)
pub reads_part : (part : Part) (count : ℕ) → count ≡ length (select_of_part part).names
    → Reads (select_of_part part).since (select_of_part part).select (select_of_part part).in_table count
reads_part part count same old new rows h has =
    let listing = select_of_part part in
    let is = select_meaning part in
    let shown : Row → Row = λ r. eval_all (columns_of part) ([] ∷ r ∷ []) in
    let cut = first_columns (length listing.names) in
    let got = reads_as listing.select [] old new (first_tables_and_others (table_count_in listing.since) (index_count_in listing.since) has.tables has.indexes) has.made_of _ (is.command has.tables has.indexes) (is.plain has.tables has.indexes) (is.unlisted has.tables has.indexes) rows h in
    let all = all_shown (table_of part).tree (columns_of part) _ old.now.trees (overlay old.now.trees []) [] rows (is.same old.now.trees) (got.answer Null) in
    let says : IsPermutation (listing.in_table old.now.trees) (map cut rows) = subst (λ was. IsPermutation was (map cut rows)) (is.rows old.now.trees) (whole_shown shown cut is.whole (old.now.trees (table_of part).tree) rows all) in
    subst (λ n. IsPermutation (listing.in_table old.now.trees) (map (first_columns n) rows)) (sym same) says

-- under the tables of the earliest format that has it, a part's SELECT has no RETURNING and doesn't read the time
pub part_plain : (part : Part) (schema : Schema) → HasTablesOf (select_of_part part).since schema
    → IsPlain (understood schema (select_of_part part).select)
part_plain part schema has =
    subst (λ s. IsPlain (understood s (select_of_part part).select)) (sym has.made_of)
    ((select_meaning part).plain has.tables has.indexes)
