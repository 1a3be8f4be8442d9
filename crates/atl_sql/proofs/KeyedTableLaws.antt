-- Laws on the statements of the tables `has`, `books`, `market`, whose key is several numbers: what they mean and do.
-- `puts_has`, `puts_books` and `puts_market` put a row. `drops_has`, `drops_books` and `drops_stock` delete the row of
-- a whole key, `drops_goods` all rows of a unit, and `drops_stocks` all rows of a region. `sort` is 0 for an item, 1
-- for a skill. The number after the table says how many columns make the key.
use Rattle.std.proofs.Common.{◌≡◌, ◌+◌, ◌-◌, ◌++◌, ℕ, ℤ, pos, true, List, [], ◌∷◌, codes, length, map, refl, sym, true≢false}
use Rattle.std.specs.List.{range_with_len}
use Rattle.std.proofs.lemmas.Bool.{and_parts, not-true}
use Rattle.sqlite_tied.specs.Compute.{everything}
use Rattle.sqlite.specs.declared.types.Value.TheVariants.{Null, Int}
use Rattle.sqlite.specs.Term.{Term, lit, col, op2}
use Rattle.sqlite.specs.Listing.{understood}
use Rattle.sqlite.specs.Order.{Row}
use Rattle.sqlite.specs.Collation.TheVariants.{Binary}
use Rattle.sqlite.specs.Schema.{Schema}
use Rattle.sqlite_sql.specs.declared.ops.BinaryOp.TheVariants.{Compare}
use Rattle.sqlite_sql.specs.declared.ops.CompareOp.TheVariants.{Eq}
use Rattle.sqlite_value.specs.Keys.{first_key}
use Rattle.sqlite_schema.specs.declared.schema.Constraint.TheVariants.{Datatype, NotNull}
use Rattle.sqlite_schema.specs.Rules.{passes}
use Rattle.atl_descriptions.specs.Tables.{Part, Goods, Books, Markets, has_table, has_unique, books_table, books_unique, market_table, market_unique, table_of, key_width_of}
use Rattle.atl_sql.specs.Shown.{int, has_key, books_key, books_row, market_key}
use Rattle.atl_descriptions.specs.Statements.{deletion, upsert}
use Rattle.atl_sql.proofs.KeyLaws.{strict_integer_is_int, cons_is}
use Rattle.atl_sql.proofs.KeyedRowLaws.{AreInts, HasKey, MeansUpsert, MeansDelete, MakesValues, puts_keyed, drops_keyed}
use Rattle.atl_sql.proofs.PairRowLaws.{pair_ints, makes_pair}
use Rattle.atl_sql.proofs.NumberedRowLaws.{place_in}
use Rattle.atl_sql.proofs.PartLaws.{listed}
use Rattle.atl_sql.proofs.StatementLaws.{AlwaysPlain, PutsRow, DropsKey}
use Rattle.atl_sql.proofs.Terms.{cast_null, cast_int}

-- the three parts whose key is several numbers: those of the tables `has`, `books` and `market`
data KeyedPart : Type 0 where
  InHas : KeyedPart
  InBooks : KeyedPart
  InMarket : KeyedPart

abbrev part_of : KeyedPart → Part
part_of InHas = Goods
part_of InBooks = Books
part_of InMarket = Markets

abbrev column_count_of : Part → ℕ
column_count_of part = length (table_of part).columns

-- ---- the numbers of the key

goods_ints : (schema : Schema) (x : Row) → passes Datatype schema (λ t. []) has_table x ≡ true
    → passes NotNull schema (λ t. []) has_table x ≡ true
    → AreInts has_unique x
goods_ints schema [] typed present = absurd (true≢false (sym present))
goods_ints schema (r ∷ []) typed present = absurd (true≢false (sym present))
goods_ints schema (r ∷ a ∷ []) typed present = absurd (true≢false (sym (and_parts _ _ present).1))
goods_ints schema (r ∷ a ∷ b ∷ []) typed present = absurd (true≢false (sym (and_parts _ _ (and_parts _ _ present).1).1))
goods_ints schema (r ∷ a ∷ b ∷ c ∷ rest) typed present =
    let t1 = and_parts _ _ (and_parts _ _ typed).0 in
    let t2 = and_parts _ _ t1.1 in
    let t3 = and_parts _ _ t2.1 in
    let p1 = and_parts _ _ present in
    let p2 = and_parts _ _ p1.1 in
    let p3 = and_parts _ _ p2.1 in
    (strict_integer_is_int a t1.0 (not-true _ p1.0), (strict_integer_is_int b t2.0 (not-true _ p2.0), (strict_integer_is_int c t3.0 (not-true _ p3.0), tt)))

key_is_integers : (k : KeyedPart) (schema : Schema) (x : Row)
    → passes Datatype schema (λ t. []) (table_of (part_of k)) x ≡ true
    → passes NotNull schema (λ t. []) (table_of (part_of k)) x ≡ true
    → AreInts (table_of (part_of k)).primary x
key_is_integers InHas = goods_ints
key_is_integers InBooks = pair_ints 10 (codes "books") (codes "entry") (codes "thing") (codes "amount")
key_is_integers InMarket = pair_ints 12 (codes "market") (codes "region") (codes "item") (codes "stock")

-- the first columns of `has`, `books` and `market` are the table's key, and its only unique key (`HasKey`)
key_is : (k : KeyedPart) → HasKey (table_of (part_of k)) (place_in (part_of k)) (table_of (part_of k)).primary
unfolding first_key
key_is InHas =
    record { ours = listed Goods; position = λ more. refl; plain = λ db. refl; ints = key_is_integers InHas; first = λ x. refl; unique = λ indexes rows r passed. not-true _ (and_parts _ _ passed).0; hits = λ indexes new x. refl }
key_is k =
    record { ours = listed (part_of k); position = λ more. refl; plain = λ db. refl; ints = key_is_integers k; first = λ x. refl; unique = λ indexes rows r passed. not-true _ (and_parts _ _ passed).0; hits = λ indexes new x. refl }

-- ---- what the statements mean

-- the terms of the INSERT into a table of this many columns: a rowid that SQL chooses, then values from the parameters
abbrev keyed_insert_terms : ℕ → List Term
keyed_insert_terms width = lit Null ∷ map (col 0) (range_with_len 0 width)

-- the terms of the UPDATE of a row of `width` columns: it keeps the first `key`, its key, and else takes the parameters
abbrev update_terms : ℕ → ℕ → List Term
update_terms key width = map (col 1) (range_with_len 0 (key + 1)) ++ map (col 0) (range_with_len key (width - key))

abbrev key_filter : ℕ → List Term
key_filter count = map (λ at. op2 (Compare Eq Binary) (col 1 (at + 1)) (col 0 at)) (range_with_len 0 count)

-- what the three texts of a part mean: the upsert, the DELETE by the whole key, and the DELETE by its first number
record StatementMeanings (part : Part) : Type 0 where
  puts : MeansUpsert (table_of part).tree (place_in part) (table_of part).primary (upsert (table_of part) (key_width_of part)) (column_count_of part + 1) (keyed_insert_terms (column_count_of part)) (column_count_of part) (update_terms (key_width_of part) (column_count_of part))
  puts_plain : AlwaysPlain (upsert (table_of part) (key_width_of part))
  drops : MeansDelete (table_of part).tree (place_in part) (deletion (table_of part) (key_width_of part)) (key_filter (key_width_of part))
  drops_plain : AlwaysPlain (deletion (table_of part) (key_width_of part))
  clears : MeansDelete (table_of part).tree (place_in part) (deletion (table_of part) 1) (key_filter 1)
  clears_plain : AlwaysPlain (deletion (table_of part) 1)

statement_meanings : (k : KeyedPart) → StatementMeanings (part_of k)
unfolding understood everything
statement_meanings InHas =
    record { puts = λ more indexes. refl; puts_plain = λ more indexes. (refl, refl); drops = λ more indexes. refl; drops_plain = λ more indexes. (refl, refl); clears = λ more indexes. refl; clears_plain = λ more indexes. (refl, refl) }
statement_meanings k =
    record { puts = λ more indexes. refl; puts_plain = λ more indexes. (refl, refl); drops = λ more indexes. refl; drops_plain = λ more indexes. (refl, refl); clears = λ more indexes. refl; clears_plain = λ more indexes. (refl, refl) }

-- ---- a row is put

makes_has : (unit sort thing : ℕ) (amount : ℤ)
    → MakesValues has_table has_unique 5 (keyed_insert_terms 4) 4 (update_terms 3 4) (int unit ∷ int sort ∷ int thing ∷ Int amount ∷ [])
makes_has unit sort thing amount = record {
  source = refl;
  casted = rw (cast_null, cast_int (pos unit), cast_int (pos sort), cast_int (pos thing), cast_int amount) refl;
  again = λ n. rw (cast_int n, cast_int (pos unit), cast_int (pos sort), cast_int (pos thing), cast_int amount) refl;
  shown = λ n. refl;
  ints = λ n. (refl, (refl, (refl, tt)));
  aimed = λ x more. refl;
  changed = λ more r same.
      let one = cons_is _ _ _ _ same in
      let two = cons_is _ _ _ _ one.1 in
      let three = cons_is _ _ _ _ two.1 in
      rw (one.0, two.0, three.0, cast_int (pos unit), cast_int (pos sort), cast_int (pos thing), cast_int amount) refl;
}

pub puts_has : (unit sort thing : ℕ) (amount : ℤ)
    → PutsRow has_table 3 (int unit ∷ int sort ∷ int thing ∷ Int amount ∷ [])
puts_has unit sort thing amount =
    let is = statement_meanings InHas in
    puts_keyed has_table.tree _ _ has_unique 4 (key_is InHas) (upsert has_table 3) 5 4 (keyed_insert_terms 4) (update_terms 3 4) is.puts is.puts_plain (int unit ∷ int sort ∷ int thing ∷ Int amount ∷ []) (makes_has unit sort thing amount)

pub puts_books : (entry thing : ℕ) (amount : ℤ) → PutsRow books_table 2 (books_row entry thing amount)
puts_books entry thing amount =
    let is = statement_meanings InBooks in
    puts_keyed books_table.tree _ _ books_unique 8 (key_is InBooks) (upsert books_table 2) 4 3 (keyed_insert_terms 3) (update_terms 2 3) is.puts is.puts_plain (books_row entry thing amount) (makes_pair 10 (codes "books") (codes "entry") (codes "thing") (codes "amount") entry thing amount)

pub puts_market : (region item : ℕ) (stock : ℤ) → PutsRow market_table 2 (int region ∷ int item ∷ Int stock ∷ [])
puts_market region item stock =
    let is = statement_meanings InMarket in
    puts_keyed market_table.tree _ _ market_unique 9 (key_is InMarket) (upsert market_table 2) 4 3 (keyed_insert_terms 3) (update_terms 2 3) is.puts is.puts_plain (int region ∷ int item ∷ Int stock ∷ []) (makes_pair 12 (codes "market") (codes "region") (codes "item") (codes "stock") region item stock)

-- ---- rows are deleted

pub drops_has : (unit sort thing : ℕ) → DropsKey has_table 3 (has_key unit sort thing)
drops_has unit sort thing =
    let is = statement_meanings InHas in
    drops_keyed has_table.tree _ _ has_unique 4 (key_is InHas) (deletion has_table 3) (key_filter 3) is.drops is.drops_plain has_unique (λ x ints. ints) (λ x. refl) (has_key unit sort thing) (refl, (refl, (refl, tt))) refl (λ x. refl)

pub drops_books : (entry thing : ℕ) → DropsKey books_table 2 (books_key entry thing)
drops_books entry thing =
    let is = statement_meanings InBooks in
    drops_keyed books_table.tree _ _ books_unique 8 (key_is InBooks) (deletion books_table 2) (key_filter 2) is.drops is.drops_plain books_unique (λ x ints. ints) (λ x. refl) (books_key entry thing) (refl, (refl, tt)) refl (λ x. refl)

pub drops_stock : (region item : ℕ) → DropsKey market_table 2 (market_key region item)
drops_stock region item =
    let is = statement_meanings InMarket in
    drops_keyed market_table.tree _ _ market_unique 9 (key_is InMarket) (deletion market_table 2) (key_filter 2) is.drops is.drops_plain market_unique (λ x ints. ints) (λ x. refl) (market_key region item) (refl, (refl, tt)) refl (λ x. refl)

pub drops_goods : (unit : ℕ) → DropsKey has_table 1 (int unit ∷ [])
drops_goods unit =
    let is = statement_meanings InHas in
    drops_keyed has_table.tree _ _ has_unique 4 (key_is InHas) (deletion has_table 1) (key_filter 1) is.clears is.clears_plain (1 ∷ []) (λ x ints. (ints.0, tt)) (λ x. refl) (int unit ∷ []) (refl, tt) refl (λ x. refl)

pub drops_stocks : (region : ℕ) → DropsKey market_table 1 (int region ∷ [])
drops_stocks region =
    let is = statement_meanings InMarket in
    drops_keyed market_table.tree _ _ market_unique 9 (key_is InMarket) (deletion market_table 1) (key_filter 1) is.clears is.clears_plain (1 ∷ []) (λ x ints. (ints.0, tt)) (λ x. refl) (int region ∷ []) (refl, tt) refl (λ x. refl)
