-- Laws on tables whose rows are a key of two numbers and one number more (the tables `books` and `market`).
-- In a term, `col 0 n` is the parameter at the index `n`, and `col 1 n` the value at the index `n` of the row that is
-- there, where 0 is the rowid.
use Rattle.std.proofs.Common.{◌≡◌, ℕ, ℤ, pos, true, List, [], ◌∷◌, None, refl, sym, true≢false}
use Rattle.std.proofs.lemmas.Bool.{and_parts, not-true}
use Rattle.sqlite.specs.declared.types.Value.TheVariants.{Int, Null}
use Rattle.sqlite.specs.Term.{Term, lit, col}
use Rattle.sqlite.specs.Order.{Row}
use Rattle.sqlite.specs.Schema.{Schema}
use Rattle.sqlite.specs.Table.{Table}
use Rattle.sqlite_schema.specs.declared.schema.Constraint.TheVariants.{Datatype, NotNull}
use Rattle.sqlite_schema.specs.Rules.{passes}
use Rattle.atl_descriptions.specs.Sets.{table}
use Rattle.atl_descriptions.specs.Tables.{integer_column}
use Rattle.atl_sql.specs.Shown.{int}
use Rattle.atl_sql.proofs.KeyLaws.{strict_integer_is_int, cons_is}
use Rattle.atl_sql.proofs.KeyedRowLaws.{AreInts, MakesValues}
use Rattle.atl_sql.proofs.Terms.{cast_null, cast_int}

-- the indexes, in a stored row, of the two key columns of a table such as `books`
abbrev pub pair_unique : List ℕ
pair_unique = 1 ∷ 2 ∷ []

-- the terms of the INSERT: a rowid that SQL chooses, the two numbers of the key, and the third number
abbrev pub pair_terms : List Term
pair_terms = lit Null ∷ col 0 0 ∷ col 0 1 ∷ col 0 2 ∷ []

-- the terms of the UPDATE: the row that is there keeps its rowid and its key, and gets the third number given
abbrev pub pair_update_terms : List Term
pair_update_terms = col 1 0 ∷ col 1 1 ∷ col 1 2 ∷ col 0 2 ∷ []

-- `first`, `second` and `amount` are the names of the columns
module _ (tree : ℕ) (name first second amount : List ℕ) where
  -- a table, such as `books`, whose rows are a key of two numbers and one number more
  abbrev pub pair_table : Table
  pair_table =
      table tree name (integer_column first ∷ integer_column second ∷ integer_column amount ∷ []) None pair_unique
      (pair_unique ∷ []) []

  -- a row of the types of its columns, without NULL where it may have none, has integers in the columns of the key
  pub pair_ints : (schema : Schema) (x : Row) → passes Datatype schema (λ t. []) pair_table x ≡ true
      → passes NotNull schema (λ t. []) pair_table x ≡ true
      → AreInts pair_unique x
  pair_ints schema [] typed present = absurd (true≢false (sym present))
  pair_ints schema (r ∷ []) typed present = absurd (true≢false (sym present))
  pair_ints schema (r ∷ a ∷ []) typed present = absurd (true≢false (sym (and_parts _ _ present).1))
  pair_ints schema (r ∷ a ∷ b ∷ rest) typed present =
      let t1 = and_parts _ _ (and_parts _ _ typed).0 in
      let t2 = and_parts _ _ t1.1 in
      let p1 = and_parts _ _ present in
      let p2 = and_parts _ _ p1.1 in
      (strict_integer_is_int a t1.0 (not-true _ p1.0), (strict_integer_is_int b t2.0 (not-true _ p2.0), tt))

  -- the terms of the upsert make the row of the key `a`, `b` and the third number `n` (`MakesValues`)
  pub makes_pair : (a b : ℕ) (n : ℤ)
      → MakesValues pair_table pair_unique 4 pair_terms 3 pair_update_terms (int a ∷ int b ∷ Int n ∷ [])
  makes_pair a b n = record {
    source = refl;
    casted = rw (cast_null, cast_int (pos a), cast_int (pos b), cast_int n) refl;
    again = λ rowid. rw (cast_int rowid, cast_int (pos a), cast_int (pos b), cast_int n) refl;
    shown = λ rowid. refl;
    ints = λ rowid. (refl, (refl, tt));
    aimed = λ x more. refl;
    changed = λ more r same.
        let one = cons_is _ _ _ _ same in
        let two = cons_is _ _ _ _ one.1 in
        rw (one.0, two.0, cast_int (pos a), cast_int (pos b), cast_int n) refl;
  }
