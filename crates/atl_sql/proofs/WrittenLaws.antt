-- Laws on the rows of any part but the campaign row: the upsert puts a row that can be written, and the DELETE by its
-- whole key deletes it.
-- `row` is a row as SQL shows it, `key` are the values of a key, and `part` is the part whose table it is.
use Rattle.std.proofs.Common.{◌≡◌, ℕ, ℤ, suc, pos, negsuc, true, List, [], ◌∷◌, codes, drop, refl, sym, ap, ◌∙◌, subst, true≢false, Result}
use Rattle.std.proofs.lemmas.Bool.{and_parts}
use Rattle.sqlite.specs.declared.types.Value.{Value}
use Rattle.sqlite.specs.declared.types.Value.TheVariants.{Null, Int, Real, Text, Blob}
use Rattle.std.specs.Borrow.{MutBor}
use Rattle.sqlite.specs.declared.error.Error.{Error}
use Rattle.sqlite.specs.Held.{Held}
use Rattle.sqlite.specs.Order.{Row}
use Rattle.sqlite.specs.Table.{Table}
use Rattle.sqlite_trees.specs.declared.store.Store.{Ghosts}
use Rattle.sqlite_rules.specs.Cast.{cast}
use Rattle.sqlite_schema.specs.declared.schema.Column.{Column}
use Rattle.sqlite_schema.specs.declared.schema.Kind.{Kind}
use Rattle.sqlite_schema.specs.declared.schema.Kind.TheVariants as kinds
use Rattle.atl_columns.specs.Fields.{Fits}
use Rattle.atl_descriptions.specs.Tables.{Part, Own, integer_column, Factions, Regions, Units, Goods, Structures, Mail, Reports, Books, Markets, IsNumberedPart, IsWrittenPart, key_width_of, table_of}
use Rattle.atl_sql.specs.Shown.{int}
use Rattle.atl_sql.specs.Written.{can_be_written, is_key_of, is_natural, is_of_kind}
use Rattle.atl_sql.specs.Writes.{TakesOut, WritesRow}
use Rattle.atl_sql.proofs.KeyedTableLaws.{puts_has, puts_books, puts_market, drops_has, drops_books, drops_stock}
use Rattle.atl_sql.proofs.NumberedRowLaws.{puts_part, drops_part}
use Rattle.atl_sql.proofs.StatementLaws.{PutsRow, DropsKey}
use Rattle.atl_sql.proofs.Terms.{cast_int}

natural_is : (v : Value) → is_natural v ≡ true → (n : ℕ) × (v ≡ int n)
natural_is Null is = absurd (true≢false (sym is))
natural_is (Int (pos n)) is = (n, refl)
natural_is (Int (negsuc n)) is = absurd (true≢false (sym is))
natural_is (Real x) is = absurd (true≢false (sym is))
natural_is (Text t) is = absurd (true≢false (sym is))
natural_is (Blob b) is = absurd (true≢false (sym is))

integer_is : (v : Value) → is_of_kind kinds.Integer v ≡ true → (n : ℤ) × (v ≡ Int n)
integer_is Null is = absurd (true≢false (sym is))
integer_is (Int n) is = (n, refl)
integer_is (Real x) is = absurd (true≢false (sym is))
integer_is (Text t) is = absurd (true≢false (sym is))
integer_is (Blob b) is = absurd (true≢false (sym is))

casts : (kind : Kind) (v : Value) → is_of_kind kind v ≡ true → cast kind v ≡ v
casts kinds.Integer (Int n) is = cast_int n
casts kinds.Text (Text t) is = refl
casts kinds.Blob (Blob b) is = refl
casts _ _ is = absurd (true≢false (sym is))

fits : (cs : List Column) (vs : Row) → can_be_written cs 0 vs ≡ true → Fits cs vs
fits [] [] is = tt
fits [] (v ∷ vs) is = absurd (true≢false (sym is))
fits (c ∷ cs) [] is = absurd (true≢false (sym is))
fits (c ∷ cs) (v ∷ vs) is = let both = and_parts _ _ is in (casts c.kind v both.0, fits cs vs both.1)

-- ---- the numbers of a key

first_number : (c : Column) (cs : List Column) (key : ℕ) (row : Row) → can_be_written (c ∷ cs) (suc key) row ≡ true
    → (n : ℕ) × (vs : Row) × (row ≡ int n ∷ vs) × (can_be_written cs key vs ≡ true)
first_number c cs key [] is = absurd (true≢false (sym is))
first_number c cs key (v ∷ vs) is =
    let both = and_parts _ _ is in
    let first = natural_is v both.0 in
    (first.0, vs, ap (λ x. x ∷ vs) first.1, both.1)

last_integer : (name : List ℕ) (row : Row) → can_be_written (integer_column name ∷ []) 0 row ≡ true
    → (n : ℤ) × (row ≡ Int n ∷ [])
last_integer name [] is = absurd (true≢false (sym is))
last_integer name (v ∷ []) is = let first = integer_is v (and_parts _ _ is).0 in (first.0, ap (λ x. x ∷ []) first.1)
last_integer name (v ∷ w ∷ vs) is = absurd (true≢false (sym (and_parts _ _ is).1))

first_of_key : (key : ℕ) (row : Row) → is_key_of (suc key) row ≡ true
    → (n : ℕ) × (vs : Row) × (row ≡ int n ∷ vs) × (is_key_of key vs ≡ true)
first_of_key key [] is = absurd (true≢false (sym is))
first_of_key key (v ∷ vs) is =
    let both = and_parts _ _ is in
    let first = natural_is v both.0 in
    (first.0, vs, ap (λ x. x ∷ vs) first.1, both.1)

none_left : (row : Row) → is_key_of 0 row ≡ true → row ≡ []
none_left [] is = refl
none_left (v ∷ vs) is = absurd (true≢false (sym is))

one_of_key : (row : Row) → is_key_of 1 row ≡ true → (n : ℕ) × (row ≡ int n ∷ [])
one_of_key row is =
    let (n, vs, row_is, rest) = first_of_key 0 row is in
    (n, row_is ∙ ap (λ x. int n ∷ x) (none_left vs rest))

two_of_key : (row : Row) → is_key_of 2 row ≡ true → (a b : ℕ) × (row ≡ int a ∷ int b ∷ [])
two_of_key row is =
    let (a, vs, row_is, rest) = first_of_key 1 row is in
    let (b, vs_are) = one_of_key vs rest in
    (a, b, row_is ∙ ap (λ x. int a ∷ x) vs_are)

three_of_key : (row : Row) → is_key_of 3 row ≡ true → (a b c : ℕ) × (row ≡ int a ∷ int b ∷ int c ∷ [])
three_of_key row is =
    let (a, vs, row_is, rest) = first_of_key 2 row is in
    let (b, c, vs_are) = two_of_key vs rest in
    (a, b, c, row_is ∙ ap (λ x. int a ∷ x) vs_are)

-- ---- rows are put

numbered_put : (part : Part) → IsNumberedPart part → (c : Column) (row : Row)
    → can_be_written (c ∷ drop 1 (table_of part).columns) 1 row ≡ true → PutsRow (table_of part) 1 row
numbered_put part is c row writable =
    let (n, vs, row_is, rest) = first_number c (drop 1 (table_of part).columns) 0 row writable in
    rw row_is (puts_part part is n vs (fits (drop 1 (table_of part).columns) vs rest))

-- the numbers of a row of two columns of a key and an integer
pair_of : (a b : Column) (name : List ℕ) (row : Row) → can_be_written (a ∷ b ∷ integer_column name ∷ []) 2 row ≡ true
    → (m n : ℕ) × (z : ℤ) × (row ≡ int m ∷ int n ∷ Int z ∷ [])
pair_of a b name row is =
    let (m, vs, row_is, one) = first_number a (b ∷ integer_column name ∷ []) 1 row is in
    let (n, ws, vs_are, two) = first_number b (integer_column name ∷ []) 0 vs one in
    let (z, ws_are) = last_integer name ws two in
    (m, n, z, row_is ∙ ap (λ x. int m ∷ x) vs_are ∙ ap (λ x. int m ∷ int n ∷ x) ws_are)

goods_put : (row : Row) → can_be_written (table_of Goods).columns 3 row ≡ true → PutsRow (table_of Goods) 3 row
goods_put row is =
    let sort = integer_column (codes "sort") in
    let thing = integer_column (codes "thing") in
    let (u, vs, row_is, rest) = first_number (integer_column (codes "unit")) (sort ∷ thing ∷ integer_column (codes "amount") ∷ []) 2 row is in
    let (s, t, a, vs_are) = pair_of sort thing (codes "amount") vs rest in
    rw (row_is, vs_are) (puts_has u s t a)

-- Of any part but the campaign row: if the upsert of a row that can be written ends without an error, in a database
-- with the ten tables, it puts the row into the part's table, in place of the row with the same key if there is one
-- (`PutsRow`).
pub puts_any : (part : Part) → IsWrittenPart part → (row : Row)
    → can_be_written (table_of part).columns (key_width_of part) row ≡ true → PutsRow (table_of part) (key_width_of part) row
puts_any Own is row writable = absurd is
puts_any Goods is row writable = goods_put row writable
puts_any Books is row writable =
    let (m, n, z, row_is) = pair_of (integer_column (codes "entry")) (integer_column (codes "thing")) (codes "amount") row writable in
    rw row_is (puts_books m n z)
puts_any Markets is row writable =
    let (m, n, z, row_is) = pair_of (integer_column (codes "region")) (integer_column (codes "item")) (codes "stock") row writable in
    rw row_is (puts_market m n z)
puts_any Factions is row writable = numbered_put Factions tt (integer_column (codes "number")) row writable
puts_any Regions is row writable = numbered_put Regions tt (integer_column (codes "number")) row writable
puts_any Units is row writable = numbered_put Units tt (integer_column (codes "number")) row writable
puts_any Structures is row writable = numbered_put Structures tt (integer_column (codes "number")) row writable
puts_any Mail is row writable = numbered_put Mail tt (integer_column (codes "faction")) row writable
puts_any Reports is row writable = numbered_put Reports tt (integer_column (codes "faction")) row writable

-- ---- rows are deleted

-- the DELETE of a part by its whole key deletes the row with the key
pub drops_any : (part : Part) → IsWrittenPart part → (key : Row) → is_key_of (key_width_of part) key ≡ true
    → DropsKey (table_of part) (key_width_of part) key
drops_any Own is key fits = absurd is
drops_any Goods is key fits = let (u, s, t, key_is) = three_of_key key fits in rw key_is (drops_has u s t)
drops_any Books is key fits = let (m, n, key_is) = two_of_key key fits in rw key_is (drops_books m n)
drops_any Markets is key fits = let (m, n, key_is) = two_of_key key fits in rw key_is (drops_stock m n)
drops_any Factions is key fits = let (n, key_is) = one_of_key key fits in rw key_is (drops_part Factions tt n)
drops_any Regions is key fits = let (n, key_is) = one_of_key key fits in rw key_is (drops_part Regions tt n)
drops_any Units is key fits = let (n, key_is) = one_of_key key fits in rw key_is (drops_part Units tt n)
drops_any Structures is key fits = let (n, key_is) = one_of_key key fits in rw key_is (drops_part Structures tt n)
drops_any Mail is key fits = let (n, key_is) = one_of_key key fits in rw key_is (drops_part Mail tt n)
drops_any Reports is key fits = let (n, key_is) = one_of_key key fits in rw key_is (drops_part Reports tt n)

-- a call returns r, and leads from a to b, on a store of the kind g; the key of the table t is its first `key` columns
module _ {S A : Type 0} (g : Ghosts S) (t : Table) (key : ℕ) {r : Result A Error} {a b : MutBor (Held S)} where
  pub written_as : (row values : Row) → row ≡ values → WritesRow g t key row r a b → WritesRow g t key values r a b
  written_as row values same = subst (λ v. WritesRow g t key v r a b) same

  pub taken_as : (row values : Row) → row ≡ values → TakesOut g t key row r a b → TakesOut g t key values r a b
  taken_as row values same = subst (λ v. TakesOut g t key v r a b) same
