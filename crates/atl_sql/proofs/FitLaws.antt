-- Laws on rows whose values are of their columns' types: SQL stores them unchanged, inserted or updated.
-- A numbered row, whose key is a number, is stored as the number, NULL, and the values of the other columns.
-- `cs` are columns, and `vs` values for them. `width` is how many values a numbered row has after its number. In a
-- term, `col 0 n` is the parameter at the index `n`, and `col 1 0` the number of the row that is there.
use Rattle.std.proofs.Common.{◌≡◌, ◌++◌, ◌+◌, ◌/◌, ℕ, pos, zero, suc, List, [], ◌∷◌, length, map, take, Some, refl, ap, ◌∙◌, subst, arith, nat_eq, false}
use Rattle.std.specs.List.{range_with_len}
use Rattle.std.proofs.Math.Nat.{div_self}
use Rattle.std.proofs.lemmas.Bool.Decides.{nat_tests}
use Rattle.std.proofs.lemmas.List.{append-nil, take_all}
use Rattle.std.proofs.lemmas.List.FromFn.{length-map-range_with_len}
use Rattle.sqlite.specs.declared.types.Value.{Value}
use Rattle.sqlite.specs.declared.types.Value.TheVariants.{Null}
use Rattle.sqlite.specs.Effect.{value_rows}
use Rattle.sqlite.specs.Term.{Term, lit, col, eval_all}
use Rattle.sqlite_sql.specs.Term.{eval}
use Rattle.sqlite.specs.Order.{Row, column}
use Rattle.sqlite.specs.Table.{Table}
use Rattle.sqlite_schema.specs.declared.schema.Column.{Column}
use Rattle.sqlite_schema.specs.Names.{place_of}
use Rattle.sqlite_rules.specs.Cast.{cast_all, cast_row}
use Rattle.sqlite_trees.proofs.ListLemmas.{map-map}
use Rattle.atl_columns.specs.Fields.{Fits}
use Rattle.atl_descriptions.specs.Sets.{table, visible_row}
use Rattle.atl_descriptions.specs.Tables.{integer_column}
use Rattle.atl_sql.specs.Shown.{int}
use Rattle.atl_sql.proofs.Terms.{cast_null, cast_int}

pub fits_length : (cs : List Column) (vs : Row) → Fits cs vs → length vs ≡ length cs
fits_length [] [] fits = refl
fits_length [] (v ∷ vs) fits = absurd fits
fits_length (c ∷ cs) [] fits = absurd fits
fits_length (c ∷ cs) (v ∷ vs) fits = ap suc (fits_length cs vs fits.1)

fits_cast : (cs : List Column) (vs : Row) → Fits cs vs → cast_all cs vs ≡ vs
fits_cast [] [] fits = refl
fits_cast [] (v ∷ vs) fits = absurd fits
fits_cast (c ∷ cs) [] fits = absurd fits
fits_cast (c ∷ cs) (v ∷ vs) fits = let here = fits.0 in let later = fits_cast cs vs fits.1 in cc

-- ---- the columns of a row, one by one

shifted_range_maps_alike : {X : Type 0} (f g : ℕ → X) → ((k : ℕ) → f (k + 1) ≡ g k) → (a n : ℕ)
    → map f (range_with_len (a + 1) n) ≡ map g (range_with_len a n)
shifted_range_maps_alike f g same a zero = refl
shifted_range_maps_alike f g same a (suc n) = let here = same a in let later = shifted_range_maps_alike f g same (a + 1) n in cc

next_column : (v : Value) (vs : Row) (k : ℕ) → column (v ∷ vs) (k + 1) ≡ column vs k
next_column v vs k = let next : k + 1 ≡ suc k = omega arith in ap (column (v ∷ vs)) next

each_column : (vs more : Row) → map (column (vs ++ more)) (range_with_len 0 (length vs)) ≡ vs
each_column [] more = refl
each_column (v ∷ vs) more =
    ap (λ (l : Row). v ∷ l)
    (shifted_range_maps_alike (column (v ∷ (vs ++ more))) (column (vs ++ more)) (next_column v (vs ++ more)) 0 (length vs) ∙ each_column vs more)

each_later : (v : Value) (vs more : Row) → map (column (v ∷ (vs ++ more))) (range_with_len 1 (length vs)) ≡ vs
each_later v vs more =
    shifted_range_maps_alike (column (v ∷ (vs ++ more))) (column (vs ++ more)) (next_column v (vs ++ more)) 0
    (length vs)
    ∙ each_column vs more

column_after : (vs : Row) (x : Value) (more : Row) → column (vs ++ x ∷ more) (length vs) ≡ x
column_after [] x more = refl
column_after (v ∷ vs) x more = column_after vs x more

-- ---- what the terms make of the parameters, which are a number and so many values

-- the terms of the INSERT of a numbered row with this many values: number and values from the parameters, NULL between
abbrev pub given_row : ℕ → List Term
given_row width = col 0 0 ∷ lit Null ∷ map (col 0) (range_with_len 1 width)

-- the terms of the UPDATE of a numbered row, one for each column: the number that the row has, NULL for the key's own
-- column, and as many values as are given, from the parameters
abbrev pub changed_row : ℕ → List Term
changed_row width = col 1 0 ∷ lit Null ∷ map (col 0) (range_with_len 1 width)

-- the terms of the INSERT and of the UPDATE make the row of this number and these values
pub record MakesRow (t : Table) (width number : ℕ) (values : Row) : Type 0 where
  -- the terms of the INSERT make one row: the number, NULL and the values
  pub source : value_rows ((int number ∷ values) ++ []) (width + 2) (length (given_row width) / (width + 2)) (given_row width)
      ≡ (int number ∷ Null ∷ values) ∷ []
  -- the terms of the UPDATE give the number of the row that is there, NULL, and the values
  pub changed : (more r : Row)
      → eval_all (changed_row width) (((int number ∷ values) ++ more) ∷ r ∷ []) ≡ column r 0 ∷ Null ∷ values
  -- SQL's casts leave this row unchanged
  pub casted : cast_row t (int number ∷ Null ∷ values) ≡ int number ∷ Null ∷ values
  -- SQL shows this row as the number and the values
  pub shown : visible_row t (int number ∷ Null ∷ values) ≡ int number ∷ values
  -- of what the UPDATE reads, the column after the number and the values is `x`, the rowid of the row to change
  pub aimed : (x : Value) (more : Row) → column ((int number ∷ values) ++ x ∷ more) (width + 1) ≡ x

-- a table whose first column, of the name `key_name`, is the row's number; `columns` are the others
module _ (tree : ℕ) (name key_name : List ℕ) (columns : List Column) (uniques : List (List ℕ)) where
  abbrev t : Table
  t = table tree name (integer_column key_name ∷ columns) (Some 0) (0 ∷ []) uniques []

  -- n is the number of a row, and `values` are its other values
  module _ (n : ℕ) (values : Row) (fits : Fits columns values) where
    abbrev width : ℕ
    width = length values

    abbrev stored_row : Row
    stored_row = int n ∷ Null ∷ values

    of_parameters : (more : Row) (rows : List Row)
        → eval_all (map (col 0) (range_with_len 1 width)) ((int n ∷ (values ++ more)) ∷ rows) ≡ values
    of_parameters more rows =
        map-map (λ (t : Term). eval t ((int n ∷ (values ++ more)) ∷ rows)) (col 0) (range_with_len 1 width)
        ∙ each_later (int n) values more

    source_is : value_rows ((int n ∷ values) ++ []) (width + 2) (length (given_row width) / (width + 2)) (given_row width)
        ≡ stored_row ∷ []
    source_is =
        let counted : length (given_row width) ≡ width + 2 = omega (arith, length-map-range_with_len (col 0) 1 width) in
        let once : length (given_row width) / (width + 2) ≡ 1 = ap (λ (n : ℕ). n / (width + 2)) counted ∙ div_self {n = width + 2} (omega arith) in
        let all : take (width + 2) (given_row width) ≡ given_row width = take_all (width + 2) (given_row width) (omega (arith, counted)) in
        ap (λ (count : ℕ). value_rows ((int n ∷ values) ++ []) (width + 2) count (given_row width)) once
        ∙ ap (λ (l : List Term). eval_all l (((int n ∷ values) ++ []) ∷ []) ∷ []) all
        ∙ ap (λ (l : Row). (int n ∷ Null ∷ l) ∷ []) (of_parameters [] [])

    shown_is : visible_row t stored_row ≡ int n ∷ values
    shown_is =
        let alone : map (column values) (range_with_len 0 width) ≡ values = subst (λ l. map (column l) (range_with_len 0 width) ≡ values) (append-nil values) (each_column values []) in
        let after : map (λ k. column stored_row (place_of t k)) (range_with_len 1 width) ≡ values = shifted_range_maps_alike (λ k. column stored_row (place_of t k)) (column values) second 0 width ∙ alone in
        ap (λ l. int n ∷ l) (subst (λ w. map (λ k. column stored_row (place_of t k)) (range_with_len 1 w) ≡ values) (fits_length columns values fits) after)
      where
        second : (k : ℕ) → column stored_row (place_of t (k + 1)) ≡ column values k
        second k =
            let apart : nat_eq 0 (k + 1) ≡ false = grind (arith, nat_tests) in
            let position : place_of t (k + 1) ≡ suc (suc k) = rw apart (omega arith) in
            ap (column stored_row) position

    casted_is : cast_row t stored_row ≡ stored_row
    casted_is = rw (cast_int (pos n), cast_null, fits_cast columns values fits) refl

    made : MakesRow t width n values
    made = record {
      source = source_is;
      changed = λ more r. ap (λ l. column r 0 ∷ Null ∷ l) (of_parameters more (r ∷ []));
      casted = casted_is;
      shown = shown_is;
      aimed = λ x more. next_column (int n) (values ++ x ∷ more) width ∙ column_after values x more;
    }

    -- if the values are of their columns' types, the terms for all columns make the row of number and values
    pub makes_row : MakesRow t (length columns) n values
    makes_row = subst (λ w. MakesRow t w n values) (fits_length columns values fits) made
