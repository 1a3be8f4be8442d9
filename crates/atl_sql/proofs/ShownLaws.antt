-- Laws on the values read of the rows that a SELECT shows: they are of all rows, and of their columns' forms.
-- Of the rows `rows` that were shown, the first `at` are read, and `row` is the next. `forms` are the forms of the
-- columns, and `last` is the form of one column after them.
use Rattle.std.proofs.Common.{◌≡◌, ◌<◌, ℕ, suc, List, [], ◌∷◌, ◌++◌, ◌+◌, map, length, get_or, take, ap, ◌∙◌, refl, sym, subst, inl, inr, arith}
use Rattle.std.specs.List.Sorted.{IsPermutation}
use Rattle.std.proofs.lemmas.List.{map-append, take_more}
use Rattle.std.proofs.lemmas.List.Sorted.{IsPermutation-map}
use Rattle.sqlite.specs.Order.{Row, column}
use Rattle.sqlite_rules.specs.Lists.{Has}
use Rattle.sqlite_rules.proofs.ListLemmas.{has_at, has_either}
use Rattle.atl_columns.specs.Forms.{Form, HasForm, IsTyped, IsTypedFrom}
use Rattle.atl_sql.specs.Stored.{AreTyped}

-- Let the rows that a SELECT showed be, in some order, all the rows `tree` of the table, each as `shown` gives it. Let
-- the cut `first` change no row that `shown` gives. Then the rows that were shown, each cut by `first`, are these rows
-- too, in some order.
pub whole_shown : (shown first : Row → Row) → ((r : Row) → first (shown r) ≡ shown r) → (tree rows : List Row)
    → IsPermutation (map shown tree) rows → IsPermutation (map shown tree) (map first rows)
whole_shown shown first whole tree rows same = subst (λ l. IsPermutation l (map first rows)) (kept tree) (IsPermutation-map first _ rows same)
  where
    kept : (tree : List Row) → map first (map shown tree) ≡ map shown tree
    kept [] = refl
    kept (r ∷ tree) = ap (λ x. x ∷ map first (map shown tree)) (whole r) ∙ ap (λ l. shown r ∷ l) (kept tree)

-- if the row at the index `at` isn't in the forms of its columns, the rows aren't
pub refuses_row : (forms : List Form) (rows : List Row) (at : ℕ) (row : Row) → at < length rows
    → row ≡ get_or rows at row
    → ¬ IsTyped forms row → ¬ AreTyped forms rows
refuses_row forms rows at row within is refused typed = refused (typed row (has_at rows at row within is))

typed_more : (forms : List Form) (rows more : List Row) (row : Row) → more ≡ rows ++ row ∷ [] → AreTyped forms rows
    → IsTyped forms row → AreTyped forms more
typed_more forms rows more row is before typed r there = elim (has_either rows (row ∷ []) r (subst (λ l. Has l r) is there)) [
  | inl one ↦ before r one
  | inr last ↦ elim last [ inl same ↦ subst (IsTyped forms) (sym same) typed | inr none ↦ absurd none ]
]

-- if the first `at` rows, and the row after them, are in the forms of their columns, so are the first `at + 1`
pub typed_next : (forms : List Form) (rows : List Row) (at : ℕ) (row : Row) → at < length rows
    → row ≡ get_or rows at row → AreTyped forms (take at rows) → IsTyped forms row → AreTyped forms (take (at + 1) rows)
typed_next forms rows at row within is = typed_more forms (take at rows) (take (at + 1) rows) row (take_more rows at row within ∙ ap (λ r. take at rows ++ r ∷ []) (sym is))

-- If the values `all` were read of the first `at` rows, and `a` of the next row, the values `more`, `all` and then `a`,
-- were read of the first `at + 1`. `shown` gives the row of a value, and `cut` the columns that are read.
pub mapped_next : {A : Type 0} (shown : A → Row) (cut : Row → Row) (all more : List A) (a : A) (rows : List Row) (at : ℕ) (row : Row)
    → at < length rows → row ≡ get_or rows at row → more ≡ all ++ a ∷ [] → map shown all ≡ map cut (take at rows)
    → shown a ≡ cut row
    → map shown more ≡ map cut (take (at + 1) rows)
mapped_next shown cut all more a rows at row within is more_is same one =
    ap (map shown) more_is ∙ map-append shown all (a ∷ []) ∙ ap (λ l. l ++ shown a ∷ []) same ∙ ap (λ r. map cut (take at rows) ++ r ∷ []) (one ∙ ap cut is)
    ∙ sym (map-append cut (take at rows) (get_or rows at row ∷ [])) ∙ ap (map cut) (sym (take_more rows at row within))

-- ---- rows that show their rowid after the columns

typed_from : (forms : List Form) (last : Form) (row : Row) (at : ℕ) → IsTypedFrom at forms row
    → HasForm last (column row (at + length forms)) → IsTypedFrom at (forms ++ last ∷ []) row
typed_from [] last row at typed is = (subst (λ k. HasForm last (column row k)) (let e : at + 0 ≡ at = omega arith in e) is, tt)
typed_from (form ∷ forms) last row at typed is =
    (typed.0, typed_from forms last row (at + 1) typed.1 (subst (λ k. HasForm last (column row k)) (let e : at + suc (length forms) ≡ at + 1 + length forms = omega arith in e) is))

-- if a row's first columns are in their forms, and the column after them is in the form `last`, all are in their forms
pub typed_with : (forms : List Form) (last : Form) (row : Row) → IsTyped forms row
    → HasForm last (column row (length forms))
    → IsTyped (forms ++ last ∷ []) row
typed_with forms last row typed is =
    typed_from forms last row 0 typed (subst (λ k. HasForm last (column row k)) (let e : length forms ≡ 0 + length forms = omega arith in e) is)

first_of : (forms : List Form) (last : Form) (row : Row) (at : ℕ) → IsTypedFrom at (forms ++ last ∷ []) row
    → IsTypedFrom at forms row
first_of [] last row at typed = tt
first_of (form ∷ forms) last row at typed = (typed.0, first_of forms last row (at + 1) typed.1)

pub typed_first : (forms : List Form) (last : Form) (row : Row) → IsTyped (forms ++ last ∷ []) row → IsTyped forms row
typed_first forms last row typed = first_of forms last row 0 typed

last_of : (forms : List Form) (last : Form) (row : Row) (at : ℕ) → IsTypedFrom at (forms ++ last ∷ []) row
    → HasForm last (column row (at + length forms))
last_of [] last row at typed = subst (λ k. HasForm last (column row k)) (let e : at ≡ at + 0 = omega arith in e) typed.0
last_of (form ∷ forms) last row at typed =
    subst (λ k. HasForm last (column row k)) (let e : at + 1 + length forms ≡ at + suc (length forms) = omega arith in e) (last_of forms last row (at + 1) typed.1)

pub typed_last : (forms : List Form) (last : Form) (row : Row) → IsTyped (forms ++ last ∷ []) row
    → HasForm last (column row (length forms))
typed_last forms last row typed =
    subst (λ k. HasForm last (column row k)) (let e : 0 + length forms ≡ length forms = omega arith in e) (last_of forms last row 0 typed)
