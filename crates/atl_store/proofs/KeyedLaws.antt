-- Laws on rows with different numbers in one column: keys of rows, and rowids that rows are read with.
-- The listing of a part is the rows that its SELECT shows; `rows` are these.
-- `placed` are rows as they were read, each with its rowid. `reads` is all that was read, by part, and `p` the rows put
-- together for the check (`Parts`), without rowids. `at` is the index of a column, from 0, and `db` has the trees of
-- the database.
use Rattle.std.proofs.Common.{◌≡◌, ◌≢◌, ◌++◌, ℕ, ℤ, pos, true, false, List, [], ◌∷◌, ◌⊎◌, take, map, Result, Ok, Err, IfErr, IsErrAnd, inl, inr, refl, sym, ap, ◌∙◌, subst, true≢false, arith}
use Rattle.std.specs.Prelude.{if◌then◌else◌}
use Rattle.std.specs.List.{AllByRecursion, IsDistinct}
use Rattle.std.specs.List.Sorted.{IsPermutation}
use Rattle.std.specs.Ordering.{int_eq, is_eq, nat_cmp}
use Rattle.std.specs.FinMap.{FinMap, entries, is_sorted}
use Rattle.std.proofs.lemmas.Bool.{cases_Bool, and_parts}
use Rattle.std.proofs.lemmas.Int.{ints}
use Rattle.std.proofs.lemmas.List.Sorted.{IsPermutation-map}
use Rattle.sqlite.specs.declared.types.Value.TheVariants.{Int}
use Rattle.sqlite.specs.Order.{Row, column, value_cmp}
use Rattle.sqlite_value.proofs.OrderLemmas.{value_cmp-Int}
use Rattle.sqlite_trees.specs.Tree.{Trees, rowid}
use Rattle.sqlite_trees.specs.View.{is_int}
use Rattle.sqlite_rules.specs.Lists.{Has}
use Rattle.sqlite_rules.proofs.ListLemmas.{all_from, all_has}
use Rattle.atl_world.specs.declared.format.Format.TheVariants.{Second}
use Rattle.atl_rows.specs.declared.parts.Parts.{Parts}
use Rattle.atl_rows.specs.declared.parts.StoredCampaignRow.{StoredCampaignRow}
use Rattle.atl_store.specs.Gathering.{HaveDistinctRowids, AllHaveDistinctRowids, HaveDistinctIntegers, IsMadeOf, FailsWithout, ReadRows, without_ids, column_count}
use Rattle.atl_store.specs.Loading.{shows_rowids, has_row_values, books_values, market_values, other_parts, rows_read}
use Rattle.atl_descriptions.specs.PartSelects.{select_of_part}
use Rattle.atl_writing.specs.Rows.{rows_in_order}
use Rattle.atl_descriptions.specs.Sets.{AreKeyedByRowid, visible_row, rows_in}
use Rattle.atl_sql.specs.Shown.{has_stored, books_stored, market_stored}
use Rattle.atl_descriptions.specs.Tables.{Part, Own, Goods, Books, Markets, table_of}
use Rattle.atl_store.specs.declared.fault.LoadFault.{LoadFault}
use Rattle.atl_store.specs.declared.fault.LoadFault.TheVariants.{Store, Damaged, NotACampaign, OtherFormat, Memory}
use Rattle.atl_sql.specs.declared.rows.stored.RowWithId.{RowWithId}
use Rattle.atl_writing.proofs.EntryLaws.{below_has, less_apart, in_order}
use Rattle.atl_sql.proofs.ListLaws.{map_has}
use Rattle.atl_store.proofs.LoadLaws.{keyed_by, keyed_shown}

-- ---- rows by a number that each of them has in a column

-- `shown` gives the row as SQL shows it, and `number` the integer that this row has in the column `at`
module _ {A : Type 0} (shown : A → Row) (number : A → ℤ) (at : ℕ) (is : (a : A) → column (shown a) at ≡ Int (number a)) where
  same_test : (a b : A) → is_eq (value_cmp (column (shown a) at) (column (shown b) at)) ≡ int_eq (number a) (number b)
  same_test a b = ap (λ v. is_eq (value_cmp v (column (shown b) at))) (is a) ∙ ap (λ v. is_eq (value_cmp (Int (number a)) v)) (is b) ∙ ap is_eq (value_cmp-Int (number a) (number b))

  each_apart : (a : A) (xs : List A) → AllByRecursion (λ n. int_eq (number a) n ≡ false) (map number xs)
      → AllByRecursion (λ r. is_eq (value_cmp (column (shown a) at) (column r at)) ≡ false) (map shown xs)
  each_apart a [] all = tt
  each_apart a (x ∷ xs) all = (same_test a x ∙ all.0, each_apart a xs all.1)

  columns_apart : (xs : List A) → IsDistinct int_eq (map number xs)
      → IsDistinct (λ a b. is_eq (value_cmp (column a at) (column b at))) (map shown xs)
  unfolding IsDistinct
  columns_apart [] apart = tt
  columns_apart (x ∷ xs) apart = (each_apart x xs apart.0, columns_apart xs apart.1)

  are_ints : (xs : List A) → AllByRecursion (λ r. is_int (column r at) ≡ true) (map shown xs)
  are_ints [] = tt
  are_ints (x ∷ xs) = (ap is_int (is x), are_ints xs)

  numbers_keys : (xs : List A) → IsDistinct int_eq (map number xs) → HaveDistinctIntegers at (map shown xs)
  numbers_keys xs apart = record { apart = columns_apart xs apart; ints = are_ints xs }

  each_number_apart : (a : A) (xs : List A)
      → AllByRecursion (λ r. is_eq (value_cmp (column (shown a) at) (column r at)) ≡ false) (map shown xs)
      → AllByRecursion (λ n. int_eq (number a) n ≡ false) (map number xs)
  each_number_apart a [] all = tt
  each_number_apart a (x ∷ xs) all = (sym (same_test a x) ∙ all.0, each_number_apart a xs all.1)

  numbers_apart : (xs : List A) → IsDistinct (λ a b. is_eq (value_cmp (column a at) (column b at))) (map shown xs)
      → IsDistinct int_eq (map number xs)
  unfolding IsDistinct
  numbers_apart [] apart = tt
  numbers_apart (x ∷ xs) apart = (each_number_apart x xs apart.0, numbers_apart xs apart.1)

-- ---- rows of the entries of a map, with the numbers in the first column

differ : (m n : ℕ) → m ≢ n → int_eq (pos m) (pos n) ≡ false
differ m n apart = elim (cases_Bool (int_eq (pos m) (pos n))) [ inl same ↦ absurd (apart (grind (ints, arith))) | inr differs ↦ differs ]

entries_apart : {V : Type 0} (es : List (ℕ × V)) → is_sorted nat_cmp es ≡ true
    → IsDistinct int_eq (map (λ (e : ℕ × V). pos e.0) es)
unfolding IsDistinct
entries_apart [] sorted = tt
entries_apart {V} (e ∷ es) sorted = (
  all_from (λ n. int_eq (pos e.0) n ≡ false) (map (λ (x : ℕ × V). pos x.0) es) (λ n there.
      let x = map_has (λ (x : ℕ × V). pos x.0) es n there in
      ap (int_eq (pos e.0)) x.2 ∙ differ e.0 x.0.0 (less_apart e.0 x.0.0 (below_has e.0 es x.0 (and_parts _ _ sorted).0 x.1))),
  entries_apart es (and_parts _ _ sorted).1,
)

-- the rows that `line` makes of a map's numbers and values have different integers in column 0, if the number is there
pub lines_keys : {V : Type 0} (line : ℕ → V → Row) → ((n : ℕ) (v : V) → column (line n v) 0 ≡ Int (pos n))
    → (m : FinMap nat_cmp V) → HaveDistinctIntegers 0 (rows_in_order line (entries m))
lines_keys {V} line numbered m = numbers_keys (λ (e : ℕ × V). line e.0 e.1) (λ (e : ℕ × V). pos e.0) 0 (λ e. numbered e.0 e.1) (entries m) (entries_apart (entries m) (in_order m))

-- one row alone, with an integer in its first column, has integers there, no two alike
pub one_keys : (row : Row) (n : ℤ) → column row 0 ≡ Int n → HaveDistinctIntegers 0 (row ∷ [])
unfolding IsDistinct
one_keys row n is = record { apart = (tt, tt); ints = (ap is_int is, tt) }

-- ---- the rows of a part, as its listing shows them

pub mapped_twice : {X Y Z : Type 0} (f : X → Y) (g : Y → Z) (h : X → Z) → ((x : X) → g (f x) ≡ h x) → (xs : List X)
    → map g (map f xs) ≡ map h xs
mapped_twice f g h same [] = refl
mapped_twice f g h same (x ∷ xs) = ap (λ y. y ∷ map g (map f xs)) (same x) ∙ ap (λ ys. h x ∷ ys) (mapped_twice f g h same xs)

abbrev placed_row : Part → Row → Row
placed_row part r = visible_row (table_of part) r ++ rowid r ∷ []

cut_row : (part : Part) (r : Row) → take (column_count part) (placed_row part r) ≡ visible_row (table_of part) r
cut_row Own r = refl
cut_row part r = refl

row_place : (part : Part) (r : Row) → column (placed_row part r) (column_count part) ≡ rowid r
row_place Own r = refl
row_place part r = refl

-- The rows that a part's SELECT shows are all rows with their rowids or, where the first column is the rowid, without.
shown_by : (part : Part)
    → ((shows_rowids part ≡ true) × ((db : Trees) → (select_of_part part).in_table db ≡ map (placed_row part) (db (table_of part).tree)))
    ⊎ ((shows_rowids part ≡ false) × ((db : Trees) → (select_of_part part).in_table db ≡ rows_in (table_of part) db) × ((r : Row) → column (visible_row (table_of part) r) 0 ≡ rowid r))
shown_by Goods = inl (refl, λ db. refl)
shown_by Books = inl (refl, λ db. refl)
shown_by Markets = inl (refl, λ db. refl)
shown_by part = inr (refl, λ db. refl, λ r. refl)

in_places : (part : Part) → shows_rowids part ≡ true → (db : Trees)
    → (select_of_part part).in_table db ≡ map (placed_row part) (db (table_of part).tree)
in_places part is = elim (shown_by part) [ inl positions ↦ positions.1 | inr whole ↦ absurd (true≢false (sym is ∙ whole.0)) ]

row_number : (part : Part) → shows_rowids part ≡ false → (r : Row) → column (visible_row (table_of part) r) 0 ≡ rowid r
row_number part is = elim (shown_by part) [ inl positions ↦ absurd (true≢false (sym positions.0 ∙ is)) | inr whole ↦ whole.2 ]

-- the rows of a part that is shown with rowids are, without these, their columns before the rowid
pub cut_places : (part : Part) (rows : List Row) → shows_rowids part ≡ true
    → without_ids part rows ≡ map (take (column_count part)) rows
cut_places part rows is = ap (λ b. if b then map (take (column_count part)) rows else rows) is

-- the rows of a part that is shown without rowids stay as they are
pub cut_nothing : (part : Part) (rows : List Row) → shows_rowids part ≡ false → without_ids part rows ≡ rows
cut_nothing part rows is = ap (λ b. if b then map (take (column_count part)) rows else rows) is

module _ (part : Part) (db : Trees) (rows : List Row) where
  without_places : IsPermutation (map (placed_row part) (db (table_of part).tree)) rows
      → IsPermutation (rows_in (table_of part) db) (map (take (column_count part)) rows)
  without_places same =
      subst (λ l. IsPermutation l (map (take (column_count part)) rows)) (mapped_twice (placed_row part) (take (column_count part)) (visible_row (table_of part)) (cut_row part) (db (table_of part).tree))
      (IsPermutation-map (take (column_count part)) (map (placed_row part) (db (table_of part).tree)) rows same)

  module _ (is : shows_rowids part ≡ true) (same : IsPermutation ((select_of_part part).in_table db) rows) where
    same_placed : IsPermutation (map (placed_row part) (db (table_of part).tree)) rows
    same_placed = subst (λ l. IsPermutation l rows) (in_places part is db) same

    -- if the rowids that the part's SELECT shows are different integers, so are those in the table's tree
    pub rowids_keyed : HaveDistinctIntegers (column_count part) rows → AreKeyedByRowid (db (table_of part).tree)
    rowids_keyed keys = keyed_by (placed_row part) (column_count part) (db (table_of part).tree) rows (row_place part) same_placed keys

    -- if the rowids in the table's tree are different integers, so are those that the part's SELECT shows
    pub keyed_places : AreKeyedByRowid (db (table_of part).tree) → HaveDistinctIntegers (column_count part) rows
    keyed_places keyed = keyed_shown (placed_row part) (column_count part) (db (table_of part).tree) rows (row_place part) same_placed keyed

  -- where a part is shown without rowids, its first column is the rowid: if that shows different integers, the rowids
  -- in the table's tree are different integers
  pub numbers_keyed : shows_rowids part ≡ false → IsPermutation (rows_in (table_of part) db) rows
      → HaveDistinctIntegers 0 rows → AreKeyedByRowid (db (table_of part).tree)
  numbers_keyed is same keys = keyed_by (visible_row (table_of part)) 0 (db (table_of part).tree) rows (row_number part is) same keys

  -- the rows that a part's SELECT shows, without rowids, are all rows of the part's table
  pub unplaced_all : IsPermutation ((select_of_part part).in_table db) rows
      → IsPermutation (rows_in (table_of part) db) (without_ids part rows)
  unplaced_all same = elim (shown_by part) [
    | inl positions ↦ subst (IsPermutation (rows_in (table_of part) db)) (sym (cut_places part rows positions.0)) (without_places (same_placed positions.0 same))
    | inr whole ↦ subst (IsPermutation (rows_in (table_of part) db)) (sym (cut_nothing part rows whole.0)) (subst (λ l. IsPermutation l rows) (whole.1 db) same)
  ]

-- ---- rows that were read with their rowids

-- A row that was read with its rowid is shown by SQL (`stored`) as its values (`values`) and after them the rowid.
pub record IsPlacedAs {A : Type 0} (part : Part) (stored : RowWithId A → Row) (values : A → Row) : Type 0 where
  pub values_are : (s : RowWithId A) → take (column_count part) (stored s) ≡ values s.row
  pub place_is : (s : RowWithId A) → column (stored s) (column_count part) ≡ Int s.rowid

module _ {A : Type 0} {part : Part} {stored : RowWithId A → Row} {values : A → Row} (is : IsPlacedAs part stored values) (placed : List (RowWithId A)) where
  -- the values of rows read with rowids are the columns that SQL shows before the rowid
  pub placed_values : map values (map (λ s. s.row) placed) ≡ map (take (column_count part)) (map stored placed)
  placed_values =
      mapped_twice (λ (s : RowWithId A). s.row) values (λ (s : RowWithId A). values s.row) (λ s. refl) placed ∙ sym (mapped_twice stored (take (column_count part)) (λ (s : RowWithId A). values s.row) is.values_are placed)

  -- if the rowids that were read differ, those that SQL shows are different integers
  pub placed_keys : HaveDistinctRowids placed → HaveDistinctIntegers (column_count part) (map stored placed)
  placed_keys apart = numbers_keys stored (λ s. s.rowid) (column_count part) is.place_is placed apart

  -- if the rowids that SQL shows are different integers, those that were read differ
  pub placed_apart : HaveDistinctIntegers (column_count part) (map stored placed) → HaveDistinctRowids placed
  placed_apart keys = numbers_apart stored (λ s. s.rowid) (column_count part) is.place_is placed keys.apart

-- rows of `has`, `books` and `market` that were read with rowids are shown as their values and then the rowid
pub has_placed : IsPlacedAs Goods has_stored has_row_values
has_placed = record { values_are = λ s. refl; place_is = λ s. refl }

pub books_placed : IsPlacedAs Books books_stored books_values
books_placed = record { values_are = λ s. refl; place_is = λ s. refl }

pub market_placed : IsPlacedAs Markets market_stored market_values
market_placed = record { values_are = λ s. refl; place_is = λ s. refl }

-- ---- the rows that are to be checked

-- A part is made of what was read: its rows to be checked are the rows read, without their rowids.
-- Where it is shown with rowids, these are integers, no two alike.
pub record IsMadeAs (p : Parts) (read : Part × List Row) : Type 0 where
  pub rows : (text : List ℕ) → rows_read text p read.0 ≡ without_ids read.0 read.1
  pub apart : shows_rowids read.0 ≡ true → HaveDistinctIntegers (column_count read.0) read.1

-- a part that is shown without rowids is made of the rows that were read (`IsMadeAs`), if `p` has these rows of it,
-- whatever world text is given
pub made_whole : {p : Parts} {rows : List Row} (part : Part) → shows_rowids part ≡ false
    → ((text : List ℕ) → rows_read text p part ≡ rows) → IsMadeAs p (part, rows)
made_whole {p} {rows} part free are = record {
  rows = λ text. are text ∙ sym (cut_nothing part rows free);
  apart = λ placed. absurd (true≢false (sym placed ∙ free));
}

-- a part that is shown with rowids is made of what was read (`IsMadeAs`), if `p` has the rows that were read, without
-- their rowids, whatever world text is given, and no two rowids are alike
pub made_placed : {p : Parts} {A : Type 0} {part : Part} {stored : RowWithId A → Row} {values : A → Row}
    → IsPlacedAs part stored values → shows_rowids part ≡ true → (placed : List (RowWithId A))
    → ((text : List ℕ) → rows_read text p part ≡ map values (map (λ s. s.row) placed)) → HaveDistinctRowids placed → IsMadeAs p (part, map stored placed)
made_placed {p} {A} {part} {stored} {values} is has placed are apart = record {
  rows = λ text. are text ∙ placed_values is placed ∙ sym (cut_places part (map stored placed) has);
  apart = λ _. placed_keys is placed apart;
}

-- `p` is made of `head` and of the rows read (`IsMadeOf`), if `head` is its only campaign row, all other parts were
-- read in their order, and each of these is made of its rows (`IsMadeAs`).
pub made_of : {head : StoredCampaignRow} {reads : ReadRows} {p : Parts}
    → map (λ read. read.0) reads ≡ other_parts Second → p.campaign ≡ head ∷ [] → AllByRecursion (IsMadeAs p) reads
    → IsMadeOf head reads p
made_of {head} {reads} {p} parts campaign all = record {
  parts = parts;
  campaign = campaign;
  rows = λ text read there. (all_has (IsMadeAs p) reads read all there).rows text;
  apart = record { each = λ read there. (all_has (IsMadeAs p) reads read all there).apart };
}

-- A fault of testing the rowids of one part that was read, Store if two are alike, or Memory, is also one of testing
-- those of all parts (`FailsWithout`). `r` is the result of the latter, with the same fault.
pub part_fault_is_of_all : {A B : Type 0} {part : Part} {stored : RowWithId A → Row} {values : A → Row}
    → IsPlacedAs part stored values → shows_rowids part ≡ true → (placed : List (RowWithId A)) (reads : ReadRows)
    → Has reads (part, map stored placed)
    → (fault : LoadFault) → FailsWithout (HaveDistinctRowids placed) fault → (r : Result B LoadFault) → IsErrAnd r (λ says. says ≡ fault) → IfErr r (FailsWithout (AllHaveDistinctRowids reads))
part_fault_is_of_all is has placed reads there fault lacks (Ok b) says = tt
part_fault_is_of_all {A} {B} {part} {stored} is has placed reads there fault lacks (Err f) says = subst (FailsWithout (AllHaveDistinctRowids reads)) (sym says) (all fault lacks)
  where
    all : (fault : LoadFault) → FailsWithout (HaveDistinctRowids placed) fault
        → FailsWithout (AllHaveDistinctRowids reads) fault
    all Store lacks = λ apart. lacks (placed_apart is placed (apart.each (part, map stored placed) there has))
    all (Damaged rule) lacks = lacks
    all NotACampaign lacks = lacks
    all OtherFormat lacks = lacks
    all Memory lacks = lacks
