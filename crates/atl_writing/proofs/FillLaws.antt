-- Laws on `write_founding`: empty tables are filled, one after another, until they hold the campaign.
-- A part is filled if its table, where that was empty, gets exactly the rows of the campaign `c` (`Fills`). `text` is
-- the world text. `old` is the database before a step, `new` after it, and `mid` between two steps; `ps` and `qs` are
-- the parts that the first and the second step fill. `line` makes the row of a number and its value, `lines` makes
-- several, and `es` are the entries of the map `m`: its numbers, each with its value.
use Rattle.std.proofs.Common.{◌≡◌, ◌++◌, ℕ, suc, true, List, [], ◌∷◌, take, subst, inl, inr}
use Rattle.std.specs.List.{list_all, range_with_len}
use Rattle.std.specs.Ordering.{nat_cmp}
use Rattle.std.specs.FinMap.{FinMap, entries}
use Rattle.sqlite.specs.Order.{Row}
use Rattle.sqlite.specs.Effect.{Database}
use Rattle.sqlite.specs.State.{State}
use Rattle.sqlite_rules.specs.Lists.{Has}
use Rattle.atl_campaign.specs.Campaign.{CampaignValue}
use Rattle.atl_descriptions.specs.Sets.{HasExactly, put, puts, rows_in}
use Rattle.atl_descriptions.specs.Tables.{Part, Own, Books, table_of, all_parts, campaign_table, books_table}
use Rattle.atl_sql.specs.Shown.{int}
use Rattle.atl_writing.specs.Rows.{campaign_row_of, row_of_campaign, RowsOf, rows_for, rows_in_order}
use Rattle.atl_writing.specs.GroupedRows.{AreGroups, groups_of, things_lines}
use Rattle.atl_sql.specs.PutsCampaignRow.{PutsCampaignRow}
use Rattle.atl_sql.specs.Making.{AreEmpty}
use Rattle.atl_sql.specs.Inside.{DoesInside, HasTables, IsBlank, DoesBoth, PutsRows}
use Rattle.atl_writing.specs.Filling.{Fills, FillsParts, FillsWithOwn, WritesFounding}
use Rattle.atl_sql.proofs.PartLaws.{is_among, are_apart, all_among, listed}
use Rattle.atl_writing.proofs.TurnLaws.{one_changed, both_changed}
use Rattle.atl_writing.proofs.EntryLaws.{rows_filled}
use Rattle.atl_writing.proofs.GroupRowLaws.{groups_filled}
use Rattle.atl_records.specs.Books.{AreBooks}
use Rattle.atl_writing.proofs.LedgerLaws.{books_filled}
use Rattle.atl_writing.proofs.WholeLaws.{inside_then, inside_weaker}

empty_table_has_put_row : (rows old : List Row) (row : Row) → old ≡ [] → HasExactly rows (put 1 row (Has old))
    → HasExactly rows (λ r. r ≡ row)
empty_table_has_put_row rows old row none made r = (
  λ there. elim ((made r).0 there) [ inl same ↦ same | inr was ↦ absurd (subst (λ l. Has l r) none was.0) ],
  λ same. (made r).1 (inl same),
)

module _ (c : CampaignValue) where
  -- ---- one table

  -- putting the campaign row fills its part, if its table was empty
  pub own_filled : (text : List ℕ) (old new : Database) → PutsCampaignRow (campaign_row_of c) text old new
      → FillsWithOwn text c (Own ∷ []) old new
  own_filled text old new did none =
      one_changed (Fills c (row_of_campaign text c)) Own _ old new (did.first none)
      (λ rows empty. empty_table_has_put_row _ _ (row_of_campaign text c) empty rows)

  -- putting one row for each entry of `m`, which begins with the entry's number, fills a part, if the rows that the
  -- part has to have are those of `m`
  pub numbered_filled : {V : Type 0} (part : Part) (line : ℕ → V → Row)
      → ((n : ℕ) (v : V) → take 1 (line n v) ≡ int n ∷ []) → (m : FinMap nat_cmp V)
      → ((own : Row) (rows : List Row) → HasExactly rows (RowsOf line m) → HasExactly rows (rows_for own c part))
      → (es : List (ℕ × V))
      → es ≡ entries m → (old new : Database) → PutsRows (table_of part) 1 (rows_in_order line es) old new
      → FillsParts c (part ∷ []) old new
  numbered_filled {V} part line numbered m are es same old new did own = one_changed (Fills c own) part _ old new did (λ made none.
      let was = rows_in (table_of part) old.trees in
      let now = rows_in (table_of part) new.trees in
      are own now (rows_filled line numbered now was m none (subst (λ (l : List (ℕ × V)). HasExactly now (puts 1 (rows_in_order line l) (Has was))) same made)))

  -- putting the rows that `lines` gives for all entries of `m` fills a part, if its rows come in these groups
  -- (`AreGroups`); their key is the first `more + 1` columns
  pub groups_fill : {V : Type 0} (part : Part) (lines : ℕ → V → List Row) (more : ℕ) (m : FinMap nat_cmp V)
      → ((own : Row) → AreGroups lines (suc more) m (rows_for own c part)) → (es : List (ℕ × V)) → es ≡ entries m
      → (old new : Database)
      → PutsRows (table_of part) (suc more) (groups_of lines es) old new → FillsParts c (part ∷ []) old new
  groups_fill {V} part lines more m are es same old new did own = one_changed (Fills c own) part _ old new did (λ made none.
      let was = rows_in (table_of part) old.trees in
      let now = rows_in (table_of part) new.trees in
      groups_filled lines more m (rows_for own c part) (are own) now was none (subst (λ (l : List (ℕ × V)). HasExactly now (puts (suc more) (groups_of lines l) (Has was))) same made))

  -- putting the rows of all amounts that are not 0 fills the books, if these list no 0 and only their own things
  -- (`AreBooks`)
  pub books_fill : AreBooks c.books.things c.books → (old new : Database)
      → PutsRows books_table 2 (things_lines c (range_with_len 0 c.books.things)) old new
      → FillsParts c (Books ∷ []) old new
  books_fill are old new did own =
      one_changed (Fills c own) Books _ old new did
      (λ made none. books_filled c are (rows_in books_table new.trees) (rows_in books_table old.trees) none made)

  -- filling some parts, the campaign row among them, and then others fills all of them, if no part is in both lists
  pub own_then_filled : (text : List ℕ) (ps qs : List Part) → are_apart ps qs ≡ true → (old mid new : Database)
      → FillsWithOwn text c ps old mid → FillsParts c qs mid new → FillsWithOwn text c (ps ++ qs) old new
  own_then_filled text ps qs apart old mid new first second none =
      both_changed (Fills c (row_of_campaign text c)) ps qs apart old mid new (first none)
      (second (row_of_campaign text c))

  -- making the ten empty tables where there is no table (`IsBlank`), and then filling all parts, writes the founding
  pub founding_done : (text : List ℕ) (parts : List Part) → list_all (is_among parts) all_parts ≡ true
      → (start mid end : State) → DoesInside IsBlank AreEmpty start mid
      → DoesInside HasTables (FillsWithOwn text c parts) mid end → DoesInside IsBlank (WritesFounding text c) start end
  founding_done text parts all start mid end first second =
      let fills = FillsWithOwn text c parts in
      inside_weaker IsBlank (DoesBoth AreEmpty fills) (WritesFounding text c) start end
      (λ blank did. record { rows = λ part. (did.2 (did.1 campaign_table (listed Own))).done part (all_among parts all part) (did.1 (table_of part) (listed part)) })
      (inside_then IsBlank AreEmpty fills start mid end first second)
