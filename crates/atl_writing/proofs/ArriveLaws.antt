-- Laws on what single statements make of a table: a row put under its number, and an amount of the books written.
-- `c` is the campaign that is written; `e` and `t` are the entry and the thing of an amount in its books. `old` is the
-- database before a statement, and `new` after it. As lists, `rows` are the rows of a table before, and `news` those
-- after. `line` makes the row of a number and its value, which begins with the number (`numbered`).
use Rattle.std.proofs.Common.{◌≡◌, ◌≢◌, ◌⊎◌, ◌+◌, ℕ, ℤ, pos, List, [], ◌∷◌, take, None, refl, sym, ap, ◌∙◌, subst, inl, inr, arith}
use Rattle.std.specs.Prelude.{◌↔◌}
use Rattle.std.specs.Ordering.{nat_cmp, int_eq}
use Rattle.std.specs.FinMap.{FinMap, get, insert, empty, get-empty}
use Rattle.std.proofs.lemmas.Bool.{cases_eq}
use Rattle.std.proofs.lemmas.Option.{same_Some, none-some}
use Rattle.sqlite.specs.Order.{Row}
use Rattle.sqlite.specs.Effect.{Database}
use Rattle.sqlite_rules.specs.Lists.{Has}
use Rattle.atl_campaign.specs.Campaign.{CampaignValue}
use Rattle.atl_records.specs.Books.{Account, BooksValue, amount_in, entry_index, thing_index}
use Rattle.atl_records.specs.declared.books.BooksEntry.{BooksEntry}
use Rattle.atl_records.specs.declared.books.Thing.{Thing}
use Rattle.atl_records.specs.declared.records.Unit.{Unit}
use Rattle.atl_records.proofs.AccountLaws.{same_account}
use Rattle.atl_world.proofs.EveryLaws.{get-insert_other}
use Rattle.atl_sql.specs.declared.rows.has.ThingKind.{ThingKind}
use Rattle.atl_descriptions.specs.Sets.{Set, HasExactly, put}
use Rattle.atl_descriptions.specs.Tables.{Books, books_table}
use Rattle.atl_sql.specs.Shown.{int, books_key, books_row}
use Rattle.atl_writing.specs.Rows.{RowsOf, HasRowsOf, BooksRowsOf, things_of}
use Rattle.atl_writing.specs.GroupedRows.{amount_lines}
use Rattle.atl_writing.specs.Arriving.{rows_with_amount, WritesAmount}
use Rattle.atl_descriptions.specs.Statements.{deletion, upsert}
use Rattle.atl_writing.specs.OwnStatements.{OfAmount, puts_amount, drops_amount, OfChange, changes_row, puts_row, drops_row}
use Rattle.atl_writing.proofs.EntryLaws.{same_number}
use Rattle.atl_writing.proofs.HasTableLaws.{optional_has, has_optional}
use Rattle.atl_writing.proofs.LedgerLaws.{books_key_determines_numbers, differs_zero, is_differing, amount_is}
use Rattle.atl_sql.specs.Inside.{Puts, Drops}
use Rattle.atl_world.proofs.TrackLaws.{get_inserted}

-- ---- one entry more in a map

-- if rows are those of the map `m`, then with the row of `v` put under the number `n` they are those of `m` with `v`
-- under `n`
pub put_rows : {V : Type 0} (line : ℕ → V → Row) (numbered : (n : ℕ) (v : V) → take 1 (line n v) ≡ int n ∷ []) (rows news : List Row) (m : FinMap nat_cmp V) (n : ℕ) (v : V)
    → HasExactly rows (RowsOf line m) → HasExactly news (put 1 (line n v) (Has rows))
    → HasExactly news (RowsOf line (insert m n v))
put_rows line numbered rows news m n v was made r = (
  λ there. elim ((made r).0 there) [
    | inl same ↦ (n, v, get_inserted m n v, same)
    | inr kept ↦
        let old = (was r).0 kept.0 in
        (old.0, old.1, get-insert_other m n old.0 v (λ e. kept.1 (ap (take 1) old.3 ∙ numbered old.0 old.1 ∙ ap (λ k. int k ∷ []) e ∙ sym (numbered n v))) ∙ old.2, old.3)
  ],
  λ of. (made r).1 (elim (cases_eq of.0 n) [
    | inl same ↦
        let value : v ≡ of.1 = same_Some v of.1 (sym (ap (get (insert m n v)) same ∙ get_inserted m n v) ∙ of.2) in
        inl (of.3 ∙ ap (λ k. line k of.1) same ∙ ap (line n) (sym value))
    | inr apart ↦ inr (
      (was r).1 (of.0, of.1, sym (get-insert_other m n of.0 v apart) ∙ of.2, of.3),
      λ e. apart (same_number of.0 n (sym (numbered of.0 of.1) ∙ ap (take 1) (sym of.3) ∙ e ∙ numbered n v)),
    )
  ]),
)

-- the rows of the table `has` for some units are also those with one unit more, under a number `n` that none of them
-- has, if this unit has no items and skills
pub no_goods : (rows : List Row) (units : FinMap nat_cmp Unit) (n : ℕ) (u : Unit) → get units n ≡ None
    → ((sort : ThingKind) → things_of sort u.holding ≡ empty) → HasExactly rows (HasRowsOf units)
    → HasExactly rows (HasRowsOf (insert units n u))
no_goods rows units n u fresh bare was r = (
  λ there.
      let old = (was r).0 there in
      let apart : old.0 ≢ n = λ same. none-some old.1 (sym fresh ∙ ap (get units) (sym same) ∙ old.2) in
      (old.0, old.1, get-insert_other units n old.0 u apart ∙ old.2, old.3, old.4, old.5, old.6, old.7, old.8),
  λ of. (was r).1 (elim (cases_eq of.0 n) [
    | inl same ↦
        let value : u ≡ of.1 = same_Some u of.1 (sym (ap (get (insert units n u)) same ∙ get_inserted units n u) ∙ of.2) in
        let none : get (things_of of.3 of.1.holding) of.4 ≡ None = ap (λ (x : Unit). get (things_of of.3 x.holding) of.4) (sym value) ∙ ap (λ (m : FinMap nat_cmp ℕ). get m of.4) (bare of.3) ∙ get-empty nat_cmp of.4 in
        absurd (none-some of.5 (sym none ∙ of.6))
    | inr apart ↦ (of.0, of.1, sym (get-insert_other units n of.0 u apart) ∙ of.2, of.3, of.4, of.5, of.6, of.7, of.8)
  ]),
)

-- ---- one amount of the books

module _ (c : CampaignValue) (e : BooksEntry) (t : Thing) where
  abbrev row : Row
  row = books_row (entry_index e + 1) (thing_index t) (amount_in c.books e t)

  -- writing the campaign's amount of entry `e` and thing `t` turns the rows `S` of books `A` into those of `B`, if `B`
  -- is `A` with this amount
  pub written_amount_changes_books : (A B : BooksValue) (S : Set) → amount_in B e t ≡ amount_in c.books e t
      → ((f : BooksEntry) (u : Thing) → (entry_index f ≢ entry_index e) ⊎ (thing_index u ≢ thing_index t) → amount_in B f u ≡ amount_in A f u)
      → ((r : Row) → S r ↔ BooksRowsOf A r) → (r : Row) → rows_with_amount c e t S r ↔ BooksRowsOf B r
  written_amount_changes_books A B S here aside was r = (
    λ there. elim there [
      | inl new ↦
          let is = optional_has (int_eq (amount_in c.books e t) (pos 0)) row r new in
          (e, t, λ none. differs_zero (amount_in c.books e t) is.0 (sym here ∙ none), is.1 ∙ ap (books_row (entry_index e + 1) (thing_index t)) (sym here))
      | inr kept ↦
          let old = (was r).0 kept.0 in
          let same = aside old.0 old.1 (apart old.0 old.1 (λ q. kept.1 (ap (take 2) old.3 ∙ q))) in
          (old.0, old.1, λ none. old.2 (sym same ∙ none), old.3 ∙ ap (books_row (entry_index old.0 + 1) (thing_index old.1)) (sym same))
    ],
    λ of. elim (cases_eq (entry_index of.0) (entry_index e)) [
      | inl entries ↦ elim (cases_eq (thing_index of.1) (thing_index t)) [
        | inl things ↦
            let same : amount_in B of.0 of.1 ≡ amount_in c.books e t = ap (λ (a : Account). amount_in B a.0 a.1) (same_account of.0 e of.1 t entries things) ∙ here in
            let row_is : r ≡ row = of.3 ∙ ap (λ k. books_row (k + 1) (thing_index of.1) (amount_in B of.0 of.1)) entries ∙ ap (λ k. books_row (entry_index e + 1) k (amount_in B of.0 of.1)) things ∙ ap (books_row (entry_index e + 1) (thing_index t)) same in
            inl (subst (Has (amount_lines c e t)) (sym row_is) (has_optional (int_eq (amount_in c.books e t) (pos 0)) row (is_differing (amount_in c.books e t) (λ none. of.2 (same ∙ none)))))
        | inr things ↦ inr (kept_row of.0 of.1 of.2 of.3 (inr things))
      ]
      | inr entries ↦ inr (kept_row of.0 of.1 of.2 of.3 (inl entries))
    ],
  )
    where
      apart : (f : BooksEntry) (u : Thing)
          → ◌≢◌ {A = Row} (books_key (entry_index f + 1) (thing_index u)) (books_key (entry_index e + 1) (thing_index t))
          → (entry_index f ≢ entry_index e) ⊎ (thing_index u ≢ thing_index t)
      apart f u differs = elim (cases_eq (entry_index f) (entry_index e)) [
        | inl entries ↦ inr (λ things. differs (ap (λ k. books_key (k + 1) (thing_index u)) entries ∙ ap (books_key (entry_index e + 1)) things))
        | inr entries ↦ inl entries
      ]

      kept_row : (f : BooksEntry) (u : Thing) → amount_in B f u ≢ pos 0
          → r ≡ books_row (entry_index f + 1) (thing_index u) (amount_in B f u)
          → (entry_index f ≢ entry_index e) ⊎ (thing_index u ≢ thing_index t)
          → S r × (take 2 r ≢ books_key (entry_index e + 1) (thing_index t))
      kept_row f u some is far = (
        (was r).1 (f, u, λ none. some (aside f u far ∙ none), is ∙ ap (books_row (entry_index f + 1) (thing_index u)) (aside f u far)),
        λ q.
            let keys = books_key_determines_numbers (entry_index f + 1) (thing_index u) (entry_index e + 1) (thing_index t) (ap (take 2) (sym is) ∙ q) in
            elim far [ inl entries ↦ entries (omega (arith, keys.0)) | inr things ↦ things keys.1 ],
      )

-- the statements that write an amount of the books (`OfAmount`); `n` and `k` are the numbers that its row has for the
-- entry and the thing
module _ (c : CampaignValue) (e : BooksEntry) (t : Thing) (n k : ℕ) (entry : n ≡ entry_index e + 1) (thing : k ≡ thing_index t) where
  -- the statement that puts the row of an amount `z`, which is not 0, is the one that writes it; the row has `n` and
  -- `k` for entry and thing
  pub amount_put : (z : ℤ) → z ≡ amount_in c.books e t → z ≢ pos 0
      → OfAmount c e t (upsert books_table 2) (books_row n k z)
  amount_put z amount some = rw (entry, thing, amount) (puts_amount (λ zero. some (amount ∙ zero)))

  -- if an amount is 0, the statement that deletes the row of its key is the one that writes it
  pub amount_taken : amount_in c.books e t ≡ pos 0 → OfAmount c e t (deletion books_table 2) (books_key n k)
  amount_taken zero = rw (entry, thing) (drops_amount zero)

-- a statement that writes an amount of the books is one that a change may run (`OfChange`)
pub amount_changes : (c : CampaignValue) (e : BooksEntry) (t : Thing) (sql : List ℕ) (params : Row)
    → OfAmount c e t sql params → OfChange c sql params
amount_changes c e t sql params (puts_amount some) = changes_row (puts_row Books (λ own. (e, t, some, refl)))
amount_changes c e t sql params (drops_amount zero) = drops_row Books (
  refl,
  λ own row of key.
      let keys = books_key_determines_numbers (entry_index of.0 + 1) (thing_index of.1) (entry_index e + 1) (thing_index t) (ap (take 2) (sym of.3) ∙ key) in
      let entry : entry_index of.0 ≡ entry_index e = omega (arith, keys.0) in
      of.2 (ap (λ (a : Account). amount_in c.books a.0 a.1) (same_account of.0 e of.1 t entry keys.1) ∙ zero),
)

-- an amount is written: its row is put, or deleted if the amount is 0; `n` and `k` are the numbers that the row has for
-- the entry and the thing
module _ (c : CampaignValue) (e : BooksEntry) (t : Thing) (n k : ℕ) (entry : n ≡ entry_index e + 1) (thing : k ≡ thing_index t) (old new : Database) where
  -- to put the row of an amount `z` that is not 0 writes the amount
  pub put_writes_amount : (z : ℤ) → z ≡ amount_in c.books e t → z ≢ pos 0 → Puts books_table 2 (books_row n k z) old new
      → WritesAmount c e t old new
  put_writes_amount z amount some did =
      let lines : amount_lines c e t ≡ books_row n k z ∷ [] = amount_is c e t n k z entry thing amount some in
      let keys : take 2 (books_row n k z) ≡ books_key (entry_index e + 1) (thing_index t) = rw (entry, thing) refl in
      record {
        rows = λ r. (
          λ there. elim ((did.rows r).0 there) [ inl same ↦ inl (subst (λ l. Has l r) (sym lines) (inl same)) | inr kept ↦ inr (kept.0, λ q. kept.1 (q ∙ sym keys)) ],
          λ h. (did.rows r).1 (elim h [ inl there ↦ elim (subst (λ l. Has l r) lines there) [ inl same ↦ inl same | inr none ↦ absurd none ] | inr kept ↦ inr (kept.0, λ q. kept.1 (q ∙ keys)) ]),
        );
        others = did.others;
      }

  -- to delete the row of an amount's key writes the amount, if this is 0
  pub drop_writes_amount : amount_in c.books e t ≡ pos 0 → Drops books_table 2 (books_key n k) old new
      → WritesAmount c e t old new
  drop_writes_amount none did =
      let keys : books_key n k ≡ books_key (entry_index e + 1) (thing_index t) = rw (entry, thing) refl in
      let lines : amount_lines c e t ≡ [] = rw none refl in
      record {
        rows = λ r. (
          λ there. let kept = (did.rows r).0 there in inr (kept.0, λ q. kept.1 (q ∙ sym keys)),
          λ h. (did.rows r).1 (elim h [ inl there ↦ absurd (subst (λ l. Has l r) lines there) | inr kept ↦ (kept.0, λ q. kept.1 (q ∙ keys)) ]),
        );
        others = did.others;
      }
