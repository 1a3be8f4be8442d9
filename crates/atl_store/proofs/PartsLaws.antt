-- Laws on tables whose rows are those of a campaign: if the rows that were read are made of it, the tables hold it.
-- Rows are made of a campaign `c` if they are those that it has in a format `f`, each once, in any order (`AreRowsOf`).
-- `p` are the rows that were read of all tables, `db` has the trees of the database, and `text` is the world text.
use Rattle.std.proofs.Common.{◌≡◌, ◌≢◌, ◌==◌, ℕ, ℤ, pos, Bool, true, false, cond, not, unwrap_or, Some, None, List, [], ◌∷◌, filter, map, refl, sym, ap, ◌∙◌, subst, inl, inr, true≢false, IsTrue}
use Rattle.std.specs.List.{AllByRecursion}
use Rattle.std.specs.List.Sorted.{IsPermutation}
use Rattle.std.specs.Ordering.{nat_cmp}
use Rattle.std.specs.FinMap.{FinMap, entries, get}
use Rattle.std.proofs.lemmas.Bool.{cases_Bool}
use Rattle.std.proofs.lemmas.List.Sorted.{IsPermutation-map, IsPermutation-sym, IsPermutation-trans}
use Rattle.sqlite.specs.declared.types.Value.TheVariants.{Int, Text}
use Rattle.sqlite.specs.Order.{Row, column}
use Rattle.sqlite.specs.Table.{Table}
use Rattle.sqlite_trees.specs.Tree.{Trees}
use Rattle.sqlite_rules.specs.Lists.{Has}
use Rattle.sqlite_rules.proofs.ListLemmas.{has_either, has_left, has_right, has_filtered, has_kept}
use Rattle.atl_world.specs.declared.format.Format.{Format}
use Rattle.atl_world.specs.declared.format.Format.TheVariants.{First, Second}
use Rattle.atl_records.specs.Books.{Account, AreBooks, BooksValue, amount_in}
use Rattle.atl_records.specs.Holdings.{HoldingValue}
use Rattle.atl_world.specs.Formats.{format_number}
use Rattle.atl_world.specs.Worlds.{WorldValue}
use Rattle.atl_state.specs.Checking.{KeepsRule}
use Rattle.atl_campaign.specs.RowRules.{is_one_campaign_row, are_of_format}
use Rattle.atl_state.specs.declared.checking.Rule.TheVariants.{OneRow}
use Rattle.atl_campaign.specs.Rows.{rows_by, rows_of, amount_rows, is_zero, AreRowsOf}
use Rattle.atl_campaign.specs.Rows as made
use Rattle.atl_campaign.specs.Campaign.{CampaignValue}
use Rattle.atl_rows.specs.declared.parts.Parts.{Parts}
use Rattle.atl_rows.specs.declared.parts.StoredBooks.{StoredBooks}
use Rattle.atl_rows.specs.declared.parts.StoredHas.{StoredHas}
use Rattle.atl_rows.specs.declared.parts.StoredCampaignRow.{StoredCampaignRow}
use Rattle.atl_rows.specs.declared.parts.StoredMarket.{StoredMarket}
use Rattle.atl_records.specs.declared.records.Faction.{Faction}
use Rattle.atl_records.specs.declared.records.Region.{Region}
use Rattle.atl_records.specs.declared.records.Unit.{Unit}
use Rattle.atl_records.proofs.BookLaws.{get-listed, nonzero_fails_is_zero}
use Rattle.atl_records.proofs.AmountListLaws.{each_amount, amount_of_each}
use Rattle.atl_sql.specs.declared.rows.has.ThingKind.{ThingKind}
use Rattle.atl_sql.specs.declared.rows.has.ThingKind.TheVariants.{Item, Skill}
use Rattle.atl_store.specs.Gathering.{HaveDistinctIntegers}
use Rattle.atl_store.specs.Loading.{HaveRows, rows_read, own_stored, has_row_values, books_values, market_values, shows_rowids, tables_with_rowids}
use Rattle.atl_writing.specs.Rows.{RowsOf, rows_in_order, HasRowsOf, BooksRowsOf, MarketRowsOf, rows_for, Holds, HoldsIn, campaign_row_of, row_of_faction, row_of_region, row_of_unit, row_of_structure, things_of}
use Rattle.atl_descriptions.specs.Sets.{HasExactly, AreKeyedByRowid, rows_in}
use Rattle.atl_sql.specs.Shown.{campaign_row_in, mail_row, report_row, faction_stored, region_stored, unit_stored, structure_stored, mail_stored, report_stored}
use Rattle.atl_descriptions.specs.Tables.{Part, Own, Factions, Regions, Units, Goods, Structures, Mail, Reports, Books, Markets, table_of, all_parts, parts_in}
use Rattle.atl_sql.specs.Written.{sort_number}
use Rattle.atl_sql.proofs.EditLaws.{has_permuted}
use Rattle.atl_writing.proofs.EntryLaws.{got_entry, entry_got, flat_has, has_flat}
use Rattle.atl_writing.proofs.HasTableLaws.{is_not_zero}
use Rattle.atl_store.proofs.KeyedLaws.{mapped_twice, lines_keys, one_keys, numbers_keyed}
use Rattle.atl_sql.proofs.ListLaws.{has_map, map_has}
use Rattle.atl_sql.proofs.PartLaws.{all_among, is_among, not_among}

-- `rows` are those of a table, `read` those read of it, `made` those made of `c`; `shown` gives a row as SQL shows it
module _ {A : Type 0} (shown : A → Row) (rows : List Row) (read made : List A) (in_table : IsPermutation rows (map shown read)) (of_them : IsPermutation made read) where
  rows_made : IsPermutation rows (map shown made)
  rows_made = IsPermutation-trans rows (map shown read) (map shown made) in_table (IsPermutation-sym (map shown made) (map shown read) (IsPermutation-map shown made read of_them))

  are_made : HasExactly rows (λ r. (a : A) × Has made a × (r ≡ shown a))
  are_made r = (
    λ there. map_has shown made r (has_permuted rows (map shown made) r rows_made there),
    λ of. has_permuted (map shown made) rows r (IsPermutation-sym rows (map shown made) rows_made) (subst (Has (map shown made)) (sym of.2) (has_map shown made of.0 of.1)),
  )

-- ---- the tables by number

abbrev HasKeys : List Row → Type 0
HasKeys rows = (shown : List Row) × IsPermutation rows shown × HaveDistinctIntegers 0 shown

-- a table has exactly the rows of a map, with different numbers, if the rows read of it are made of the map's entries
table_has_rows_of_map : {A V : Type 0} {Q : Type 0} (shown : A → Row) (row : ℕ → V → A) (line : ℕ → V → Row)
    → ((n : ℕ) (v : V) → shown (row n v) ≡ line n v) → ((n : ℕ) (v : V) → column (line n v) 0 ≡ Int (pos n))
    → (rows : List Row) (read : List A) (m : FinMap nat_cmp V) → IsPermutation rows (map shown read) → IsPermutation (rows_by row (entries m)) read → HasExactly rows (RowsOf line m) × (Q → HasKeys rows)
table_has_rows_of_map {A} {V} shown row line same numbered rows read m in_table of_them = (held, λ _. (lines, is, lines_keys line numbered m))
  where
    lines : List Row
    lines = rows_in_order line (entries m)

    is : IsPermutation rows lines
    is = subst (IsPermutation rows) (mapped_twice (λ (e : ℕ × V). row e.0 e.1) shown (λ (e : ℕ × V). line e.0 e.1) (λ e. same e.0 e.1) (entries m)) (rows_made shown rows read (rows_by row (entries m)) in_table of_them)

    held : HasExactly rows (RowsOf line m)
    held r = (
      λ there. let e = map_has (λ (e : ℕ × V). line e.0 e.1) (entries m) r (has_permuted rows lines r is there) in (e.0.0, e.0.1, entry_got m e.0.0 e.0.1 e.1, e.2),
      λ of. has_permuted lines rows r (IsPermutation-sym rows lines is) (subst (Has lines) (sym of.3) (has_map (λ (e : ℕ × V). line e.0 e.1) (entries m) (of.0, of.1) (got_entry m of.0 of.1 of.2))),
    )

-- ---- the campaign's own row

own_held : {Q : Type 0} (f : Format) (text : List ℕ) (c : CampaignValue) (rows : List Row) (read : List StoredCampaignRow)
    → IsPermutation rows (map (own_stored text) read) → IsPermutation (made.campaign_row f c ∷ []) read
    → HasExactly rows (λ r. r ≡ campaign_row_in f (campaign_row_of c) text) × (Q → HasKeys rows)
own_held f text c rows read in_table of_them = (
  λ r.
      let is = are_made (own_stored text) rows read (made.campaign_row f c ∷ []) in_table of_them r in (
        λ there. let a = is.0 there in elim a.1 [ inl same ↦ a.2 ∙ ap (own_stored text) same | inr none ↦ absurd none ],
        λ same. is.1 (made.campaign_row f c, inl refl, same),
      ),
  λ _. (campaign_row_in f (campaign_row_of c) text ∷ [], rows_made (own_stored text) rows read (made.campaign_row f c ∷ []) in_table of_them, one_keys (campaign_row_in f (campaign_row_of c) text) (pos 1) refl),
)

-- ---- amounts that are not 0

-- `row` makes the row of a thing's number and its amount, and `amount` gives the amount of a row
module _ {R : Type 0} (amount : R → ℤ) (row : ℕ → ℕ → R) (is : (thing count : ℕ) → amount (row thing count) ≡ pos count) where
  amount_row_is_of_entry : (es : List (ℕ × ℕ)) (s : R) → Has (amount_rows amount row es) s
      → (e : ℕ × ℕ) × Has es e × (e.1 ≢ 0) × (s ≡ row e.0 e.1)
  amount_row_is_of_entry es s there =
      let kept = has_filtered (λ r. not (is_zero (amount r))) (rows_by row es) s there in
      let e = map_has (λ (e : ℕ × ℕ). row e.0 e.1) es s kept.0 in
      (e.0, e.1, λ zero. true≢false (sym kept.1 ∙ ap (λ r. not (is_zero (amount r))) e.2 ∙ ap (λ z. not (is_zero z)) (is e.0.0 e.0.1) ∙ ap (λ a. not (a == 0)) zero), e.2)

  entry_has_amount_row : (es : List (ℕ × ℕ)) (thing count : ℕ) → Has es (thing, count) → count ≢ 0
      → Has (amount_rows amount row es) (row thing count)
  entry_has_amount_row es thing count there some =
      has_kept (λ r. not (is_zero (amount r))) (rows_by row es) (row thing count) (has_map (λ (e : ℕ × ℕ). row e.0 e.1) es (thing, count) there) (ap (λ z. not (is_zero z)) (is thing count) ∙ ap not (is_not_zero count some))

-- ---- what units have

kind_row_is_of_entry : (n sort : ℕ) (es : List (ℕ × ℕ)) (s : StoredHas) → Has (made.rows_of_sort n sort es) s
    → (e : ℕ × ℕ) × Has es e × (e.1 ≢ 0) × (s ≡ made.has_row n sort e.0 e.1)
kind_row_is_of_entry n sort = amount_row_is_of_entry (λ (r : StoredHas). r.amount) (made.has_row n sort) (λ thing count. refl)

entry_has_kind_row : (n sort : ℕ) (es : List (ℕ × ℕ)) (thing amount : ℕ) → Has es (thing, amount) → amount ≢ 0
    → Has (made.rows_of_sort n sort es) (made.has_row n sort thing amount)
entry_has_kind_row n sort = entry_has_amount_row (λ (r : StoredHas). r.amount) (made.has_row n sort) (λ thing count. refl)

goods_row_is_of_entry : (n : ℕ) (held : HoldingValue) (s : StoredHas) → Has (made.held_rows n held) s
    → (sort : ThingKind) × (e : ℕ × ℕ) × Has (entries (things_of sort held)) e × (e.1 ≢ 0) × (s ≡ made.has_row n (sort_number sort) e.0 e.1)
goods_row_is_of_entry n held s there = elim (has_either (made.rows_of_sort n 0 (entries held.items)) (made.rows_of_sort n 1 (entries held.days)) s there) [
  | inl item ↦ let e = kind_row_is_of_entry n 0 (entries held.items) s item in (Item, e.0, e.1, e.2, e.3)
  | inr skill ↦ let e = kind_row_is_of_entry n 1 (entries held.days) s skill in (Skill, e.0, e.1, e.2, e.3)
]

entry_has_goods_row : (n : ℕ) (held : HoldingValue) (sort : ThingKind) (thing amount : ℕ)
    → Has (entries (things_of sort held)) (thing, amount) → amount ≢ 0
    → Has (made.held_rows n held) (made.has_row n (sort_number sort) thing amount)
entry_has_goods_row n held Item thing amount there some = has_left (made.rows_of_sort n 0 (entries held.items)) (made.rows_of_sort n 1 (entries held.days)) _ (entry_has_kind_row n 0 (entries held.items) thing amount there some)
entry_has_goods_row n held Skill thing amount there some = has_right (made.rows_of_sort n 0 (entries held.items)) (made.rows_of_sort n 1 (entries held.days)) _ (entry_has_kind_row n 1 (entries held.days) thing amount there some)

row_of_goods : (units : FinMap nat_cmp Unit) (r : Row) (n : ℕ) (unit : Unit) → Has (entries units) (n, unit)
    → (a : StoredHas) → r ≡ has_row_values a → (sort : ThingKind) (e : ℕ × ℕ)
    → Has (entries (things_of sort unit.holding)) e → e.1 ≢ 0 → a ≡ made.has_row n (sort_number sort) e.0 e.1
    → HasRowsOf units r
row_of_goods units r n unit there a is sort e has some made_is = (n, unit, entry_got units n unit there, sort, e.0, e.1, entry_got (things_of sort unit.holding) e.0 e.1 has, some, is ∙ ap has_row_values made_is)

goods_held : (rows : List Row) (read : List StoredHas) (units : FinMap nat_cmp Unit)
    → IsPermutation rows (map has_row_values read) → IsPermutation (made.has_rows (entries units)) read
    → HasExactly rows (HasRowsOf units)
goods_held rows read units in_table of_them r =
    let is = are_made has_row_values rows read (made.has_rows (entries units)) in_table of_them r in (
      λ there.
          let a = is.0 there in
          let found = flat_has (λ (e : ℕ × Unit). made.held_rows e.0 e.1.holding) (entries units) a.0 a.1 in
          let e = goods_row_is_of_entry found.0.0 found.0.1.holding a.0 found.2 in
          row_of_goods units r found.0.0 found.0.1 found.1 a.0 a.2 e.0 e.1 e.2 e.3 e.4,
      λ of. is.1 (
        made.has_row of.0 (sort_number of.3) of.4 of.5,
        has_flat (λ (e : ℕ × Unit). made.held_rows e.0 e.1.holding) (entries units) (of.0, of.1) _ (got_entry units of.0 of.1 of.2) (entry_has_goods_row of.0 of.1.holding of.3 of.4 of.5 (got_entry (things_of of.3 of.1.holding) of.4 of.5 of.6) of.7),
        of.8,
      ),
    )

-- ---- the stocks

stocks_held : (rows : List Row) (read : List StoredMarket) (regions : FinMap nat_cmp Region)
    → IsPermutation rows (map market_values read) → IsPermutation (made.market_rows Second (entries regions)) read
    → HasExactly rows (MarketRowsOf regions)
stocks_held rows read regions in_table of_them r =
    let is = are_made market_values rows read (made.market_rows Second (entries regions)) in_table of_them r in (
      λ there.
          let a = is.0 there in
          let found = flat_has (λ (e : ℕ × Region). made.stock_rows e.0 (entries e.1.stocks)) (entries regions) a.0 a.1 in
          let e = amount_row_is_of_entry (λ (r : StoredMarket). r.stock) (made.market_row found.0.0) (λ item stock. refl) (entries found.0.1.stocks) a.0 found.2 in (
            found.0.0,
            found.0.1,
            entry_got regions found.0.0 found.0.1 found.1,
            e.0.0,
            e.0.1,
            entry_got found.0.1.stocks e.0.0 e.0.1 e.1,
            e.2,
            a.2 ∙ ap market_values e.3,
          ),
      λ of. is.1 (
        made.market_row of.0 of.3 of.4,
        has_flat (λ (e : ℕ × Region). made.stock_rows e.0 (entries e.1.stocks)) (entries regions) (of.0, of.1) _ (got_entry regions of.0 of.1 of.2)
            (entry_has_amount_row (λ (r : StoredMarket). r.stock) (made.market_row of.0) (λ item stock. refl) (entries of.1.stocks) of.3 of.4 (got_entry of.1.stocks of.3 of.4 of.5) of.6),
        of.7,
      ),
    )

-- ---- the books

each_of : {A : Type 0} (P : A → Type 0) (xs : List A) (x : A) → AllByRecursion P xs → Has xs x → P x
each_of P [] x all there = absurd there
each_of P (y ∷ xs) x all (inl same) = subst P (sym same) all.0
each_of P (y ∷ xs) x all (inr later) = each_of P xs x all.1 later

all_has : {A : Type 0} (xs ys : List A) → ((x : A) → Has ys x → Has xs x) → AllByRecursion (Has xs) ys
all_has xs [] within = tt
all_has xs (y ∷ ys) within = (within y (inl refl), all_has xs ys (λ x there. within x (inr there)))

abbrev made_line : Account × ℤ → StoredBooks
made_line x = made.books_row x.0.0 x.0.1 x.1

books_held : (things : ℕ) (books : BooksValue) → AreBooks things books → (rows : List Row) (read : List StoredBooks)
    → IsPermutation rows (map books_values read) → IsPermutation (made.books_rows books) read
    → HasExactly rows (BooksRowsOf books)
books_held things books are rows read in_table of_them r =
    let m = books.amounts in
    let is = are_made books_values rows read (made.books_rows books) in_table of_them r in (
      λ there.
          let a = is.0 there in
          let x = map_has made_line (entries m) a.0 a.1 in
          let got = each_of (λ y. get m y.0 ≡ Some y.1) (entries m) x.0 (each_amount (λ c z. get m c ≡ Some z) m (λ c z h. h)) x.1 in
          let amount : amount_in books x.0.0.0 x.0.0.1 ≡ x.0.1 = ap (λ o. unwrap_or o (pos 0)) got in
          let some = (are.listed x.0.0.0 x.0.0.1 x.0.1 got).1 in
          (x.0.0.0, x.0.0.1, λ none. some (sym amount ∙ none), a.2 ∙ ap books_values x.2 ∙ ap (λ z. books_values (made.books_row x.0.0.0 x.0.0.1 z)) (sym amount)),
      λ of.
          let z = amount_in books of.0 of.1 in
          let got : get m (of.0, of.1) ≡ Some z = get-listed things books are of.0 of.1 ∙ ap (λ b. cond b None (Some z)) (nonzero_fails_is_zero z of.2) in
          let there = amount_of_each (λ c y. Has (entries m) (c, y)) m (all_has (entries m) (entries m) (λ x h. h)) (of.0, of.1) z got in
          is.1 (made.books_row of.0 of.1 z, has_map made_line (entries m) ((of.0, of.1), z) there, of.3),
    )

-- ---- all tables

pub every_part : (part : Part) → Has all_parts part
every_part = all_among all_parts refl

second_by_late_part : (f : Format) (part : Part) → is_among (parts_in First) part ≡ false → Has (parts_in f) part
    → f ≡ Second
second_by_late_part First part late there = absurd (not_among (parts_in First) part late there)
second_by_late_part Second part late there = refl

-- The tables have just the rows that were read of them, `p`, which are made of the campaign (`are`).
-- The books have `things` things, and each listed amount is of one of them and is not 0.
module _ (f : Format) (db : Trees) (text : List ℕ) (p : Parts) (c : CampaignValue) (have : HaveRows f db text p) (are : AreRowsOf f c p) (things : ℕ) (books : AreBooks things c.books) where
  -- Each part's table has exactly the campaign's rows; these differ in the first column if it is the rowid.
  by_part : (part : Part) → Has (parts_in f) part
      → HasExactly (rows_in (table_of part) db) (rows_for (campaign_row_in f (campaign_row_of c) text) c part) × (shows_rowids part ≡ false → HasKeys (rows_in (table_of part) db))
  unfolding rows_of
  by_part Own there = own_held f text c _ p.campaign (have.rows Own there) are.campaign
  by_part Factions there = table_has_rows_of_map faction_stored made.faction_row row_of_faction (λ n v. refl) (λ n v. refl) _ p.factions c.factions (have.rows Factions there) are.factions
  by_part Regions there = table_has_rows_of_map region_stored made.region_row row_of_region (λ n v. refl) (λ n v. refl) _ p.regions c.regions (have.rows Regions there) are.regions
  by_part Units there = table_has_rows_of_map unit_stored made.unit_row row_of_unit (λ n v. refl) (λ n v. refl) _ p.units c.units (have.rows Units there) are.units
  by_part Goods there = (goods_held _ p.has c.units (have.rows Goods there) are.has, λ number. absurd (true≢false number))
  by_part Structures there = table_has_rows_of_map structure_stored made.structure_row row_of_structure (λ n v. refl) (λ n v. refl) _ p.structures c.structures (have.rows Structures there) are.structures
  by_part Mail there = table_has_rows_of_map mail_stored made.mail_row mail_row (λ n v. refl) (λ n v. refl) _ p.mail c.mail (have.rows Mail there) are.mail
  by_part Reports there = table_has_rows_of_map report_stored made.report_row report_row (λ n v. refl) (λ n v. refl) _ p.reports c.reports (have.rows Reports there) are.reports
  by_part Books there = (books_held things c.books books _ p.books (have.rows Books there) are.books, λ number. absurd (true≢false number))
  by_part Markets there = (stocks_held _ p.markets c.regions (have.rows Markets there) (subst (λ f. IsPermutation (made.market_rows f (entries c.regions)) p.markets) (second_by_late_part f Markets refl there) are.markets), λ number. absurd (true≢false number))

  -- tables whose rows are made of the campaign hold it in the format
  pub rows_hold : HoldsIn f db text c
  rows_hold = record { rows = λ part there. (by_part part there).0 }

  -- the rowids of each table of the format are different integers, if those of its tables without an INTEGER PRIMARY
  -- KEY are
  pub rows_keyed : ((table : Table) → Has (tables_with_rowids f) table → AreKeyedByRowid (db table.tree))
      → (table : Table) → Has (map table_of (parts_in f)) table → AreKeyedByRowid (db table.tree)
  rows_keyed placed table there =
      let part = map_has table_of (parts_in f) table there in
      subst (λ (t : Table). AreKeyedByRowid (db t.tree)) (sym part.2) (elim (cases_Bool (shows_rowids part.0)) [
        | inl is ↦ placed (table_of part.0) (has_map table_of (filter shows_rowids (parts_in f)) part.0 (has_kept shows_rowids (parts_in f) part.0 part.1 is))
        | inr is ↦ let keys = (by_part part.0 part.1).1 is in numbers_keyed part.0 db keys.0 is keys.1 keys.2
      ])

-- tables that hold a campaign in the second format hold it: this is the format of `Holds`
pub holds_all : (db : Trees) (text : List ℕ) (c : CampaignValue) → HoldsIn Second db text c → Holds db text c
holds_all db text c holds = record { rows = λ part. holds.rows part (every_part part) }

-- ---- the first rule

one_head : (f : Format) (h : StoredCampaignRow) (rows : List StoredCampaignRow) → h.id ≡ pos 1
    → h.format ≡ pos (format_number f) → rows ≡ h ∷ [] → IsTrue (is_one_campaign_row f rows)
one_head First h rows id format is = rw (is, id, format) refl
one_head Second h rows id format is = rw (is, id, format) refl

no_markets : (f : Format) (p : Parts)
    → ((text : List ℕ) (part : Part) → ¬ Has (parts_in f) part → rows_read text p part ≡ [])
    → IsTrue (are_of_format f p.markets)
no_markets First p none = nothing p.markets (none [] Markets (not_among (parts_in First) Markets refl))
  where
    nothing : (rows : List StoredMarket) → map market_values rows ≡ [] → IsTrue (are_of_format First rows)
    nothing [] is = refl
    nothing (row ∷ rows) is = absurd (let k = is in cc)
no_markets Second p none = refl

-- rows keep the first rule: one campaign row, of id 1 and this format, and, for any text, none of parts that it lacks
pub keeps_one_row : (f : Format) (w : WorldValue) (p : Parts) (h : StoredCampaignRow) → h.id ≡ pos 1
    → h.format ≡ pos (format_number f) → p.campaign ≡ h ∷ []
    → ((text : List ℕ) (part : Part) → ¬ Has (parts_in f) part → rows_read text p part ≡ []) → KeepsRule f w p OneRow
keeps_one_row f w p h id format is none = (one_head f h p.campaign id format is, no_markets f p none)
