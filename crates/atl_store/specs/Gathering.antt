-- For proofs and for private functions: what each step of loading has read, and which fault it returns.
-- `f` is the format that the file is to have, and `r` the result of a step. `g` is the kind of store, in memory or in
-- files. `old` is the connection, or its state, before a step or before all of loading, and `new` after it.
-- The first rule is that on the campaign row (`AreOwnRow`).
use Rattle.std.specs.Prelude.{◌≡◌, ◌≢◌, ◌++◌, ℕ, List, [], ◌∷◌, Bool, false, true, if◌then◌else◌, ◌⊎◌, IsTrue, IsPermutation, drop, length, map, take, pos, Option, Some, None, Result, Ok, Err, IfOk, IfErr, ⊤}
use Rattle.std.specs.List.{AllByRecursion, IsDistinct}
use Rattle.std.specs.Ordering.{eq_by_cmp, int_cmp, is_eq}
use Rattle.std.specs.declared.vec.Vec.{Vec}
use Rattle.sqlite.specs.declared.error.Error.{Error}
use Rattle.sqlite.specs.Effect.{Database}
use Rattle.sqlite.specs.Held.{Held, state}
use Rattle.sqlite.specs.Order.{Row, column, value_cmp}
use Rattle.sqlite.specs.State.{State, HasCleanDisk, FailsToQuery}
use Rattle.sqlite.specs.Table.{Table}
use Rattle.sqlite_rules.specs.Lists.{Has}
use Rattle.sqlite_catalog.specs.Listing.{IsSound}
use Rattle.sqlite_trees.specs.View.{is_int}
use Rattle.sqlite_trees.specs.declared.store.Store.{Ghosts}
use Rattle.atl_world.specs.Worlds.{WorldValue}
use Rattle.atl_world.specs.Formats.{format_number}
use Rattle.atl_world.specs.declared.format.Format.{Format}
use Rattle.atl_world.specs.declared.format.Format.TheVariants.{First, Second}
use Rattle.atl_tables.specs.World.{world_of_text}
use Rattle.atl_state.specs.Checking.{IsChecked, KeepsRule}
use Rattle.atl_campaign.specs.Campaign.{MarkedCampaign}
use Rattle.atl_state.specs.declared.checking.Rule.TheVariants.{OneRow}
use Rattle.atl_rows.specs.declared.parts.Parts.{Parts}
use Rattle.atl_rows.specs.declared.parts.StoredCampaignRow.{StoredCampaignRow}
use Rattle.atl_sql.specs.Errors.{is_memory}
use Rattle.atl_store.specs.Loading.{HaveRows, AreOwnRow, AreOfOtherFormat, HasOtherType, KeepsOneRow, other_parts, other_selects, shows_rowids, tables_with_rowids, rows_read, AfterReads, AllSelectsShowTyped, RefusesOne}
use Rattle.atl_sql.specs.Reading.{Selects}
use Rattle.atl_descriptions.specs.PartSelects.{select_of_part}
use Rattle.atl_descriptions.specs.Statements.{selection, selection_with_ids}
use Rattle.atl_descriptions.specs.Sets.{AreKeyedByRowid, rows_in}
use Rattle.atl_sql.specs.Shown.{campaign_stored}
use Rattle.atl_columns.specs.Forms.{Form}
use Rattle.atl_descriptions.specs.Tables.{Part, all_parts, campaign_table, books_table, table_of, parts_in, HasTablesOf}
use Rattle.atl_sql.specs.declared.fault.ReadFault.{ReadFault}
use Rattle.atl_sql.specs.declared.fault.ReadFault.TheVariants as read
use Rattle.atl_store.specs.declared.fault.LoadFault.{LoadFault}
use Rattle.atl_store.specs.declared.fault.LoadFault.TheVariants.{Store, Damaged, NotACampaign, OtherFormat, Memory}
use Rattle.atl_descriptions.specs.declared.records.campaign.StoredCampaign.{StoredCampaign}
use Rattle.atl_sql.specs.declared.rows.stored.RowWithId.{RowWithId}

-- ---- what a step leaves

-- on a clean disk the tables of an open connection are those of the last commit, so a read that fails and is rolled
-- back leaves them as they were
abbrev pub IsCommitted : State → Type 0
IsCommitted s = HasCleanDisk s → IsTrue s.is_open → s.now ≡ s.committed

-- ---- which fault is returned

-- The fault of loading for a fault of reading `campaign`: Refused becomes NotACampaign, and OtherType becomes
-- Damaged by the first rule; Store and Memory stay.
abbrev pub campaign_row_fault : ReadFault → LoadFault
campaign_row_fault read.Store = Store
campaign_row_fault read.Refused = NotACampaign
campaign_row_fault read.Memory = Memory
campaign_row_fault read.OtherType = Damaged OneRow

-- What reading a table other than `campaign` gives: its rows, or None if a value is of another type than its column.
-- Else the fault that ends the loading: Memory if memory ran out, Store for every other.
abbrev pub rows_or_none : {A Z : Type 0} → Result (Vec A Z) ReadFault → Result (Option (Vec A Z)) LoadFault
rows_or_none (Ok rows) = Ok (Some rows)
rows_or_none (Err read.Store) = Err Store
rows_or_none (Err read.Refused) = Err Store
rows_or_none (Err read.Memory) = Err Memory
rows_or_none (Err read.OtherType) = Ok None

-- when a step that needs `P`, such as that rowids differ, may return each fault: Store if `P` doesn't hold, Memory at
-- any time, and no other fault
abbrev pub FailsWithout : Type 0 → LoadFault → Type 0
FailsWithout P Store = ¬ P
FailsWithout P (Damaged rule) = ⊥
FailsWithout P NotACampaign = ⊥
FailsWithout P OtherFormat = ⊥
FailsWithout P Memory = ⊤

-- ---- the campaign row

-- the row of a list of just one campaign row; None for any other list
abbrev pub only_of : List StoredCampaign → Option StoredCampaign
only_of [] = None
only_of (own ∷ []) = Some own
only_of (own ∷ other ∷ rows) = None

-- The rows read of `campaign` are one row, `own`, which keeps the first rule: its id is 1, its format is `f`, and its
-- world text reads as the world `w`.
pub record IsOwnRow (f : Format) (rows : List StoredCampaign) (own : StoredCampaign) (w : WorldValue) : Type 0 where
  pub only : rows ≡ own ∷ []
  pub id : own.head.id ≡ pos 1
  pub format : own.head.format ≡ pos (format_number f)
  pub world : world_of_text f own.world ≡ Ok w

-- The result of judging: Ok of a value that fulfils the first condition (`Is`), Damaged by the first rule if the second
-- (`Nothing`) holds, or Memory; no other fault.
abbrev pub Judges : {A : Type 0} → (A → Type 0) → Type 0 → Result A LoadFault → Type 0
Judges Is Nothing (Ok a) = Is a
Judges Is Nothing (Err Memory) = ⊤
Judges Is Nothing (Err (Damaged OneRow)) = Nothing
Judges Is Nothing (Err fault) = ⊥

-- the result of reading `text` as a world of the format: the world, Damaged by the first rule if the text is of none,
-- or Memory
abbrev pub ReadsWorld : Format → List ℕ → Result WorldValue LoadFault → Type 0
ReadsWorld f text r = Judges (λ w. world_of_text f text ≡ Ok w) ((w : WorldValue) → world_of_text f text ≢ Ok w) r

-- the result of judging the rows of `campaign` that were read: the only row and its world (`IsOwnRow`), Damaged by the
-- first rule if they break it, or Memory
abbrev pub JudgesOwn : Format → List StoredCampaign → Result (StoredCampaign × WorldValue) LoadFault → Type 0
JudgesOwn f rows r =
    Judges (λ both. IsOwnRow f rows both.0 both.1) ((own : StoredCampaign) (w : WorldValue) → ¬ IsOwnRow f rows own w) r

-- the result of judging the rows that SQL shows of `campaign`: the row and its world (`AreOwnRow`), Damaged by the
-- first rule if they break it, or Memory
abbrev pub JudgesRows : Format → List Row → Result (StoredCampaign × WorldValue) LoadFault → Type 0
JudgesRows f rows r =
    Judges (λ both. AreOwnRow f rows both.0.head both.0.world both.1)
    ((h : StoredCampaignRow) (text : List ℕ) (w : WorldValue) → ¬ AreOwnRow f rows h text w) r

-- the result of judging the rows of `campaign`: OtherFormat if they are one row of the other format, else what judging
-- them by the first rule gives (`JudgesRows`)
abbrev pub JudgesFormat : Format → List Row → Result (StoredCampaign × WorldValue) LoadFault → Type 0
JudgesFormat f rows r = (AreOfOtherFormat f rows × (r ≡ Err OtherFormat)) ⊎ ((¬ AreOfOtherFormat f rows) × JudgesRows f rows r)

-- ---- the rows of other tables, as they were read

-- the rows that were read, as a list of parts, each with its rows
abbrev pub ReadRows : Type 0
ReadRows = List (Part × List Row)

-- the rows read are exactly those that the part's SELECT shows of its table, in any order, if the schema begins with
-- the tables of the earliest format that has the part
abbrev pub AreRows : Database → Part → List Row → Type 0
AreRows db part rows =
    HasTablesOf (select_of_part part).since db.schema → IsPermutation ((select_of_part part).in_table db.trees) rows

-- for each part that was read, the rows are all rows of its table, if the schema has the tables for it (`AreRows`)
abbrev pub AreAllRows : Database → ReadRows → Type 0
AreAllRows db reads = (read : Part × List Row) → Has reads read → AreRows db read.0 read.1

-- Of each part of the format that was read, the rows are all rows of its table, if the schema has the tables for it
-- (`AreRows`). Of any other part no row was read.
pub record AreOfFormat (f : Format) (db : Database) (reads : ReadRows) : Type 0 where
  pub each : (read : Part × List Row) → Has reads read
      → (Has (parts_in f) read.0 × AreRows db read.0 read.1) ⊎ ((¬ Has (parts_in f) read.0) × (read.1 ≡ []))

-- no row was read of any part
abbrev pub AreNone : ReadRows → Type 0
AreNone reads = (read : Part × List Row) → Has reads read → read.1 ≡ []

-- the parts that the first format doesn't have
abbrev pub second_format_parts : List Part
second_format_parts = drop (length (parts_in First)) all_parts

-- the SELECTs that are asked in a format, each with the forms of its columns: `some` and, in the second format, also
-- `others`, of the tables that the first lacks
abbrev pub selects_by : Format → List (List ℕ × List Form) → List (List ℕ × List Form) → List (List ℕ × List Form)
selects_by First some others = some
selects_by Second some others = some ++ others

module _ {S : Type 0} (g : Ghosts S) (old : Held S) where
  -- The SELECT of `campaign` showed one row, which keeps the first rule (`AreOwnRow`).
  -- If the schema begins with the tables of the first format, this is the only row of the table.
  pub record OwnRead (f : Format) (own : StoredCampaign) (w : WorldValue) : Type 0 where
    -- the rows that the SELECT of `campaign` showed
    pub rows : List Row
    -- the SELECT of `campaign` showed `rows`
    pub selects : Selects g (selection campaign_table 1) old rows
    -- the rows are one row, `own`, which keeps the first rule
    pub row : AreOwnRow f rows own.head own.world w
    -- `own` is the only row of the table, if the schema begins with the tables of the first format
    pub table : HasTablesOf First old.schema
        → IsPermutation (rows_in campaign_table (state g old).now.trees) (campaign_stored own ∷ [])

  -- ---- the other tables

  -- What reading by the SELECTs `selects` found: Some, if each value is of its column's form, or None, if one isn't.
  -- In the first case `P` holds of what was read.
  abbrev pub FoundBySelects : {A : Type 0} → List (List ℕ × List Form) → (A → Type 0) → Option A → Type 0
  FoundBySelects selects P None = HasOtherType g old selects
  FoundBySelects selects P (Some a) = AllSelectsShowTyped g old selects × P a

  -- one SELECT of the list `selects`, asked after other reads, shows some rows; memory may then run out (`FailsToRead`)
  pub record AnswersOne (selects : List (List ℕ × List Form)) : Type 0 where
    -- the SELECT that is answered, with the forms of its columns
    pub select : List ℕ × List Form
    -- this SELECT is in the list `selects`
    pub one : Has selects select
    -- the connection after the reads that came before this SELECT
    pub before : Held S
    -- on a clean disk the reads before this SELECT left the tables as they were
    pub leaves : AfterReads g old before
    -- the rows that this SELECT shows
    pub rows : List Row
    -- asked of the tables of `before`, this SELECT shows `rows`
    pub answered : Selects g select.0 before rows

  -- When reading by the SELECTs `selects` may return each fault: Store if one is refused for another cause than memory,
  -- Memory if one is refused for lack of memory or shows rows. It returns no other fault.
  abbrev pub FailsToRead : List (List ℕ × List Form) → LoadFault → Type 0
  FailsToRead selects Store = RefusesOne g old selects read.Store ⊎ RefusesOne g old selects read.Refused
  FailsToRead selects (Damaged rule) = ⊥
  FailsToRead selects NotACampaign = ⊥
  FailsToRead selects OtherFormat = ⊥
  FailsToRead selects Memory = RefusesOne g old selects read.Memory ⊎ AnswersOne selects

  -- Reading by the SELECTs `selects` gives what `FoundBySelects` says, or a fault (`FailsToRead`), if the disk is
  -- clean. The connection is as after reads: the tables are as they were (`AfterReads`).
  pub record ReadsSome {A : Type 0} (selects : List (List ℕ × List Form)) (P : A → Type 0)
      (result : Result (Option A) LoadFault) (new : Held S) : Type 0 where
    -- if the reads succeed, and the disk is clean, the connection was open before them
    pub was_open : HasCleanDisk (state g new) → IfOk result (λ _. IsTrue (state g old).is_open)
    -- if the reads succeed, and the disk is clean, the result is what the SELECTs found (`FoundBySelects`)
    pub found : HasCleanDisk (state g new) → IfOk result (FoundBySelects selects P)
    -- if the reads fail, and the disk is clean, the fault is one that they may return (`FailsToRead`)
    pub fails : HasCleanDisk (state g new) → IfErr result (FailsToRead selects)
    -- on a clean disk the reads leave the tables as they were, and in any case the connection is in no transaction
    pub leaves : AfterReads g old new

  -- ---- the schema

  -- the SELECT of the books, asked again to confirm, is refused; `memory` says whether for lack of memory
  abbrev pub IsRefusedAgain : Bool → Type 0
  IsRefusedAgain memory =
      (during : Held S) × (e : Error)
      × FailsToQuery (selection_with_ids books_table 2) [] (state g old) (state g during) e
      × (is_memory e ≡ memory)

  -- When the test of the schema may return each fault: Store or Memory, by what the SELECT of the books is refused for.
  -- Store also comes if the schema isn't the format's; then that SELECT isn't asked. No other fault is returned.
  abbrev pub FailsToConfirm : Format → LoadFault → Type 0
  FailsToConfirm f Store = (¬ HasTablesOf f old.schema) ⊎ (HasTablesOf f old.schema × IsRefusedAgain false)
  FailsToConfirm f (Damaged rule) = ⊥
  FailsToConfirm f NotACampaign = ⊥
  FailsToConfirm f OtherFormat = ⊥
  FailsToConfirm f Memory = HasTablesOf f old.schema × IsRefusedAgain true

-- ---- the rowids

-- no two rows of a table, read with their rowids, have the same rowid
abbrev pub HaveDistinctRowids : {A : Type 0} → List (RowWithId A) → Type 0
HaveDistinctRowids placed = IsDistinct (eq_by_cmp int_cmp) (map (λ s. s.rowid) placed)

-- how many columns a part's table has: a rowid is shown after them
abbrev pub column_count : Part → ℕ
column_count part = length (table_of part).columns

-- the values of the column at index `at` are integers, no two alike
pub record HaveDistinctIntegers (at : ℕ) (rows : List Row) : Type 0 where
  pub apart : IsDistinct (λ a b. is_eq (value_cmp (column a at) (column b at))) rows
  pub ints : AllByRecursion (λ r. is_int (column r at) ≡ true) rows

-- in each part that is shown with rowids, the rowids are integers, no two alike
pub record AllHaveDistinctRowids (reads : ReadRows) : Type 0 where
  pub each : (read : Part × List Row) → Has reads read → shows_rowids read.0 ≡ true → HaveDistinctIntegers (column_count read.0) read.1

-- the rows of a part without the rowids that they are shown with; where they are shown without, just the rows
abbrev pub without_ids : Part → List Row → List Row
without_ids part rows = if shows_rowids part then map (take (column_count part)) rows else rows

-- The parts `p` are put together of what was read: the campaign row `head`, and the rows `reads` of all other parts.
-- In `p` the rows have no rowids. No two rows of a part that is shown with rowids had the same one.
pub record IsMadeOf (head : StoredCampaignRow) (reads : ReadRows) (p : Parts) : Type 0 where
  -- all parts but the campaign row were read, in their order
  pub parts : map (λ read. read.0) reads ≡ other_parts Second
  -- `head` is the only campaign row of `p`
  pub campaign : p.campaign ≡ head ∷ []
  -- each part of `p` has the rows that were read of it, without their rowids
  pub rows : (text : List ℕ) (read : Part × List Row) → Has reads read → rows_read text p read.0 ≡ without_ids read.0 read.1
  -- the rowids that were read are integers, and differ in each part
  pub apart : AllHaveDistinctRowids reads

-- ---- all of it

-- All tables were read: the campaign row keeps the first rule, and each value is of its column's form. If the tables
-- are the format's, they have exactly the rows in `p`, with a text of the world `w`, and rowids that differ.
pub record GathersAll (f : Format) {S : Type 0} (g : Ghosts S) (old : Held S) (w : WorldValue) (p : Parts) : Type 0 where
  -- the SELECT of `campaign` showed one row, which keeps the first rule
  pub one : KeepsOneRow f g old
  -- the rows in `p` keep the first rule
  pub first : KeepsRule f w p OneRow
  -- the world text of the campaign row
  pub text : List ℕ
  -- the world text of the campaign row reads as the world `w`
  pub world : world_of_text f text ≡ Ok w
  -- in all tables but `campaign` each value that is shown is of its column's form
  pub typed : AllSelectsShowTyped g old (other_selects f)
  -- if the tables are the format's, they have exactly the rows of `p`
  pub rows : HasTablesOf f old.schema → HaveRows f (state g old).now.trees text p
  -- if the tables are the format's, the rowids of those without an INTEGER PRIMARY KEY are integers, no two alike
  pub keyed : HasTablesOf f old.schema → (table : Table) → Has (tables_with_rowids f) table
      → AreKeyedByRowid ((state g old).now.trees table.tree)

-- The tables of the file are those of the format. The schema of `old`, the state before the reads, begins with the
-- format's tables and their indexes, and has no `views`; what follows puts no rule on these tables (`HasTablesOf`). The
-- trees of `old` list this schema and obey it (`IsSound`). After the reads the connection is open (`new`).
pub record IsConfirmed (f : Format) (old new : State) : Type 0 where
  pub begins : HasTablesOf f old.now.schema
  pub is_open : IsTrue new.is_open
  pub sound : IsSound old.now.schema old.now.trees

-- The campaign `c` is loaded: it is made of rows that were read and keep all rules (`IsChecked`).
-- If the disk is clean, these are the rows of all tables (`GathersAll`), and the schema is confirmed.
pub record IsLoaded (f : Format) {S : Type 0} (g : Ghosts S) (old new : Held S)
    (w : WorldValue) (c : MarkedCampaign) : Type 0 where
  -- the rows that were read of all tables, put together
  pub parts : Parts
  -- the rows in `parts` are those of all tables (`GathersAll`), if the disk is clean
  pub gathered : HasCleanDisk (state g new) → GathersAll f g old w parts
  -- the tables are confirmed as those of the format, if the disk is clean
  pub confirmed : HasCleanDisk (state g new) → IsConfirmed f (state g old) (state g new)
  -- the campaign is made of the rows that were read, which keep all rules
  pub checked : IsChecked f w parts c
