-- What `load` returns and leaves. See docs/FORMATS.md, "Opening a file". `f` is the format that the file is to have.
-- `old` is the connection, or its state, before loading, or before some of its reads, and `new` after them.
-- `g` is the kind of store, in memory or in files, and `state g conn` the state of the database under a connection.
use Rattle.std.specs.Prelude.{◌≡◌, ◌⊎◌, ◌++◌, ℕ, Bool, List, [], ◌∷◌, length, drop, filter, map, is_some, not, pos, true, false, IsTrue, IsPermutation, IsUtf8, Ok}
use Rattle.sqlite.specs.declared.error.Error.{Error}
use Rattle.sqlite.specs.declared.types.Value.TheVariants.{Int, Text}
use Rattle.sqlite.specs.Held.{Held, state}
use Rattle.sqlite.specs.Order.{Row, column}
use Rattle.sqlite.specs.State.{State, HasCleanDisk, Shown, Survives, FailsToQuery}
use Rattle.sqlite.specs.Table.{Table}
use Rattle.sqlite_catalog.specs.Listing.{IsSound}
use Rattle.sqlite_disk.specs.Disk.{MoreFaults}
use Rattle.sqlite_rules.specs.Lists.{Has}
use Rattle.sqlite_trees.specs.Tree.{Trees}
use Rattle.sqlite_trees.specs.declared.store.Store.{Ghosts}
use Rattle.atl_world.specs.Worlds.{WorldValue}
use Rattle.atl_world.specs.Formats.{format_number}
use Rattle.atl_world.specs.declared.format.Format.{Format}
use Rattle.atl_world.specs.declared.format.Format.TheVariants.{First, Second}
use Rattle.atl_tables.specs.World.{world_of_text, world_of}
use Rattle.atl_state.specs.Checking.{Fits, IsFirstBroken}
use Rattle.atl_campaign.specs.Good.{IsGood}
use Rattle.atl_campaign.specs.Marks.{no_marks}
use Rattle.atl_campaign.specs.Campaign.{CampaignValue, MarkedCampaign}
use Rattle.atl_state.specs.declared.checking.Rule.{Rule}
use Rattle.atl_state.specs.declared.checking.Rule.TheVariants as rules
use Rattle.atl_rows.specs.declared.parts.Parts.{Parts}
use Rattle.atl_rows.specs.declared.parts.StoredBooks.{StoredBooks}
use Rattle.atl_rows.specs.declared.parts.StoredHas.{StoredHas}
use Rattle.atl_rows.specs.declared.parts.StoredCampaignRow.{StoredCampaignRow}
use Rattle.atl_rows.specs.declared.parts.StoredMarket.{StoredMarket}
use Rattle.atl_sql.specs.Errors.{is_memory}
use Rattle.atl_keeping.specs.Keeps.{ChangesNothing, HoldsCampaign}
use Rattle.atl_sql.specs.Reading.{Selects, RefusesToSelect}
use Rattle.atl_descriptions.specs.PartSelects.{select_of_part}
use Rattle.atl_writing.specs.Rows.{HoldsIn}
use Rattle.atl_sql.specs.Shown.{int, campaign_row_stored, faction_stored, region_stored, unit_stored, structure_stored, mail_stored, report_stored, campaign_forms, faction_forms, region_forms, unit_forms, has_forms, structure_forms, mail_forms, report_forms, books_forms, market_forms}
use Rattle.atl_descriptions.specs.Statements.{selection, selection_with_ids}
use Rattle.atl_descriptions.specs.Sets.{rows_in, AreKeyedByRowid}
use Rattle.atl_columns.specs.Forms.{Form}
use Rattle.atl_sql.specs.Stored.{first_columns, AreTyped}
use Rattle.atl_descriptions.specs.Tables.{Part, Own, Factions, Regions, Units, Goods, Structures, Mail, Reports, Books, Markets, campaign_table, books_table, table_of, parts_in, HasTablesOf}
use Rattle.atl_keeping.specs.WorldText.{world_text}
use Rattle.atl_sql.specs.declared.fault.ReadFault.{ReadFault}
use Rattle.atl_sql.specs.declared.fault.ReadFault.TheVariants as read
use Rattle.atl_store.specs.declared.fault.LoadFault.{LoadFault}
use Rattle.atl_store.specs.declared.fault.LoadFault.TheVariants.{Store, Damaged, NotACampaign, OtherFormat, Memory}
use Rattle.atl_store.specs.declared.fault.StoreFault.{StoreFault}
use Rattle.atl_store.specs.declared.fault.StoreFault.TheVariants as store

-- ---- the rows of the tables

-- the campaign row that was read, with this world text, as SQL shows it
abbrev pub own_stored : List ℕ → StoredCampaignRow → Row
own_stored text h = campaign_row_stored h ++ Text text ∷ []

-- a row of the table `has` that was read, as SQL shows it, without its rowid
abbrev pub has_row_values : StoredHas → Row
has_row_values s = Int s.unit ∷ Int s.sort ∷ Int s.thing ∷ Int s.amount ∷ []

-- a row of `books` that was read, as SQL shows it, without its rowid
abbrev pub books_values : StoredBooks → Row
books_values s = Int s.entry ∷ Int s.thing ∷ Int s.amount ∷ []

-- a row of `market` that was read, as SQL shows it, without its rowid
abbrev pub market_values : StoredMarket → Row
market_values s = Int s.region ∷ Int s.item ∷ Int s.stock ∷ []

-- the rows of each part that were read, as SQL shows them; the campaign row, which `p` has without its world text, is
-- given this one
abbrev pub rows_read : List ℕ → Parts → Part → List Row
rows_read text p Own = map (own_stored text) p.campaign
rows_read text p Factions = map faction_stored p.factions
rows_read text p Regions = map region_stored p.regions
rows_read text p Units = map unit_stored p.units
rows_read text p Goods = map has_row_values p.has
rows_read text p Structures = map structure_stored p.structures
rows_read text p Mail = map mail_stored p.mail
rows_read text p Reports = map report_stored p.reports
rows_read text p Books = map books_values p.books
rows_read text p Markets = map market_values p.markets

-- The tables of a format have exactly the rows in `p`, each as often as `p` has it. The campaign row has the world text
-- `text`, which `p` lacks. In `p` there is no row of a part that the format doesn't have.
pub record HaveRows (f : Format) (db : Trees) (text : List ℕ) (p : Parts) : Type 0 where
  -- the table of each part of the format has exactly the part's rows in `p`
  pub rows : (part : Part) → Has (parts_in f) part → IsPermutation (rows_in (table_of part) db) (rows_read text p part)
  pub none : (part : Part) → ¬ Has (parts_in f) part → rows_read text p part ≡ []

-- ---- the first rule

-- The rows that SQL shows of `campaign` keep the first rule: there is one row, its id is 1, and its format is `f`.
-- The world text of the row, `text`, is UTF-8 and reads as the world `w`. `h` is the row without this text.
pub record AreOwnRow (f : Format) (rows : List Row) (h : StoredCampaignRow) (text : List ℕ) (w : WorldValue) : Type 0 where
  -- the SELECT of `campaign` shows one row, whose first columns show `h` and the world text
  pub shown : map (first_columns (length campaign_forms)) rows ≡ own_stored text h ∷ []
  pub id : h.id ≡ pos 1
  pub format : h.format ≡ pos (format_number f)
  pub utf8 : IsUtf8 text
  pub world : world_of_text f text ≡ Ok w

-- the other one of the two formats; if the only campaign row is of that format, the fault is OtherFormat, not Damaged
abbrev pub other_format : Format → Format
other_format First = Second
other_format Second = First

-- the rows of `campaign` are one row, whose format is not this one but the other of the two, whatever else it says
abbrev pub AreOfOtherFormat : Format → List Row → Type 0
AreOfOtherFormat f rows = (row : Row) × (rows ≡ row ∷ []) × (column row 1 ≡ int (format_number (other_format f)))

-- ---- the other tables

-- the forms of which the values of a part's rows have to be when they are read: those of its columns, and a number for
-- the rowid, where it is shown after them
abbrev pub forms_of : Part → List Form
forms_of Own = campaign_forms
forms_of Factions = faction_forms
forms_of Regions = region_forms
forms_of Units = unit_forms
forms_of Goods = has_forms
forms_of Structures = structure_forms
forms_of Mail = mail_forms
forms_of Reports = report_forms
forms_of Books = books_forms
forms_of Markets = market_forms

-- all parts of a format but the campaign row
abbrev pub other_parts : Format → List Part
other_parts f = drop 1 (parts_in f)

-- the SELECTs of all parts of a format but the campaign row, each with the forms of its columns
abbrev pub other_selects : Format → List (List ℕ × List Form)
other_selects f = map (λ part. ((select_of_part part).select, forms_of part)) (other_parts f)

-- whether a part's table has no INTEGER PRIMARY KEY, so that its rows are shown with their rowids
abbrev pub shows_rowids : Part → Bool
shows_rowids part = not (is_some (table_of part).key)

-- the tables of a format that have no INTEGER PRIMARY KEY
abbrev pub tables_with_rowids : Format → List Table
tables_with_rowids f = map table_of (filter shows_rowids (parts_in f))

-- a connection that is open was open before, and its tables and its last commit are as they were
pub record TablesStay (old new : State) : Type 0 where
  pub was_open : IsTrue new.is_open → IsTrue old.is_open
  pub same : IsTrue new.is_open → (new.now ≡ old.now) × (new.committed ≡ old.committed)

-- The connection after reads: it is in no transaction, and its tables are as they were, if the disk is clean
-- (`TablesStay`). A crash then leaves only what it could have left before (`Survives`).
pub record AfterReads {S : Type 0} (g : Ghosts S) (old new : Held S) : Type 0 where
  -- after the reads the tables are as they were before, if the disk is clean
  pub stays : HasCleanDisk (state g new) → TablesStay (state g old) (state g new)
  -- On a clean disk a crash leaves only what it could have left before, and only a failure closes the connection.
  -- An unclean disk stays so, no failure is forgotten; tests of reads by digests and a step limit stay (`Survives`).
  pub survives : Survives (state g old) (state g new) (λ _. ⊥)
  -- after the reads the connection is in no transaction
  pub idle : new.in_transaction ≡ false

module _ {S : Type 0} (g : Ghosts S) (old : Held S) where
  -- the SELECT `sql`, asked of the tables of `old`, shows the rows `rows`
  pub record SelectShows (sql : List ℕ) (rows : List Row) : Type 0 where
    -- a connection on which the SELECT is asked
    pub before : Held S
    -- the connection once the SELECT is answered
    pub during : Held S
    -- the SELECT is asked of the tables of `old`
    pub same : (state g before).now ≡ (state g old).now
    -- asked on `before`, the SELECT shows `rows`, and leaves the connection as `during`
    pub shown : Shown sql [] (state g before) (state g during) rows

  module _ (selects : List (List ℕ × List Form)) where
    -- each SELECT of the list `selects` shows some rows
    abbrev pub AllSelectsShow : Type 0
    AllSelectsShow = (select : List ℕ × List Form) → Has selects select → (rows : List Row) × SelectShows select.0 rows

    -- each SELECT of the list `selects` shows some rows, in which each value is of its column's form
    abbrev pub AllSelectsShowTyped : Type 0
    AllSelectsShowTyped =
        (select : List ℕ × List Form) → Has selects select
        → (rows : List Row) × SelectShows select.0 rows × AreTyped select.1 rows

    -- each SELECT of the list `selects` shows some rows, and in those of one a value is of another form than its column
    pub record HasOtherType : Type 0 where
      -- each SELECT of the list `selects` shows some rows
      pub all : AllSelectsShow
      -- the SELECT that shows a value of another form than its column, with the forms of its columns
      pub select : List ℕ × List Form
      -- this SELECT is in the list `selects`
      pub one : Has selects select
      -- the rows that this SELECT shows
      pub rows : List Row
      -- this SELECT shows `rows`
      pub shows : SelectShows select.0 rows
      -- in `rows` some value is of another form than its column
      pub other : ¬ AreTyped select.1 rows

    -- a SELECT of the list `selects`, asked after other reads, is refused, and this is the fault of its error
    pub record RefusesOne (fault : ReadFault) : Type 0 where
      -- the SELECT that is refused, with the forms of its columns
      pub select : List ℕ × List Form
      -- this SELECT is in the list `selects`
      pub one : Has selects select
      -- the connection after the reads that came before this SELECT
      pub before : Held S
      -- on a clean disk the reads before this SELECT left the tables as they were
      pub leaves : AfterReads g old before
      -- this SELECT is refused with the fault `fault`
      pub refused : RefusesToSelect g select.0 before fault

  -- ---- the disk and the memory

  -- the disk failed while the tables were read
  pub record FailedMeanwhile : Type 0 where
    -- the connection after the reads in which the disk failed
    pub after : Held S
    -- the reads in which the disk failed left the tables as they were, if the disk is clean
    pub leaves : AfterReads g old after
    -- the disk failed during the reads
    pub failed : MoreFaults (state g old).faults (state g after).faults

  -- The SELECT of the books, asked again after other reads to see that the connection is still open, is refused.
  -- `memory` says whether for lack of memory.
  pub record RefusesAgain (memory : Bool) : Type 0 where
    -- the connection after the other reads, before the books are asked for again
    pub before : Held S
    -- on a clean disk the other reads left the tables as they were
    pub leaves : AfterReads g old before
    -- the connection once the SELECT of the books is refused
    pub during : Held S
    -- the error with which this SELECT ends
    pub error : Error
    -- the SELECT of the books ends with this error
    pub refused : FailsToQuery (selection_with_ids books_table 2) [] (state g before) (state g during) error
    -- the error is lack of memory exactly if `memory` is true
    pub memory_is : is_memory error ≡ memory

  -- When Memory may be returned: in no transaction, if the SELECT of the campaign row lacks memory or is answered.
  -- Any step after this SELECT may lack memory.
  abbrev pub MayReturnMemory : Type 0
  MayReturnMemory =
      (old.in_transaction ≡ false)
      × (RefusesToSelect g (selection campaign_table 1) old read.Memory
      ⊎ ((rows : List Row) × Selects g (selection campaign_table 1) old rows))

-- ---- by format

module _ (f : Format) {S : Type 0} (g : Ghosts S) (old : Held S) where
  -- The tables are made as the format has them: the schema begins with its tables, and in those without
  -- an INTEGER PRIMARY KEY the rowids are integers, no two alike.
  pub record AreMade : Type 0 where
    -- the schema begins with the tables of the format
    pub begins : HasTablesOf f old.schema
    -- the rowids of each table without an INTEGER PRIMARY KEY are integers, no two alike
    pub keyed : (table : Table) → Has (tables_with_rowids f) table → AreKeyedByRowid ((state g old).now.trees table.tree)

  -- The tables are made as the format has them (`AreMade`), and `rule` is the first rule that their rows break.
  -- The world text reads as a world.
  pub record BreaksRule (rule : Rule) : Type 0 where
    -- the tables are made as the format has them
    pub made : AreMade
    -- the world of the world text
    pub world : WorldValue
    -- the world text in the campaign row
    pub text : List ℕ
    -- the world text reads as the world
    pub is_world : world_of_text f text ≡ Ok world
    -- the rows of all tables of the format
    pub parts : Parts
    -- the tables have exactly the rows of `parts`
    pub rows : HaveRows f (state g old).now.trees text parts
    -- `rule` is the first rule that the rows of the tables break
    pub first : IsFirstBroken f world parts rule

  -- The SELECT of `campaign` shows one row, which keeps the first rule (`AreOwnRow`).
  pub record KeepsOneRow : Type 0 where
    -- the rows that the SELECT of `campaign` shows
    pub rows : List Row
    pub selects : Selects g (selection campaign_table 1) old rows
    -- the campaign row, without its world text
    pub head : StoredCampaignRow
    -- the world text of the campaign row
    pub text : List ℕ
    -- the world that the world text of the campaign row reads as
    pub world : WorldValue
    -- the rows that are shown are one row, `head` with `text`, which keeps the first rule
    pub own : AreOwnRow f rows head text world

  -- The SELECT of `campaign` shows rows that break the first rule and aren't one row of the other format.
  pub record BreaksOneRow : Type 0 where
    -- the rows that the SELECT of `campaign` shows
    pub rows : List Row
    pub selects : Selects g (selection campaign_table 1) old rows
    -- the rows that the SELECT of `campaign` shows break the first rule
    pub broken : (h : StoredCampaignRow) (text : List ℕ) (w : WorldValue) → ¬ AreOwnRow f rows h text w
    -- the SELECT doesn't show just one row with the number of the other format (the fault for that is OtherFormat)
    pub of_format : ¬ AreOfOtherFormat f rows

  -- When Damaged may be returned with each rule: it is the first that the rows break, in tables made as the format has
  -- them. OneRow, rule 1, comes however the tables are made, but not for one row of the other format. Ranges, rule 2,
  -- also comes however they are made, if rule 1 is kept and a value of another table isn't of its column's type.
  abbrev pub MayReturnDamaged : Rule → Type 0
  MayReturnDamaged rules.OneRow = BreaksOneRow
  MayReturnDamaged rules.Ranges = (KeepsOneRow × HasOtherType g old (other_selects f)) ⊎ BreaksRule rules.Ranges
  MayReturnDamaged rules.Names = BreaksRule rules.Names
  MayReturnDamaged rules.Known = BreaksRule rules.Known
  MayReturnDamaged rules.Next = BreaksRule rules.Next
  MayReturnDamaged rules.Days = BreaksRule rules.Days
  MayReturnDamaged rules.Gone = BreaksRule rules.Gone
  MayReturnDamaged rules.Owners = BreaksRule rules.Owners
  MayReturnDamaged rules.Water = BreaksRule rules.Water
  MayReturnDamaged rules.Guards = BreaksRule rules.Guards
  MayReturnDamaged rules.Books = BreaksRule rules.Books
  MayReturnDamaged rules.Mail = BreaksRule rules.Mail

  -- ---- Store and Memory

  -- the SELECT of another table than `campaign` is refused, for another cause than memory
  abbrev pub CannotRead : Type 0
  CannotRead = RefusesOne g old (other_selects f) read.Store ⊎ RefusesOne g old (other_selects f) read.Refused

  -- All tables but `campaign` are read, each value of its column's form, but the tables can't be confirmed.
  -- The tables aren't made as the format has them (`AreMade`), or the disk failed meanwhile.
  -- Or the SELECT of the books, asked again, is refused for another cause than memory.
  abbrev pub CannotConfirm : Type 0
  CannotConfirm = AllSelectsShowTyped g old (other_selects f) × ((¬ AreMade) ⊎ (FailedMeanwhile g old ⊎ RefusesAgain g old false))

  -- When Store may be returned: in a transaction, or if the SELECT of the campaign row is refused because of the disk,
  -- the connection, size or too many steps (`is_failure`). Also, where that row keeps the first rule, if another table
  -- can't be read (`CannotRead`) or the tables can't be confirmed (`CannotConfirm`).
  abbrev pub MayReturnStore : Type 0
  MayReturnStore =
      (old.in_transaction ≡ true)
      ⊎ (RefusesToSelect g (selection campaign_table 1) old read.Store ⊎ (KeepsOneRow × (CannotRead ⊎ CannotConfirm)))

  -- the SELECT of `campaign` shows one row, whose format is not `f` but the other of the two
  abbrev pub HasOtherFormat : Type 0
  HasOtherFormat = (rows : List Row) × Selects g (selection campaign_table 1) old rows × AreOfOtherFormat f rows

  -- When loading in the format `f` may return each fault. NotACampaign: the SELECT of `campaign` is refused, but not
  -- for memory or a failure (`is_failure`). OtherFormat: this SELECT shows one row, of the other format.
  -- Store: a transaction is open, or a SELECT is refused, or the tables can't be confirmed (`MayReturnStore`).
  -- Damaged: the rows break this rule (`MayReturnDamaged`). Memory: memory runs out (`MayReturnMemory`).
  abbrev pub RefusesToLoadIn : LoadFault → Type 0
  RefusesToLoadIn Store = MayReturnStore
  RefusesToLoadIn (Damaged rule) = MayReturnDamaged rule
  RefusesToLoadIn NotACampaign = RefusesToSelect g (selection campaign_table 1) old read.Refused
  RefusesToLoadIn OtherFormat = HasOtherFormat
  RefusesToLoadIn Memory = MayReturnMemory g old

-- The schema begins with the tables of the format, which hold exactly the rows of the text and the campaign.
-- All is committed. The connection is open and in no transaction.
-- The trees list and obey the schema, and the rowids of each of these tables are integers, no two alike.
pub record KeepsIn (f : Format) (s : State) (text : List ℕ) (c : CampaignValue) : Type 0 where
  pub idle : s.in_transaction ≡ false
  pub is_open : IsTrue s.is_open
  pub settled : s.committed ≡ s.now
  pub begins : HasTablesOf f s.now.schema
  -- the trees of the database list its schema and obey it
  pub listed : IsSound s.now.schema s.now.trees
  -- in each table of the format the rowids are integers, no two alike
  pub keyed : (table : Table) → Has (map table_of (parts_in f)) table → AreKeyedByRowid (s.now.trees table.tree)
  pub rows : HoldsIn f s.now.trees text c

-- What Ok of loading in a format says: if the disk is clean, the tables of the format hold the campaign and a text of
-- the world. The campaign is good, and in the first format without markets (`Fits`); nothing of it is marked.
pub record LoadsIn (f : Format) {S : Type 0} (g : Ghosts S) (old new : Held S)
    (w : WorldValue) (c : MarkedCampaign) : Type 0 where
  -- if the disk is clean, the world text that the tables hold reads as the world
  pub world : HasCleanDisk (state g new) → world_of_text f (world_text (state g new)) ≡ Ok w
  -- if the disk is clean, the tables of the format hold the campaign, with their world text (`KeepsIn`)
  pub keeps : HasCleanDisk (state g new) → KeepsIn f (state g new) (world_text (state g new)) c.value
  -- in the first format nothing is in stock, and the amounts under the entries of markets are 0
  pub fits : Fits f c.value
  -- the campaign is good
  pub good : IsGood w c.value
  -- nothing of the campaign is marked
  pub unmarked : c.marks ≡ no_marks

-- ---- loading in the second format

module _ {S : Type 0} (g : Ghosts S) (old : Held S) where
  -- when `load` may return each fault: as loading in the second format does, with OldFormat in place of OtherFormat
  abbrev pub RefusesToLoad : StoreFault → Type 0
  RefusesToLoad store.Store = RefusesToLoadIn Second g old Store
  RefusesToLoad (store.Damaged rule) = RefusesToLoadIn Second g old (Damaged rule)
  RefusesToLoad store.NotACampaign = RefusesToLoadIn Second g old NotACampaign
  RefusesToLoad store.OldFormat = RefusesToLoadIn Second g old OtherFormat
  RefusesToLoad store.Memory = RefusesToLoadIn Second g old Memory

  -- What Ok of `load` says: if the disk is clean, the connection keeps the campaign and a text of the world.
  -- The campaign is good, and nothing of it is marked.
  pub record Loads (new : Held S) (w : WorldValue) (c : MarkedCampaign) : Type 0 where
    -- if the disk is clean, the world text that the tables hold reads as the world
    pub world : HasCleanDisk (state g new) → world_of (world_text (state g new)) ≡ Ok w
    -- the connection keeps the campaign, with the world text of its tables
    pub tables : HoldsCampaign g new (world_text (state g new)) c.value
    -- the campaign is good
    pub good : IsGood w c.value
    -- nothing of the campaign is marked
    pub unmarked : c.marks ≡ no_marks

  -- Loading changes nothing of the connection (`ChangesNothing`), whatever is answered, if the disk is clean.
  -- `Survives` holds too, with nothing committed, and the connection is in a transaction exactly if it was in one.
  pub record LeavesAlone (new : Held S) : Type 0 where
    -- nothing of the connection is changed, if the disk is clean
    pub unchanged : HasCleanDisk (state g new) → ChangesNothing (state g old) (state g new)
    -- On a clean disk a crash leaves only what it could have left before, and only a failure closes the connection.
    -- An unclean disk stays so, no failure is forgotten; tests of reads by digests and a step limit stay (`Survives`).
    pub survives : Survives (state g old) (state g new) (λ _. ⊥)
    pub mode : new.in_transaction ≡ old.in_transaction
