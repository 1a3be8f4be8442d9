-- Laws on `load`: from the rows that were read to the campaign that is loaded, or to the fault that refuses it.
-- That a fault refuses the load means: loading may return it (`RefusesToLoadIn`).
-- `f` is the format, `g` the kind of store, `w` the world of the campaign row, and `p` the rows of all tables, put
-- together for the check (`Parts`). The first rule is that on the campaign row (`AreOwnRow`). The connection is `old`
-- before all reads, `mid` after some of them, and `new` after all. `reads` is what was read of all tables but
-- `campaign`, by part.
use Rattle.std.proofs.Common.{◌≡◌, ℕ, List, [], ◌∷◌, Bool, true, false, not, filter, map, IsTrue, IsPermutation, true≢false, Option, Result, Ok, Err, IfErr, IsErrAnd, ◌⊎◌, Some, None, inl, arith, refl, sym, ap, ◌∙◌, subst, inr}
use Rattle.std.specs.List.{IsDistinct}
use Rattle.std.proofs.lemmas.Bool.{cases_Bool}
use Rattle.sqlite_catalog.specs.Listing.{IsSound}
use Rattle.sqlite_rules.specs.Lists.{Has}
use Rattle.sqlite_rules.proofs.ListLemmas.{all_has, has_filtered, has_kept}
use Rattle.sqlite_trees.specs.Tree.{Trees}
use Rattle.sqlite_trees.specs.declared.store.Store.{Ghosts}
use Rattle.sqlite.specs.Effect.{Database}
use Rattle.sqlite.specs.Held.{Held, state}
use Rattle.sqlite.specs.Order.{Row}
use Rattle.sqlite.specs.Schema.{Schema}
use Rattle.sqlite.specs.State.{State, HasCleanDisk}
use Rattle.sqlite.specs.Table.{Table}
use Rattle.atl_world.specs.declared.format.Format.{Format}
use Rattle.atl_world.specs.declared.format.Format.TheVariants.{First, Second}
use Rattle.atl_world.specs.Worlds.{WorldValue}
use Rattle.atl_tables.specs.World.{world_of_text}
use Rattle.atl_state.specs.Checking.{Checks, IsFirstBroken}
use Rattle.atl_campaign.specs.Campaign.{CampaignValue, MarkedCampaign}
use Rattle.atl_state.specs.declared.checking.CheckFault.{CheckFault}
use Rattle.atl_state.specs.declared.checking.CheckFault.TheVariants as check
use Rattle.atl_state.specs.declared.checking.Rule.{Rule}
use Rattle.atl_state.specs.declared.checking.Rule.TheVariants.{OneRow, Ranges, Names, Known, Next, Days, Gone, Owners, Water, Guards, Books, Mail}
use Rattle.atl_rows.specs.declared.parts.Parts.{Parts}
use Rattle.atl_rows.specs.declared.parts.StoredCampaignRow.{StoredCampaignRow}
use Rattle.atl_store.specs.Faults.{fault_of_check}
use Rattle.atl_store.specs.Gathering.{IsCommitted, FailsWithout, FoundBySelects, FailsToRead, FailsToConfirm, ReadRows, AreOfFormat, AllHaveDistinctRowids, HaveDistinctIntegers, without_ids, column_count, OwnRead, IsMadeOf, ReadsSome, GathersAll, IsConfirmed, IsLoaded}
use Rattle.atl_keeping.specs.Keeps.{Keeps, Stores}
use Rattle.atl_store.specs.Loading.{HaveRows, rows_read, own_stored, KeepsOneRow, BreaksRule, MayReturnDamaged, RefusesToLoadIn, KeepsIn, LoadsIn, Loads, LeavesAlone, AfterReads, AreMade, AllSelectsShowTyped, MayReturnMemory, FailedMeanwhile, RefusesAgain, shows_rowids, tables_with_rowids, other_parts, other_selects}
use Rattle.atl_writing.specs.Rows.{HoldsIn}
use Rattle.atl_descriptions.specs.Statements.{selection}
use Rattle.atl_descriptions.specs.PartSelects.{select_of_part}
use Rattle.atl_descriptions.specs.Sets.{AreKeyedByRowid, rows_in}
use Rattle.atl_descriptions.specs.Tables.{Part, Own, IsSoundDatabase, HasTablesOf, campaign_table, table_of, parts_in}
use Rattle.atl_keeping.specs.WorldText.{world_text}
use Rattle.atl_store.specs.declared.fault.LoadFault.{LoadFault}
use Rattle.atl_store.specs.declared.fault.LoadFault.TheVariants.{Store, Damaged, NotACampaign, OtherFormat, Memory}
use Rattle.atl_descriptions.specs.declared.records.campaign.StoredCampaign.{StoredCampaign}
use Rattle.atl_store.proofs.KeyedLaws.{cut_nothing, cut_places, rowids_keyed, keyed_places, unplaced_all}
use Rattle.atl_store.proofs.GatherLaws.{shown_open, fails_then, format_before}
use Rattle.atl_sql.proofs.ListLaws.{has_map, map_has}
use Rattle.atl_store.proofs.PartsLaws.{every_part, keeps_one_row, rows_hold, rows_keyed, holds_all}
use Rattle.atl_sql.proofs.SelectLaws.{has_first}
use Rattle.atl_keeping.proofs.WorldTextLaws.{text_held}

module _ (f : Format) {S : Type 0} (g : Ghosts S) where
  -- if the campaign row was read, the SELECT of `campaign` shows one row, which keeps the first rule
  pub own_kept : (old : Held S) (own : StoredCampaign) (w : WorldValue) → OwnRead g old f own w → KeepsOneRow f g old
  own_kept old own w read = record {
    rows = read.rows;
    selects = read.selects;
    head = own.head;
    text = own.world;
    world = w;
    own = read.row;
  }

-- ---- the parts

not_own : (part : Part) → shows_rowids part ≡ true → Has (other_parts Second) part
not_own part is = elim (every_part part) [ inl own ↦ absurd (true≢false (sym is ∙ ap shows_rowids own)) | inr other ↦ other ]

-- each format has the campaign's own row among its parts
has_own : (f : Format) → Has (parts_in f) Own
has_own First = inl refl
has_own Second = inl refl

-- the text in the tables of a connection that keeps a campaign in a format with a text (`KeepsIn`) is this text
kept_text_is : (f : Format) (s : State) (text : List ℕ) (c : CampaignValue) → KeepsIn f s text c
    → world_text s ≡ text
kept_text_is f s text c keeps = text_held f s text c (keeps.rows.rows Own (has_own f))

read_of : (reads : ReadRows) → map (λ read. read.0) reads ≡ other_parts Second → (part : Part)
    → Has (other_parts Second) part → (read : Part × List Row) × Has reads read × (part ≡ read.0)
read_of reads parts part there = map_has (λ (read : Part × List Row). read.0) reads part (subst (λ l. Has l part) (sym parts) there)

nothing_unplaced : (part : Part) → without_ids part [] ≡ []
nothing_unplaced part = elim (cases_Bool (shows_rowids part)) [
  | inl is ↦ cut_places part [] is
  | inr is ↦ cut_nothing part [] is
]

-- ---- the rows, as they were read

since_first : (part : Part) → Has (parts_in First) part → (select_of_part part).since ≡ First
since_first part there = all_has (λ p. (select_of_part p).since ≡ First) (parts_in First) part (refl, (refl, (refl, (refl, (refl, (refl, (refl, (refl, (refl, tt))))))))) there

-- a schema with a format's tables has, for each part of it, the tables of the earliest format that has the part
has_since : (f : Format) (schema : Schema) → HasTablesOf f schema → (part : Part) → Has (parts_in f) part
    → HasTablesOf (select_of_part part).since schema
has_since First schema has part there = subst (λ since. HasTablesOf since schema) (sym (since_first part there)) has
has_since Second schema has part there = under (select_of_part part).since
  where
    under : (since : Format) → HasTablesOf since schema
    under First = has_first Second schema has
    under Second = has

module _ (f : Format) {S : Type 0} (g : Ghosts S) (old : Held S) (reads : ReadRows) (are : AreOfFormat f (state g old).now reads) where
  abbrev db : Trees
  db = (state g old).now.trees

  all_of : (read : Part × List Row) → Has reads read → Has (parts_in f) read.0 → HasTablesOf f old.schema
      → IsPermutation ((select_of_part read.0).in_table db) read.1
  all_of read there has begins = elim (are.each read there) [ inl all ↦ all.1 (has_since f old.schema begins read.0 has) | inr none ↦ absurd (none.0 has) ]

  all_keyed : map (λ read. read.0) reads ≡ other_parts Second → AllHaveDistinctRowids reads → HasTablesOf f old.schema
      → (table : Table) → Has (tables_with_rowids f) table → AreKeyedByRowid (db table.tree)
  all_keyed parts apart begins table there =
      let part = map_has table_of (filter shows_rowids (parts_in f)) table there in
      let kept = has_filtered shows_rowids (parts_in f) part.0 part.1 in
      let read = read_of reads parts part.0 (not_own part.0 kept.1) in
      subst (λ (t : Table). AreKeyedByRowid (db t.tree)) (sym (part.2 ∙ ap table_of read.2))
      (rowids_keyed read.0.0 db read.0.1 (subst (λ p. shows_rowids p ≡ true) read.2 kept.1) (all_of read.0 read.1 (subst (Has (parts_in f)) read.2 kept.0) begins) (apart.each read.0 read.1 (subst (λ p. shows_rowids p ≡ true) read.2 kept.1)))

  all_apart : AreMade f g old → AllHaveDistinctRowids reads
  unfolding IsDistinct
  all_apart made = record {
    each = λ read there is. elim (are.each read there) [
      | inl all ↦ keyed_places read.0 db read.1 is (all_of read there all.0 made.begins) (made.keyed (table_of read.0) (has_map table_of (filter shows_rowids (parts_in f)) read.0 (has_kept shows_rowids (parts_in f) read.0 all.0 is)))
      | inr none ↦ subst (HaveDistinctIntegers (column_count read.0)) (sym none.1) (record { apart = tt; ints = tt })
    ];
  }

  -- the rows that are put together for the check are all rows of the tables
  module _ (head : StoredCampaignRow) (p : Parts) (made : IsMadeOf head reads p) where
    none_read : (text : List ℕ) (part : Part) → ¬ Has (parts_in f) part → rows_read text p part ≡ []
    none_read text part lacks = elim (every_part part) [
      | inl own ↦ absurd (lacks (subst (Has (parts_in f)) (sym own) (has_own f)))
      | inr other ↦
          let read = read_of reads made.parts part other in
          elim (are.each read.0 read.1) [
            | inl all ↦ absurd (lacks (subst (Has (parts_in f)) (sym read.2) all.0))
            | inr none ↦ ap (rows_read text p) read.2 ∙ made.rows text read.0 read.1 ∙ ap (without_ids read.0.0) none.1 ∙ nothing_unplaced read.0.0
          ]
    ]

    rows_of_part : (text : List ℕ) → HasTablesOf f old.schema
        → IsPermutation (rows_in campaign_table db) (own_stored text head ∷ []) → (part : Part) → Has (parts_in f) part
        → IsPermutation (rows_in (table_of part) db) (rows_read text p part)
    rows_of_part text begins own part there = elim (every_part part) [
      | inl is ↦ subst (λ q. IsPermutation (rows_in (table_of q) db) (rows_read text p q)) (sym is) (subst (λ rows. IsPermutation (rows_in campaign_table db) (map (own_stored text) rows)) (sym made.campaign) own)
      | inr other ↦
          let read = read_of reads made.parts part other in
          subst (λ q. IsPermutation (rows_in (table_of q) db) (rows_read text p q)) (sym read.2)
          (subst (IsPermutation (rows_in (table_of read.0.0) db)) (sym (made.rows text read.0 read.1)) (unplaced_all read.0.0 db read.0.1 (all_of read.0 read.1 (subst (Has (parts_in f)) read.2 there) begins)))
    ]

    have_rows : (text : List ℕ) → HasTablesOf f old.schema
        → IsPermutation (rows_in campaign_table db) (own_stored text head ∷ []) → HaveRows f db text p
    have_rows text begins own = record { rows = rows_of_part text begins own; none = none_read text }

module _ (f : Format) {S : Type 0} (g : Ghosts S) where
  -- all tables were read into `p` (`GathersAll`), if the campaign row was read, and all other tables without a value of
  -- another type, and `p` is made of these rows
  gathered_of : (old : Held S) (own : StoredCampaign) (w : WorldValue) (reads : ReadRows) (p : Parts)
      → OwnRead g old f own w → AllSelectsShowTyped g old (other_selects f) → AreOfFormat f (state g old).now reads
      → (head : StoredCampaignRow) → head ≡ own.head → IsMadeOf head reads p → GathersAll f g old w p
  gathered_of old own w reads p row typed are head same made = record {
    one = own_kept f g old own w row;
    first = keeps_one_row f w p head (ap (λ (h : StoredCampaignRow). h.id) same ∙ row.row.id) (ap (λ (h : StoredCampaignRow). h.format) same ∙ row.row.format) made.campaign (none_read f g old reads are head p made);
    text = own.world;
    world = row.row.world;
    typed = typed;
    rows = λ begins. have_rows f g old reads are head p made own.world begins (subst (λ h. IsPermutation (rows_in campaign_table (state g old).now.trees) (own_stored own.world h ∷ [])) (sym same) (row.table (has_first f old.schema begins)));
    keyed = all_keyed f g old reads are made.parts made.apart;
  }

  -- ---- what the check of the rows refuses

  breaks : (old : Held S) (w : WorldValue) (p : Parts) → GathersAll f g old w p → HasTablesOf f old.schema
      → (rule : Rule) → IsFirstBroken f w p rule → BreaksRule f g old rule
  breaks old w p all begins rule first = record { made = record { begins = begins; keyed = all.keyed begins }; world = w; text = all.text; is_world = all.world; parts = p; rows = all.rows begins; first = first }

  damaged_may_be_returned : (old : Held S) (w : WorldValue) (p : Parts) → GathersAll f g old w p
      → HasTablesOf f old.schema → (rule : Rule) → IsFirstBroken f w p rule → MayReturnDamaged f g old rule
  damaged_may_be_returned old w p all begins OneRow first = absurd (first.broken all.first)
  damaged_may_be_returned old w p all begins Ranges first = inr (breaks old w p all begins Ranges first)
  damaged_may_be_returned old w p all begins Names first = breaks old w p all begins Names first
  damaged_may_be_returned old w p all begins Known first = breaks old w p all begins Known first
  damaged_may_be_returned old w p all begins Next first = breaks old w p all begins Next first
  damaged_may_be_returned old w p all begins Days first = breaks old w p all begins Days first
  damaged_may_be_returned old w p all begins Gone first = breaks old w p all begins Gone first
  damaged_may_be_returned old w p all begins Owners first = breaks old w p all begins Owners first
  damaged_may_be_returned old w p all begins Water first = breaks old w p all begins Water first
  damaged_may_be_returned old w p all begins Guards first = breaks old w p all begins Guards first
  damaged_may_be_returned old w p all begins Books first = breaks old w p all begins Books first
  damaged_may_be_returned old w p all begins Mail first = breaks old w p all begins Mail first

  may_return_memory : (old : Held S) → old.in_transaction ≡ false → KeepsOneRow f g old → MayReturnMemory g old
  may_return_memory old idle kept = (idle, inr (kept.rows, kept.selects))

  -- outside a transaction, with the format's schema, once all tables were read (`GathersAll`), a fault of checking the
  -- rows refuses the load: Damaged with the first broken rule, or Memory
  pub judged_damaged : (old : Held S) → old.in_transaction ≡ false → (w : WorldValue) (p : Parts)
      → GathersAll f g old w p → HasTablesOf f old.schema → (fault : CheckFault) → Checks f w p (Err fault)
      → RefusesToLoadIn f g old (fault_of_check fault)
  judged_damaged old idle w p all begins (check.Damaged rule) first = damaged_may_be_returned old w p all begins rule first
  judged_damaged old idle w p all begins check.Memory none = may_return_memory old idle all.one

  -- ---- what else refuses the load after the first rule holds

  -- outside a transaction, if the campaign row keeps the first rule, a fault of reading other tables refuses the load
  pub unread_refuses : (old mid : Held S) → old.in_transaction ≡ false → KeepsOneRow f g old → AfterReads g old mid
      → (fault : LoadFault) → FailsToRead g mid (other_selects f) fault → RefusesToLoadIn f g old fault
  unread_refuses old mid idle kept first fault fails = refused fault (fails_then g old mid first (other_selects f) fault fails)
    where
      refused : (fault : LoadFault) → FailsToRead g old (other_selects f) fault → RefusesToLoadIn f g old fault
      refused Store fails = inr (inr (kept, inl fails))
      refused (Damaged rule) fails = absurd fails
      refused NotACampaign fails = absurd fails
      refused OtherFormat fails = absurd fails
      refused Memory fails = may_return_memory old idle kept

  -- the tables are tested on a connection after reads, with a clean disk, and the campaign row keeps the first rule
  module _ (old mid : Held S) (kept : KeepsOneRow f g old) (first : AfterReads g old mid) (clean : HasCleanDisk (state g mid)) where
    was_open : IsTrue (state g old).is_open
    was_open = kept.selects.2.was_open (shown_open (selection campaign_table 1) _ _ kept.rows kept.selects.3)

    shut_failed : (state g mid).is_open ≡ false → FailedMeanwhile g old
    shut_failed shut = record {
      after = mid;
      leaves = first;
      failed = elim (first.survives.closes clean was_open) [ inl up ↦ absurd (let k = sym up ∙ shut in cc) | inr more ↦ more ];
    }

    -- if the schema after the reads isn't the format's, the tables aren't made as the format has them, the disk failed,
    -- or asking for the books again is refused
    other_schema : ¬ HasTablesOf f mid.schema → (¬ AreMade f g old) ⊎ (FailedMeanwhile g old ⊎ RefusesAgain g old false)
    other_schema other = elim (cases_Bool (state g mid).is_open) [
      | inl up ↦ inl (λ made. other (subst (λ (d : Database). HasTablesOf f d.schema) (sym ((first.stays clean).same up).0) made.begins))
      | inr shut ↦ inr (inl (shut_failed shut))
    ]

    -- outside a transaction, if all values are of their columns' forms, a fault of testing the schema refuses the load
    pub unconfirmed_refuses : old.in_transaction ≡ false → AllSelectsShowTyped g old (other_selects f)
        → (fault : LoadFault) → FailsToConfirm g mid f fault → RefusesToLoadIn f g old fault
    unconfirmed_refuses idle typed Store (inl other) = inr (inr (kept, inr (typed, other_schema other)))
    unconfirmed_refuses idle typed Store (inr again) =
        inr (inr (kept, inr (typed, inr (inr (record { before = mid; leaves = first; during = again.1.0; error = again.1.1; refused = again.1.2; memory_is = again.1.3 })))))
    unconfirmed_refuses idle typed (Damaged rule) fails = absurd fails
    unconfirmed_refuses idle typed NotACampaign fails = absurd fails
    unconfirmed_refuses idle typed OtherFormat fails = absurd fails
    unconfirmed_refuses idle typed Memory fails = may_return_memory old idle kept

-- On a clean disk the campaign row `own` was read between `old` and `mid`, and then the other tables between `mid` and
-- `new`. What was read of these is `o`, None if a value is of another type than its column; `rows` gives its rows by
-- part.
module _ (f : Format) {S : Type 0} (g : Ghosts S) {A : Type 0} (rows : A → ReadRows) (old mid new : Held S) (own : StoredCampaign) (w : WorldValue) (row : OwnRead g old f own w) (before : AfterReads g old mid) (r : Result (Option A) LoadFault)
    (reads : ReadsSome g mid (other_selects f) (λ a. AreOfFormat f (state g mid).now (rows a)) r new) (o : Option A) (was : r ≡ Ok o) (clean : HasCleanDisk (state g new)) where
  found : (says : Option A) → o ≡ says
      → FoundBySelects g old (other_selects f) (λ a. AreOfFormat f (state g old).now (rows a)) says
  found says is = subst (FoundBySelects g old (other_selects f) (λ a. AreOfFormat f (state g old).now (rows a))) is (format_before g f rows old mid new before (other_selects f) r reads o was clean)

  -- if each value is of its column's type, `p`, made of the campaign row and `a`, is all tables' rows (`GathersAll`)
  pub gathered_with : (a : A) → o ≡ Some a → (p : Parts) (head : StoredCampaignRow) → head ≡ own.head
      → IsMadeOf head (rows a) p → GathersAll f g old w p
  gathered_with a is p head same made = let all = found (Some a) is in gathered_of f g old own w (rows a) p row all.0 all.1 head same made

  -- a value in a table but `campaign` that isn't of its column's form refuses the load: Damaged by the second rule
  pub mistyped_refuses : o ≡ None → RefusesToLoadIn f g old (Damaged Ranges)
  mistyped_refuses is = inl (own_kept f g old own w row, found None is)

  -- outside a transaction a fault of testing the rowids, Store if two are alike, or Memory, refuses the load
  pub unmade_refuses : old.in_transaction ≡ false → (a : A) → o ≡ Some a → (fault : LoadFault)
      → FailsWithout (AllHaveDistinctRowids (rows a)) fault → RefusesToLoadIn f g old fault
  unmade_refuses idle a is fault = refused fault
    where
      refused : (fault : LoadFault) → FailsWithout (AllHaveDistinctRowids (rows a)) fault
          → RefusesToLoadIn f g old fault
      refused Store lacks = let all = found (Some a) is in inr (inr (own_kept f g old own w row, inr (all.0, inl (λ made. lacks (all_apart f g old (rows a) all.1 made)))))
      refused (Damaged rule) lacks = absurd lacks
      refused NotACampaign lacks = absurd lacks
      refused OtherFormat lacks = absurd lacks
      refused Memory lacks = may_return_memory f g old idle (own_kept f g old own w row)

module _ {S : Type 0} (g : Ghosts S) where
  -- what is so of a fault is so of the error of each result that gives this fault
  pub holds_of_error : {A : Type 0} (P : LoadFault → Type 0) (fault : LoadFault) (r : Result A LoadFault)
      → IsErrAnd r (λ says. says ≡ fault) → P fault → IfErr r P
  holds_of_error P fault (Ok a) says p = tt
  holds_of_error P fault (Err f) says p = subst P (sym says) p

  -- ---- the whole

  -- a connection in autocommit mode is in no transaction
  pub is_idle : (auto inside : Bool) → auto ≡ not inside → IsTrue auto → inside ≡ false
  is_idle auto true is said = absurd (let k = sym is ∙ said in cc)
  is_idle auto false is said = refl

  -- on a clean disk, if the tables are confirmed after some reads, the tables before these reads are
  pub confirmed_before : (f : Format) (old mid new : Held S) → AfterReads g old mid → AfterReads g mid new
      → HasCleanDisk (state g mid) → HasCleanDisk (state g new) → IsConfirmed f (state g mid) (state g new)
      → IsConfirmed f (state g old) (state g new)
  confirmed_before f old mid new one two clean_mid clean confirmed =
      let up = (two.stays clean).was_open confirmed.is_open in
      let same = ((one.stays clean_mid).same up).0 in
      record {
        begins = subst (λ (d : Database). HasTablesOf f d.schema) same confirmed.begins;
        is_open = confirmed.is_open;
        sound = subst (λ (d : Database). IsSound d.schema d.trees) same confirmed.sound;
      }

  -- reads outside a transaction leave the connection alone (`LeavesAlone`)
  pub leaves_alone : (old new : Held S) → old.in_transaction ≡ false → AfterReads g old new → LeavesAlone g old new
  leaves_alone old new idle leaves = record {
    unchanged = λ clean. record {
      same = λ up. let same = (leaves.stays clean).same up in (same.0, same.1, leaves.idle ∙ sym idle);
      shuts = leaves.survives.closes clean;
    };
    survives = leaves.survives;
    mode = leaves.idle ∙ sym idle;
  }

-- ---- the campaign that the tables hold

module _ (f : Format) {S : Type 0} (g : Ghosts S) (old new : Held S) (w : WorldValue) (c : MarkedCampaign) (loaded : IsLoaded f g old new w c) (leaves : AfterReads g old new) (settled : IsCommitted (state g old)) where
  new_is_there : (clean : HasCleanDisk (state g new)) → KeepsIn f (state g new) (loaded.gathered clean).text c.value
  new_is_there clean =
      let all = loaded.gathered clean in
      let confirmed = loaded.confirmed clean in
      let up = confirmed.is_open in
      let stays = leaves.stays clean in
      let same = stays.same up in
      let back = settled (omega (arith, leaves.survives.clean, clean)) (stays.was_open up) in
      let db = (state g old).now.trees in
      let rows = all.rows confirmed.begins in
      record {
        idle = leaves.idle;
        is_open = up;
        settled = same.1 ∙ sym back ∙ sym same.0;
        begins = subst (λ (d : Database). HasTablesOf f d.schema) (sym same.0) confirmed.begins;
        listed = subst (λ (d : Database). IsSound d.schema d.trees) (sym same.0) confirmed.sound;
        keyed = λ table there. subst (λ (d : Database). AreKeyedByRowid (d.trees table.tree)) (sym same.0) (rows_keyed f db all.text loaded.parts c.value rows loaded.checked.rows _ loaded.checked.good.sound.steady.numbers.books (all.keyed confirmed.begins) table there);
        rows = subst (λ (d : Database). HoldsIn f d.trees all.text c.value) (sym same.0) (rows_hold f db all.text loaded.parts c.value rows loaded.checked.rows _ loaded.checked.good.sound.steady.numbers.books);
      }

  -- what was loaded (`IsLoaded`) is what Ok of loading in the format says (`LoadsIn`), if loading only read, and before
  -- it all was committed (`settled`)
  pub loads_in : LoadsIn f g old new w c
  loads_in = record {
    world = λ clean. subst (λ t. world_of_text f t ≡ Ok w) (sym (kept_text_is f (state g new) (loaded.gathered clean).text c.value (new_is_there clean))) (loaded.gathered clean).world;
    keeps = λ clean. subst (λ t. KeepsIn f (state g new) t c.value) (sym (kept_text_is f (state g new) (loaded.gathered clean).text c.value (new_is_there clean))) (new_is_there clean);
    fits = loaded.checked.fits;
    good = loaded.checked.good;
    unmarked = loaded.checked.marks;
  }

module _ {S : Type 0} (g : Ghosts S) (old new : Held S) where
  keeps_second : (text : List ℕ) (c : CampaignValue)
      → ((db : Trees) → IsTrue (state g new).is_open → (state g new).may_leave db → db ≡ (state g new).committed.trees)
      → KeepsIn Second (state g new) text c → Keeps (state g new) text c
  keeps_second text c store keeps =
      let sound : IsSoundDatabase (state g new).now.schema (state g new).now.trees = record { keyed = keeps.keyed; listed = keeps.listed } in
      let rows = holds_all (state g new).now.trees text c keeps.rows in
      record {
        idle = keeps.idle;
        is_open = keeps.is_open;
        settled = keeps.settled;
        tables = record { begins = keeps.begins; sound = sound };
        rows = rows;
        crash = λ db may. subst (λ t. Stores t text c) (sym (store db keeps.is_open may ∙ ap (λ (d : Database). d.trees) keeps.settled)) (record { schema = (state g new).now.schema; begins = keeps.begins; sound = sound; rows = rows });
      }

  -- Ok of loading in the second format says what Ok of `load` says, if a crash leaves an open connection's last commit
  pub loads : ((db : Trees) → IsTrue (state g new).is_open → (state g new).may_leave db → db ≡ (state g new).committed.trees)
      → (w : WorldValue) (c : MarkedCampaign) → LoadsIn Second g old new w c → Loads g old new w c
  loads store w c loaded = record {
    world = loaded.world;
    tables = λ clean. keeps_second (world_text (state g new)) c.value store (loaded.keeps clean);
    good = loaded.good;
    unmarked = loaded.unmarked;
  }
