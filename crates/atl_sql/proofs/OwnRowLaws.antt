-- Laws on an upsert of the table `campaign`: it inserts the row, or changes some columns of the row that is there.
-- `head` and `world` are the values and the world text that the statement is given. `project` are the terms of its
-- UPDATE, where `col 0 n` is the parameter at the index `n`. `old` and `new` are the state or the database before and
-- after. A tree holds the rows of one table.
use Rattle.std.proofs.Common.{◌≡◌, ℕ, pos, true, List, [], ◌∷◌, ◌++◌, Some, Ok, refl, sym, ap, ◌∙◌, subst, take}
use Rattle.sqlite.specs.declared.types.Value.TheVariants.{Null, Int}
use Rattle.sqlite.specs.Command.TheVariants.{InsertOr}
use Rattle.sqlite.specs.Term.{Term, lit, col}
use Rattle.sqlite.specs.Source.TheVariants.{Values}
use Rattle.sqlite.specs.Listing.{understood}
use Rattle.sqlite.specs.Order.{Row}
use Rattle.sqlite.specs.Rows.{shown}
use Rattle.sqlite.specs.State.{State, ExecutesInside}
use Rattle.sqlite.specs.Effect.{Database}
use Rattle.sqlite.specs.Table.{Table}
use Rattle.sqlite.proofs.Callers.{IsPlain, command_of, statement_of, runs_as}
use Rattle.sqlite_sql.specs.Term.{eval_all}
use Rattle.sqlite_value.specs.Keys.{first_key}
use Rattle.sqlite_schema.specs.declared.command.Conflict.TheVariants.{Abort}
use Rattle.sqlite_schema.specs.declared.schema.Index.{Index}
use Rattle.sqlite_trees.specs.Tree.{rowid}
use Rattle.sqlite_trees.specs.View.{is_int}
use Rattle.sqlite_rules.specs.Lists.{Has}
use Rattle.sqlite_rules.specs.Cast.{cast_row}
use Rattle.sqlite_rules.specs.Edit.{with_rowid}
use Rattle.sqlite_rules.specs.declared.error.Rowids.TheVariants.{Chosen}
use Rattle.sqlite_rules.proofs.ListLemmas.{all_has}
use Rattle.atl_descriptions.specs.Sets.{visible_row, rows_in, HasExactly}
use Rattle.atl_descriptions.specs.Tables.{Own, campaign_table, all_tables_and_others, all_tables}
use Rattle.atl_sql.specs.Shown.{CampaignRowValue, int, campaign_row, campaign_row_values}
use Rattle.atl_sql.specs.Inside.{HasTables, Carries, Puts}
use Rattle.atl_sql.proofs.ListLaws.{has_map, map_has}
use Rattle.atl_sql.proofs.UpsertLaws.{Upserted, hits, update_query, conflict_clause}
use Rattle.atl_sql.proofs.StatementLaws.{upserting}
use Rattle.atl_sql.proofs.PartLaws.{listed}
use Rattle.atl_sql.proofs.CarryLaws.{among_all, write_checks_no_reference, none_share, sound_under, altered, stays_there, carried}
use Rattle.atl_sql.proofs.MakeLaws.{write_does_command, upserts_make, updates_make, upserts_sound, upserts_others, Tests}
use Rattle.atl_sql.proofs.Terms.{cast_null, cast_int, upsert_finds_number, one_number}

campaign_table_is_listed : Has all_tables campaign_table
campaign_table_is_listed = listed Own

-- the terms of the INSERT of a campaign row: the id 1 as its rowid, NULL in the column `id` itself, the format 2, and
-- the parameters in all other columns
abbrev pub own_terms : List Term
own_terms =
    lit (Int (pos 1)) ∷ lit Null ∷ lit (Int (pos 2)) ∷ col 0 0 ∷ col 0 1 ∷ col 0 2 ∷ col 0 3 ∷ col 0 4 ∷ col 0 5 ∷ []

abbrev stored_own_row : CampaignRowValue → List ℕ → Row
stored_own_row head world = int 1 ∷ Null ∷ int 2 ∷ campaign_row_values head world

-- the row, as SQL shows it, that the UPDATE by these terms makes of a stored row of `campaign`, given head and world
abbrev pub changed_to : List Term → CampaignRowValue → List ℕ → Row → Row
changed_to project head world r =
    visible_row campaign_table
    (cast_row campaign_table (eval_all project ((campaign_row_values head world ++ rowid r ∷ shown campaign_table (stored_own_row head world)) ∷ r ∷ [])))

-- an upsert of `campaign` inserts a row of the second format if there is none, or changes the only one by the terms
-- `project`; the ten tables are there afterwards, and all other tables are kept
pub record PutsOwn (project : List Term) (head : CampaignRowValue) (world : List ℕ) (old new : Database) : Type 0 where
  pub first : rows_in campaign_table old.trees ≡ [] → Puts campaign_table 1 (campaign_row head world) old new
  -- if the only campaign row is `before`, it is replaced by the row `after` that the UPDATE makes of it; both have id 1
  pub again : (before after : Row) → take 1 before ≡ int 1 ∷ [] → take 1 after ≡ int 1 ∷ []
      → HasExactly (rows_in campaign_table old.trees) (λ r. r ≡ before)
      → ((r : Row) → visible_row campaign_table r ≡ before → changed_to project head world r ≡ after)
      → Puts campaign_table 1 after old new
  pub tables : HasTables new
  pub carries : Carries old new

-- whatever other tables follow, the text means the upsert of `campaign` whose UPDATE has the terms `project`; it has no
-- RETURNING, and doesn't read the time (`IsPlain`)
pub record MeansOwn (sql : List ℕ) (project : List Term) : Type 1 where
  pub is : (more : List Table) (indexes : List Index)
      → command_of (understood (all_tables_and_others more indexes) sql)
      ≡ InsertOr 0 Abort (Values own_terms 9) (conflict_clause (0 ∷ []) (record { lets = []; body = update_query campaign_table.tree 6 project }) ∷ [])
  pub plain : (more : List Table) (indexes : List Index) → IsPlain (understood (all_tables_and_others more indexes) sql)

-- A text that means an upsert of the campaign row (`MeansOwn`) inserts or changes the row (`PutsOwn`), if it runs
-- without an error inside a transaction, on the tables of a campaign. `count` is how many rows it reports.
pub puts_own : (sql : List ℕ) (project : List Term) → MeansOwn sql project
    → (old new : State) (head : CampaignRowValue) (world : List ℕ) (count : ℕ) → HasTables old.now
    → ExecutesInside 0 sql (campaign_row_values head world) old new (Ok count)
    → PutsOwn project head world old.now new.now
unfolding first_key
puts_own sql project means old new head world count has ran =
    let schema = all_tables_and_others has.begins.tables has.begins.indexes in
    let sound = sound_under old.now has in
    let none = write_checks_no_reference has.begins.tables has.begins.indexes campaign_table.tree has.begins.free in
    let v = campaign_row_values head world in
    let src = stored_own_row head world in
    let w = runs_as sql v old new schema has.begins.made_of _ (means.is has.begins.tables has.begins.indexes) (means.plain has.begins.tables has.begins.indexes) count ran.0 in
    let keyed = sound.keyed campaign_table campaign_table_is_listed in
    let up = upserting schema campaign_table.tree _ _ _ _ _ _ 0 refl none old.step_limit v (0 ∷ []) 6 project (λ db. refl) (statement_of sql (understood schema sql)) own_terms 9 src
    old.now.trees _ keyed (λ r there. refl) refl (write_does_command schema old new _ _ v count has.begins.made_of w) in
    let casted : cast_row campaign_table src ≡ src = rw (cast_int (pos 1), cast_int (pos 2), cast_int (pos head.month), cast_int (pos head.next_faction), cast_int (pos head.next_unit), cast_int (pos head.next_structure), cast_null) refl in
    let made : with_rowid Chosen (old.now.trees campaign_table.tree) (cast_row campaign_table src) ≡ src = ap (with_rowid Chosen (old.now.trees campaign_table.tree)) casted in
    let are_ints : (x : Row) → Has (old.now.trees campaign_table.tree) x → is_int (rowid x) ≡ true = λ x there. all_has _ (old.now.trees campaign_table.tree) x keyed.ints there in
    let upserted = subst (λ k. Upserted schema campaign_table none old.step_limit v (0 ∷ []) 6 project (λ db. refl) k old.now.trees new.now.trees) made up.0 in
    let tests : Tests schema (among_all has.begins.tables) campaign_table 1 (hits schema campaign_table none old.step_limit v (0 ∷ []) 6 project (λ db. refl) src) (int 1 ∷ []) (old.now.trees campaign_table.tree) = λ x there. upsert_finds_number (rowid x) 1 _ (none_share campaign_table (Some (0 ∷ [])) src x has.begins.indexes (λ i there. has.begins.plain i there campaign_table campaign_table_is_listed)) (are_ints x there) in
    let first : rows_in campaign_table old.now.trees ≡ [] → Puts campaign_table 1 (campaign_row head world) old.now new.now = λ bare.
    altered campaign_table old.now new.now has campaign_table_is_listed _ (upserts_make schema (among_all has.begins.tables) campaign_table 1 none old.step_limit v (0 ∷ []) 6 project (λ db. refl) src (campaign_row head world) old.now new.now upserted
    (ap (visible_row campaign_table) casted)
    (λ r there same. absurd (subst (λ l. Has l (visible_row campaign_table r)) bare (has_map (visible_row campaign_table) (old.now.trees campaign_table.tree) r there)))
    tests
    (λ x r one two same. one_number _ _ same)
    campaign_table_is_listed sound w.sound up.1) in
    let again : (before after : Row) → take 1 before ≡ int 1 ∷ [] → take 1 after ≡ int 1 ∷ [] → HasExactly (rows_in campaign_table old.now.trees) (λ r. r ≡ before) → ((r : Row) → visible_row campaign_table r ≡ before → changed_to project head world r ≡ after) → Puts campaign_table 1 after old.now new.now = λ before after key key_after is changed.
    let x = map_has (visible_row campaign_table) (old.now.trees campaign_table.tree) before ((is before).1 refl) in
    altered campaign_table old.now new.now has campaign_table_is_listed _ (updates_make schema (among_all has.begins.tables) campaign_table 1 none old.step_limit v (0 ∷ []) 6 project (λ db. refl) src after old.now new.now upserted
    x.0 x.1 (ap (take 1) (sym x.2) ∙ key ∙ sym key_after)
    (λ r there same. changed r ((is (visible_row campaign_table r)).0 (has_map (visible_row campaign_table) (old.now.trees campaign_table.tree) r there)))
    (subst (λ k. Tests schema (among_all has.begins.tables) campaign_table 1 (hits schema campaign_table none old.step_limit v (0 ∷ []) 6 project (λ db. refl) src) k (old.now.trees campaign_table.tree)) (sym key_after) tests)
    (λ x r one two same. one_number _ _ same)
    campaign_table_is_listed sound w.sound up.1) in
    record {
      first = first;
      again = again;
      tables = stays_there campaign_table old.now new.now has campaign_table_is_listed up.1 (upserts_sound schema (among_all has.begins.tables) campaign_table 1 none old.step_limit v (0 ∷ []) 6 project (λ db. refl) src v old.now new.now upserted sound w.sound up.1);
      carries = carried campaign_table old.now new.now has campaign_table_is_listed up.1 (upserts_others schema (among_all has.begins.tables) campaign_table 1 none old.step_limit v (0 ∷ []) 6 project (λ db. refl) src v old.now new.now upserted);
    }
