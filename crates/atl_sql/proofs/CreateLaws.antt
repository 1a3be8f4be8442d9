-- Law on CREATE TABLE: a statement that ran added one table without rows.
-- `old` and `new` are the state before and after the statement, and `count` is how many changed rows it reports.
use Rattle.std.proofs.Common.{◌≡◌, ℕ, false, List, [], None, Ok, sym, ap, ◌∙◌, subst}
use Rattle.sqlite.specs.Table.{Table}
use Rattle.sqlite.specs.Schema.{Schema}
use Rattle.sqlite.specs.Command.TheVariants.{CreateTable}
use Rattle.sqlite.specs.Compile.{table_defined_by}
use Rattle.sqlite.specs.Change.{created, next_tree, KeepsRows}
use Rattle.sqlite.specs.Listing.{understood}
use Rattle.sqlite.specs.Does.{Tally, lacks_sequence}
use Rattle.sqlite.specs.Effect.{Database}
use Rattle.sqlite.specs.State.{State, Writes, Executes}
use Rattle.sqlite_rules.proofs.ListLemmas.{all_has}
use Rattle.sqlite.proofs.Callers.{IsPlain, command_of, statement_of, runs_as}
use Rattle.atl_sql.proofs.Made.{CreatesTable}
use Rattle.atl_sql.proofs.EditLaws.{ok_step_did, same_value}

-- `text` is one CREATE TABLE that defines `table`, and doesn't read the time (`IsPlain`). Run without an error on a
-- database of the schema `before`, it adds this table, without rows (`CreatesTable`). The new schema must lack no table
-- of sequences, which only AUTOINCREMENT needs.
pub creates : (before : Schema) (table : Table) (text : List ℕ) (old new : State) (count : ℕ)
    → command_of (understood before text) ≡ CreateTable → statement_of text (understood before text) ≡ text
    → table_defined_by text ≡ Ok table → IsPlain (understood before text)
    → lacks_sequence (created before table) ≡ false → old.now.schema ≡ before → Executes text [] old new (Ok count)
    → CreatesTable before (created before table) (next_tree before) old.now new.now
creates before table text old new count is whole defines bare uncounted has h =
    let w = subst (λ t. Writes old new None CreateTable t [] count) whole (runs_as text [] old new before has CreateTable is bare count h) in
    let all = ok_step_did w.changed in
    let first = ok_step_did all.1 in
    let made = first.1 in
    let both : Ok made.table ≡ Ok table = sym made.defined ∙ defines in
    let same : made.table ≡ table = cc in
    let schema : first.0.schema ≡ created before table = made.is ∙ ap (λ s. created s made.table) has ∙ ap (created before) same in
    let plain : lacks_sequence first.0.schema ≡ false = ap lacks_sequence schema ∙ uncounted in
    let now : new.now ≡ first.0 = ap (λ (p : Tally × Database). p.1) (same_value all.2) ∙ same_value (rw plain at first.2) in
    record {
      schema_is = ap (λ (d : Database). d.schema) now ∙ schema;
      empty = ap (λ (d : Database). d.trees (next_tree before)) now ∙ subst (λ s. first.0.trees (next_tree s) ≡ []) has made.empty;
      others = λ t listed. ap (λ (d : Database). d.trees t.tree) now ∙ all_has _ before.tables t (subst (λ (s : Schema). KeepsRows s.tables old.now.trees first.0.trees) has made.others) listed;
      sound = w.sound;
    }
