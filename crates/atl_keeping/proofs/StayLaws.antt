-- Laws on what a connection keeps after a transaction: the campaign after a commit or before a fault, and other tables.
-- `old` is the state before the transaction, and `new` after its commit or its end by a fault. The transaction does
-- `Does` to tables that are as `Before` says. As a parameter, `Commits` says which trees a crash may leave besides
-- those that it could have left before. `text` is the world text, and `g` the kind of store, in memory or in files.
-- Other tables are left alone (`LeavesOthersAlone`): no table or index is gone, and tables that aren't the campaign's
-- hold what they held. This is said only if the connection is open afterwards, and before it had the tables of a
-- campaign and nothing uncommitted.
use Rattle.std.proofs.Common.{◌≡◌, ◌≢◌, ℕ, Bool, true, false, cond, List, IsTrue, Result, Ok, Err, OnErr, IfErr, IsErrAnd, refl, sym, ap, ◌∙◌, subst, inl, inr, arith}
use Rattle.sqlite_trees.specs.Tree.{Trees}
use Rattle.sqlite_trees.specs.declared.store.Store.{Ghosts}
use Rattle.sqlite.specs.declared.error.Error.{Error}
use Rattle.sqlite.specs.Held.{Held, state}
use Rattle.sqlite.specs.Schema.{Schema}
use Rattle.atl_sql.specs.Making.{has_campaign}
use Rattle.sqlite.specs.Effect.{Database}
use Rattle.sqlite.specs.State.{State, HasCleanDisk, Survives}
use Rattle.atl_campaign.specs.Campaign.{CampaignValue}
use Rattle.atl_writing.specs.Rows.{Holds}
use Rattle.atl_sql.specs.Inside.{HasTables, Carries, Commits, LeavesOff, MayLeave}
use Rattle.atl_keeping.specs.Keeps.{Stores, Keeps, IsLater, IsReadyToCreate, FailsToCreate, BreaksOffCreation, RefusesToCreate, LeavesAfterFault, ChangesNothing, LeavesOthersAlone, MayLeaveCampaign}
use Rattle.atl_descriptions.specs.Statements.{Statements}
use Rattle.atl_writing.specs.OwnStatements.{OfFounding}
use Rattle.atl_sql.specs.Causes.{Gives, IsFaultOfError}
use Rattle.atl_sql.specs.Errors.{is_memory}
use Rattle.atl_keeping.specs.Faults.{create_fault}
use Rattle.atl_keeping.specs.declared.fault.CreateFault.{CreateFault}
use Rattle.atl_keeping.specs.declared.fault.CreateFault.TheVariants as create
use Rattle.atl_sql.proofs.CarryLaws.{carries_none}

held_campaign_is_stored : (db : Database) (text : List ℕ) (c : CampaignValue) → HasTables db → Holds db.trees text c
    → Stores db.trees text c
held_campaign_is_stored db text c has rows =
    record { schema = db.schema; begins = has.begins; sound = has.sound; rows = rows }

-- `settled` says that of an open connection a crash leaves the last commit
module _ (old new : State) (text : List ℕ) (settled : (db : Trees) → IsTrue new.is_open → new.may_leave db → db ≡ new.committed.trees) where
  -- After a commit the connection keeps the campaign `after`. For this the tables were as `Before` says, and hold
  -- `after` once `Does` is done to them.
  pub commits_keeps : (Before : Database → Type 0) (Does : Database → Database → Type 0) (after : CampaignValue)
      → Commits Before Does old new → Before old.now → (Does old.now new.now → Holds new.now.trees text after)
      → Keeps new text after
  commits_keeps Before Does after done was holds =
      let did = done.does was in
      let rows = holds did.does in
      record {
        idle = done.idle;
        is_open = done.is_open;
        settled = done.committed;
        tables = did.tables;
        rows = rows;
        crash = λ db may. subst (λ t. Stores t text after) (sym (settled db done.is_open may ∙ ap (λ (d : Database). d.trees) done.committed)) (held_campaign_is_stored new.now text after did.tables rows);
      }

  -- After a failed transaction (`LeavesOff`, `Survives`) on a clean disk, the connection, while it is open, keeps the
  -- campaign that it kept, `before`. A crash leaves this or `after`, which `Does` makes the tables hold.
  pub leaves_stops : (Does : Database → Database → Type 0) (before after : CampaignValue) → HasCleanDisk new
      → LeavesOff old new → Survives old new (MayLeave HasTables Does old) → Keeps old text before
      → ((db : Database) → Does old.now db → Holds db.trees text after)
      → LeavesAfterFault old.faults new text before after
  leaves_stops Does before after clean off survives keeps holds = record {
    still = λ up.
        let back = off.undone up in
        let same : new.now ≡ old.now = back.0 ∙ keeps.settled in
        record {
          idle = off.idle;
          is_open = up;
          settled = back.1 ∙ sym back.0;
          tables = subst HasTables (sym same) keeps.tables;
          rows = subst (λ (d : Database). Holds d.trees text before) (sym same) keeps.rows;
          crash = λ db may. subst (λ t. Stores t text before) (sym (settled db up may ∙ ap (λ (d : Database). d.trees) (back.1 ∙ keeps.settled))) (held_campaign_is_stored old.now text before keeps.tables keeps.rows);
        };
    shuts = survives.closes clean keeps.is_open;
    crash = λ db may. elim (survives.crash clean db may) [
      | inl was ↦ inl (keeps.crash db was)
      | inr made ↦ let did = made.1 keeps.tables in inr (subst (λ t. Stores t text after) (sym made.2) (held_campaign_is_stored made.0 text after did.tables (holds made.0 did.does)))
    ];
  }

-- if a transaction that does `Does` makes tables, which were as `Before` says, hold the campaign `c`, a crash leaves
-- what it could have left before, or `c`, on a clean disk; a premise is `Survives`
pub may_found : (old new : State) (text : List ℕ) (c : CampaignValue) (Before : Database → Type 0) (Does : Database → Database → Type 0)
    → Before old.now → ((db : Database) → Does old.now db → Holds db.trees text c) → HasCleanDisk new
    → Survives old new (MayLeave Before Does old) → MayLeaveCampaign old text c new
may_found old new text c Before Does before holds clean survives db may = elim (survives.crash clean db may) [
  | inl was ↦ inl was
  | inr made ↦ let did = made.1 before in inr (subst (λ t. Stores t text c) (sym made.2) (held_campaign_is_stored made.0 text c did.tables (holds made.0 did.does)))
]

-- on a clean disk a failed transaction (`LeavesOff`, `Survives`) changes nothing while the connection is open
-- (`ChangesNothing`), if the connection was in none before, and all was committed while it was open
pub failed_changes_nothing : (old new : State) (Commits : Trees → Type 0) → HasCleanDisk new → LeavesOff old new
    → Survives old new Commits → old.in_transaction ≡ false → (IsTrue old.is_open → old.now ≡ old.committed)
    → ChangesNothing old new
failed_changes_nothing old new Commits clean off survives idle settled = record {
  same = λ up.
      let back = off.undone up in
      let was = settled (off.was_open up) in
      (back.0 ∙ sym was, back.1, off.idle ∙ sym idle);
  shuts = survives.closes clean;
}

-- the database was ready for `create`, which failed as with Store or Memory (`FailsToCreate`)
module _ {S : Type 0} (g : Ghosts S) (text : List ℕ) (c : CampaignValue) (old new : Held S) (ready : IsReadyToCreate (state g old)) (fails : FailsToCreate g text c old new) where
  refused_by_fault : (fault : CreateFault) → fault ≢ create.NotEmpty → BreaksOffCreation g text c old new fault
      → RefusesToCreate g text c old new fault
  refused_by_fault create.NotEmpty other breaks = absurd (other refl)
  refused_by_fault create.Store other breaks = (fails, inr breaks)
  refused_by_fault create.Memory other breaks = (fails, breaks)

  never_not_empty : (e : Error) → create_fault e ≢ create.NotEmpty
  never_not_empty e = go (is_memory e)
    where
      go : (b : Bool) → cond b create.Memory create.Store ≢ create.NotEmpty
      go true same = absurd cc
      go false same = absurd cc

  -- if the result is Err with the fault of the error `e`, `create` may return this fault (`RefusesToCreate`); a premise
  -- is that on a clean disk one of its statements, or its commit, gave `e` (`Gives`)
  pub refused_with : (e : Error) (r : Result (Unit {0}) CreateFault) → IsErrAnd r (λ f. f ≡ create_fault e)
      → (HasCleanDisk (state g new) → Gives g (OfFounding text c) e old new)
      → IfErr r (RefusesToCreate g text c old new)
  refused_with e (Ok a) says gave = tt
  refused_with e (Err f) says gave =
      refused_by_fault f (λ none. never_not_empty e (sym says ∙ none))
      (record { ready = ready; reports_error = λ clean. (e, says, gave clean) })

-- if a transaction of the statements `own` gave the error `e` (`Gives`), and the result `r` is Err with what `fault_of`
-- makes of it, this error is the fault's cause (`IsFaultOfError`)
pub error_of : {S F A : Type 0} (g : Ghosts S) (own : Statements) (fault_of : Error → F) (old new : Held S) (e : Error) (r : Result A F)
    → IsErrAnd r (λ f. f ≡ fault_of e) → Gives g own e old new → IfErr r (IsFaultOfError g own fault_of old new)
error_of g own fault_of old new e (Ok a) says gave = tt
error_of g own fault_of old new e (Err f) says gave = (e, says, gave)

-- If the schema that the connection shows now has no table `campaign`, as its test `found` says, `conn` has none.
pub not_there : {S : Type 0} (g : Ghosts S) (conn : Held S) (schema : Schema) (found : Bool)
    → schema ≡ (state g conn).now.schema → found ≡ has_campaign schema → found ≡ false
    → has_campaign conn.schema ≡ false
not_there g conn schema found shown is none = ap has_campaign (sym shown) ∙ sym is ∙ none

pub unchanged_itself : (s : State) → ChangesNothing s s
unchanged_itself s = record { same = λ up. (refl, refl, refl); shuts = λ up. inl up }

-- after a call a clean disk was clean before, no failure is forgotten, and reads tested by digests stay so (`IsLater`)
pub survives_is_later : (old new : State) (Commits : Trees → Type 0) → Survives old new Commits → IsLater old new
survives_is_later old new Commits survives =
    record { clean = λ clean. omega (arith, survives.clean); counts = survives.counts; shield = survives.shield }

-- a commit leaves other tables alone, if `Before` holds wherever all tables of a campaign are there
pub commit_leaves_others : (old new : State) (Before : Database → Type 0) (Does : Database → Database → Type 0)
    → Commits Before Does old new → (HasTables old.now → Before old.now) → LeavesOthersAlone old new
commit_leaves_others old new Before Does done before up has settled = (done.does (before has)).carries

-- a failed transaction (`LeavesOff`) leaves other tables alone
pub leaves_others : (old new : State) → LeavesOff old new → LeavesOthersAlone old new
leaves_others old new off up has settled =
    subst (Carries old.now) (sym ((off.undone up).0 ∙ settled)) (carries_none old.now)

pub on_err : {A E : Type 0} (r : Result A E) (P : Type 0) → P → OnErr r P
on_err (Ok a) P p = tt
on_err (Err e) P p = p
