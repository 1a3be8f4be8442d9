-- Laws on a query outside a transaction, as the one that confirms a load: it commits nothing and changes nothing.
-- `sql` is the text of the query and `e` the error that it gives. `old` is the state, or the connection, before the
-- query, and `new` or `during` after it. In the last law the schema begins with the tables of the format `f`.
use Rattle.std.proofs.Common.{◌≡◌, ℕ, Bool, true, false, cond, List, [], Result, Ok, Err, IfErr, IsErrAnd, refl, sym, ◌∙◌, subst, inl, inr}
use Rattle.sqlite.specs.declared.error.Error.{Error}
use Rattle.sqlite_trees.specs.declared.store.Store.{Ghosts}
use Rattle.sqlite.specs.Held.{Held, state}
use Rattle.sqlite.specs.Listing.{understood}
use Rattle.sqlite.specs.Order.{Row}
use Rattle.sqlite.specs.State.{State, HasCleanDisk, Survives, CommitsShowing, Shown, ShowsRows, FailsToQuery, IsNotRun, IsUnchanged, IsRolledBack}
use Rattle.sqlite.proofs.Callers.{IsPlain, never_commits}
use Rattle.sqlite.proofs.StateLemmas.{survives_weaker}
use Rattle.atl_world.specs.declared.format.Format.{Format}
use Rattle.atl_store.specs.Gathering.{IsCommitted, FailsToConfirm}
use Rattle.atl_sql.specs.Errors.{is_memory}
use Rattle.atl_store.specs.Faults.{load_fault}
use Rattle.atl_store.specs.Loading.{TablesStay}
use Rattle.atl_descriptions.specs.Statements.{selection_with_ids}
use Rattle.atl_descriptions.specs.Tables.{HasTablesOf, books_table}
use Rattle.atl_store.specs.declared.fault.LoadFault.{LoadFault}
use Rattle.atl_store.specs.declared.fault.LoadFault.TheVariants as load
use Rattle.atl_sql.proofs.StreamLaws.{fails_stay}

-- a query that is plain, without RETURNING and not reading the time (`IsPlain`), from the state `old` to `new`
module _ (sql : List ℕ) (old new : State) (plain : IsPlain (understood old.now.schema sql)) where
  -- after a plain query, which commits nothing, a crash leaves only what it could have left before (`Survives`)
  pub commits_none : Survives old new (CommitsShowing sql [] old) → Survives old new (λ _. ⊥)
  commits_none = survives_weaker old new _ _ (λ _ db. never_commits sql [] old db plain)

  -- a plain query that shows its rows changes nothing
  pub shown_unchanged : (rows : List Row) → Shown sql [] old new rows → IsUnchanged old new
  unfolding Shown
  shown_unchanged rows h = (subst (ShowsRows old new sql h.0 _ rows) (subst IsPlain h.1.is plain).0 h.2).3

  unchanged_stays : IsUnchanged old new → TablesStay old new
  unchanged_stays h = record { was_open = λ _. h.0.was_open; same = λ _. (h.0.now_is, h.0.committed_is) }

  rolled_stays : IsCommitted old → HasCleanDisk old → IsRolledBack old new → TablesStay old new
  rolled_stays settled clean h =
      record { was_open = h.was_open; same = λ up. let back = h.undone up in (back.0 ∙ sym (settled clean (h.was_open up)), back.1) }

  -- after a plain query that shows its rows the tables and the last commit are as they were (`TablesStay`)
  pub shown_stays : (rows : List Row) → Shown sql [] old new rows → TablesStay old new
  shown_stays rows h = unchanged_stays (shown_unchanged rows h)

  -- after a plain query that is refused, even if it is rolled back, the tables are as they were, if they were committed
  -- and the disk was clean
  pub refused_stays : IsCommitted old → HasCleanDisk old → (e : Error) → FailsToQuery sql [] old new e
      → TablesStay old new
  unfolding FailsToQuery IsNotRun
  refused_stays settled clean e (inl (inl h)) = unchanged_stays h.1
  refused_stays settled clean e (inl (inr h)) = rolled_stays settled clean h.3
  refused_stays settled clean e (inr h) =
      unchanged_stays (fails_stay sql old new plain h.0 _ e h.0.returning (subst IsPlain h.1.is plain).0 h.2)

-- the SELECT of the books is refused when it is asked a second time
module _ (f : Format) {S : Type 0} (g : Ghosts S) (old during : Held S) (begins : HasTablesOf f old.schema) (e : Error) (failed : FailsToQuery (selection_with_ids books_table 2) [] (state g old) (state g during) e) where
  error_of : (memory : Bool) → is_memory e ≡ memory → FailsToConfirm g old f (cond memory load.Memory load.Store)
  error_of true is = (begins, (during, e, failed, is))
  error_of false is = inr (begins, (during, e, failed, is))

  -- if the books can't be read a second time, confirming fails with the fault of the SELECT's error
  pub unconfirmed : {A : Type 0} (r : Result A LoadFault) → IsErrAnd r (λ says. says ≡ load_fault e)
      → IfErr r (FailsToConfirm g old f)
  unconfirmed (Ok a) says = tt
  unconfirmed (Err fault) says = subst (FailsToConfirm g old f) (sym says) (error_of (is_memory e) refl)
