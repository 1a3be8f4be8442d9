-- Laws on reading the rows of a query one by one as they come (`stream`). Such a read promises (`Streams`): Ok has all
-- rows, each read by the forms, or None; Err has the fault of the refusal; nothing is committed.
-- `old` is the connection before the query, `mid` once it has given the rows `given`, and `now` or `new` after a later
-- step. `r` is the result of the read. `forms` are the forms of the columns, and `shown` gives the row that a value is
-- read of. `g` is the kind of store. A plain query (`IsPlain`) has no RETURNING and doesn't read the time.
use Rattle.std.proofs.Common.{◌≡◌, ℕ, false, List, [], ◌∷◌, ◌++◌, map, length, Option, Some, None, Result, Ok, Err, IsErrAnd, refl, sym, ap, ◌∙◌, subst, inl, inr, arith}
use Rattle.std.specs.declared.vec.Vec.{Vec}
use Rattle.sqlite_schema.specs.declared.command.Returning.{Returning}
use Rattle.sqlite_trees.specs.declared.store.Store.{Ghosts}
use Rattle.sqlite.specs.declared.error.Error.{Error}
use Rattle.sqlite.specs.Effect.{Database}
use Rattle.sqlite.specs.Given.{HasGiven, Advances, FailsToAdvance, IsPlain}
use Rattle.sqlite.specs.Held.{Held, state}
use Rattle.sqlite.specs.Listing.{understood}
use Rattle.sqlite.specs.Order.{Row}
use Rattle.sqlite_rules.proofs.ListLemmas.{has_either}
use Rattle.sqlite.specs.State.{State, HasCleanDisk, IsUnchanged, Survives, CommitsShowing, FailsToQuery, FailsToShow, IsNotRun}
use Rattle.sqlite.proofs.Callers.{never_commits}
use Rattle.sqlite.proofs.StateLemmas.{survives_weaker}
use Rattle.atl_sql.specs.Errors.{read_fault}
use Rattle.atl_sql.specs.Reading.{AddsRow, IsAsked, ReadsRows, RefusesToSelect, Rests, Selects, Streams}
use Rattle.atl_columns.specs.Forms.{Form, IsTyped}
use Rattle.atl_sql.specs.Stored.{first_columns, AreTyped}
use Rattle.atl_sql.specs.declared.fault.ReadFault.{ReadFault}
use Rattle.atl_sql.specs.declared.fault.ReadFault.TheVariants.{Memory}
use Rattle.atl_sql.proofs.KeepLaws.{survives_more, if_ok, if_err}
use Rattle.atl_sql.proofs.SelectingLaws.{never_other, no_fewer}

-- a call that changed nothing committed nothing, and left the tables as they were (`Rests`)
pub rests_unchanged : (old new : State) → IsUnchanged old new → Rests old new
rests_unchanged old new h = record { was_open = λ _. h.0.was_open; same = λ _. (inr h.0.now_is, h.0.committed_is) }

-- a query `sql` without RETURNING that doesn't read the time leads from `old` to `new`
module _ (sql : List ℕ) (old new : State) (plain : IsPlain (understood old.now.schema sql)) where
  -- a query without RETURNING (`what` is None) that fails as it runs changes nothing; `c` is its command, `row` has its
  -- parameters
  pub fails_stay : (c : _) (row : Row) (e : Error) (what : Option Returning) → what ≡ None
      → FailsToShow old new sql c row e what → IsUnchanged old new
  fails_stay c row e None is h = h.3
  fails_stay c row e (Some what) is h = absurd (let k = is in cc)

  -- a query that is refused leaves the connection at rest (`Rests`): unchanged, or with its transaction rolled back
  pub refused_rests : (e : Error) → FailsToQuery sql [] old new e → Rests old new
  unfolding FailsToQuery IsNotRun
  refused_rests e (inl (inl h)) = rests_unchanged old new h.1
  refused_rests e (inl (inr h)) = record { was_open = h.3.was_open; same = λ up. let back = h.3.undone up in (inl back.0, back.1) }
  refused_rests e (inr h) = rests_unchanged old new (fails_stay h.0 _ e h.0.returning (subst IsPlain h.1.is plain).0 h.2)

asked_unchanged : (old now : State) → IsUnchanged old now → Survives old now (λ _. ⊥) → IsAsked old now
asked_unchanged old now h survives = record { was_open = λ _. h.0.was_open; is_open = λ _. h.0.is_open; same = h.0.now_is; limit = survives.limit; faults = survives.counts }

-- a step that changed nothing, and then one that committed nothing (`Rests`), together committed nothing
pub rests_then : (old mid new : State) → IsUnchanged old mid → Rests mid new → Rests old new
rests_then old mid new first rests = record {
  was_open = λ up. first.0.was_open;
  same = λ up. let same = rests.same up in (elim same.0 [ inl last ↦ inl (last ∙ first.0.committed_is) | inr as_it_was ↦ inr (as_it_was ∙ first.0.now_is) ], same.1 ∙ first.0.committed_is);
}

rests_both : (old mid new : State) → Rests old mid → Rests mid new → Rests old new
rests_both old mid new one two = record {
  was_open = λ up. one.was_open (two.was_open up);
  same = λ up.
      let first = one.same (two.was_open up) in
      let second = two.same up in (
        elim second.0 [
          | inl last ↦ inl (last ∙ first.1)
          | inr as_before ↦ elim first.0 [ inl last ↦ inl (as_before ∙ last) | inr same ↦ inr (as_before ∙ same) ]
        ],
        second.1 ∙ first.1,
      );
}

asked_then : (old mid new : State) → IsAsked old mid → IsAsked mid new → IsAsked old new
asked_then old mid new one two = record {
  was_open = λ up. one.was_open (two.was_open up);
  is_open = λ up. two.is_open (one.is_open up);
  same = two.same ∙ one.same;
  limit = two.limit ∙ one.limit;
  faults = omega (arith, one.faults, two.faults);
}

-- a query without RETURNING that doesn't read the time adds nothing to what a crash may leave (`Survives`)
pub commits_nothing : (sql : List ℕ) (old new : State) → IsPlain (understood old.now.schema sql)
    → Survives old new (CommitsShowing sql [] old) → Survives old new (λ _. ⊥)
commits_nothing sql old new plain = survives_weaker old new _ _ (λ _ db. never_commits sql [] old db plain)

unchanged_then : (old mid new : State) → IsUnchanged old mid → IsUnchanged mid new → IsUnchanged old new
unchanged_then old mid new a b = (
  record { was_open = a.0.was_open; is_open = b.0.is_open; now_is = b.0.now_is ∙ a.0.now_is; committed_is = b.0.committed_is ∙ a.0.committed_is; mode = b.0.mode ∙ a.0.mode },
  record { changes = b.1.changes ∙ a.1.changes; last_rowid = b.1.last_rowid ∙ a.1.last_rowid },
  b.2 ∙ a.2,
)

map_at_end : {A B : Type 0} (f : A → B) (xs : List A) (x : A) → map f (xs ++ x ∷ []) ≡ map f xs ++ f x ∷ []
map_at_end f [] x = refl
map_at_end f (y ∷ xs) x = ap (λ ys. f y ∷ ys) (map_at_end f xs x)

-- Outside a transaction a query is running; if the disk is clean, it has given the rows `given`, and changed nothing.
-- A crash leaves nothing new, and no failure is forgotten (`Survives`).
pub record IsGiving {S : Type 0} (g : Ghosts S) (sql : List ℕ) (old : Held S) (given : List Row) (now : Held S) : Type 0 where
  pub idle : now.in_transaction ≡ false
  pub survives : Survives (state g old) (state g now) (λ _. ⊥)
  pub given_so : HasCleanDisk (state g now) → HasGiven g sql [] now given × IsUnchanged (state g old) (state g now)

-- the query `sql` is asked on the connection `old`
module _ {S : Type 0} (g : Ghosts S) (sql : List ℕ) (old : Held S) where
  module _ {A : Type 0} (forms : List Form) (shown : A → Row) where
    -- if the query, which is plain, is refused at the start with `e`, outside a transaction, `r` is the fault of `e`,
    -- and no failure is forgotten (`Survives`), the read is as promised (`Streams`)
    pub not_begun : {Z : Type 0} (now : Held S) (e : Error) (r : Result (Option (Vec A Z)) ReadFault)
        → IsPlain (understood old.schema sql) → IsErrAnd r (λ fault. fault ≡ read_fault e)
        → (HasCleanDisk (state g now) → FailsToQuery sql [] (state g old) (state g now) e)
        → now.in_transaction ≡ false → Survives (state g old) (state g now) (CommitsShowing sql [] (state g old)) → Streams g sql old forms shown r now
    not_begun now e (Ok read) plain says err idle survives = absurd says
    not_begun now e (Err fault) plain says err idle survives = record {
      rows = λ _. tt;
      refused = λ clean. (old, now, e, record { was_open = λ up. up; is_open = λ up. up; same = refl; limit = refl; faults = no_fewer (state g old).faults }, err clean, says);
      same = λ _. tt;
      rests = λ clean. refused_rests sql (state g old) (state g now) plain e (err clean);
      survives = commits_nothing sql (state g old) (state g now) plain survives;
      idle = idle;
    }

    -- a read may stop with None after any rows (`Streams`)
    pub given_up : {Z : Type 0} (given : List Row) (now : Held S) → IsGiving g sql old given now → Streams g sql old {Z = Z} forms shown (Ok None) now
    given_up given now giving = record {
      rows = λ _. tt;
      refused = λ _. tt;
      same = λ clean. asked_unchanged (state g old) (state g now) (giving.given_so clean).1 giving.survives;
      rests = λ clean. rests_unchanged (state g old) (state g now) (giving.given_so clean).1;
      survives = giving.survives;
      idle = giving.idle;
    }

  -- The query has given the rows `given` at `mid`, and one more step leads to `now`. The step begins no transaction, a
  -- crash after it leaves nothing new, and no failure is forgotten (`Survives`).
  module _ (given : List Row) (mid now : Held S) (giving : IsGiving g sql old given mid) (survives : Survives (state g mid) (state g now) (λ _. ⊥)) (idle : mid.in_transaction ≡ false → now.in_transaction ≡ false) where
    clean_before : HasCleanDisk (state g now) → HasCleanDisk (state g mid)
    clean_before clean = omega (arith, survives.clean, clean)

    survived : Survives (state g old) (state g now) (λ _. ⊥)
    survived = survives_more (state g old) (state g mid) (state g now) giving.survives survives

    same_before : HasCleanDisk (state g now) → IsUnchanged (state g old) (state g mid)
    same_before clean = (giving.given_so (clean_before clean)).1

    module _ {A : Type 0} (forms : List Form) (shown : A → Row) where
      -- if the next row of a plain query is refused with `e`, and `r` is the fault of `e`, the read is as promised
      pub not_advanced : {Z : Type 0} (e : Error) (r : Result (Option (Vec A Z)) ReadFault)
          → IsPlain (understood old.schema sql) → IsErrAnd r (λ fault. fault ≡ read_fault e)
          → (HasCleanDisk (state g now) → FailsToAdvance g mid now e) → Streams g sql old forms shown r now
      not_advanced e (Ok read) plain says err = absurd says
      not_advanced e (Err fault) plain says err = record {
        rows = λ _. tt;
        refused = λ clean. (mid, now, e, asked_unchanged (state g old) (state g mid) (same_before clean) giving.survives, err clean sql [] given (giving.given_so (clean_before clean)).0, says);
        same = λ _. tt;
        rests = λ clean.
            let same = same_before clean in
            let still = subst (λ (d : Database). IsPlain (understood d.schema sql)) (sym same.0.now_is) plain in
            rests_then (state g old) (state g mid) (state g now) same (refused_rests sql (state g mid) (state g now) still e (err clean sql [] given (giving.given_so (clean_before clean)).0));
        survives = survived;
        idle = idle giving.idle;
      }

      -- if there is no next row, nothing changed, and `all` was read of the rows given, which are in the forms of their
      -- columns, the read is as promised (`Streams`)
      pub ended : {Z : Type 0} (all : Vec A Z) → map shown all.items ≡ map (first_columns (length forms)) given
          → AreTyped forms given → (HasCleanDisk (state g now) → Advances g mid now None)
          → (HasCleanDisk (state g now) → IsUnchanged (state g mid) (state g now))
          → Streams g sql old forms shown (Ok (Some all)) now
      ended all read typed done same = record {
        rows = λ clean. (given, (mid, now, asked_unchanged (state g old) (state g mid) (same_before clean) giving.survives, done clean sql [] given (giving.given_so (clean_before clean)).0), read, typed);
        refused = λ _. tt;
        same = λ clean. asked_unchanged (state g old) (state g now) (unchanged_then (state g old) (state g mid) (state g now) (same_before clean) (same clean)) survived;
        rests = λ clean. rests_unchanged (state g old) (state g now) (unchanged_then (state g old) (state g mid) (state g now) (same_before clean) (same clean));
        survives = survived;
        idle = idle giving.idle;
      }

      -- if the old items were read of the rows given so far, the new items were read of these and the next row
      pub read_more : (old_items new_items : List A) (row : Row)
          → map shown old_items ≡ map (first_columns (length forms)) given → AddsRow forms shown old_items row new_items
          → map shown new_items ≡ map (first_columns (length forms)) (given ++ row ∷ [])
      read_more old_items new_items row read adds =
          ap (map shown) adds.1 ∙ map_at_end shown old_items adds.0 ∙ ap (λ rs. rs ++ shown adds.0 ∷ []) read ∙ ap (λ r. map (first_columns (length forms)) given ++ r ∷ []) adds.2 ∙ sym (map_at_end (first_columns (length forms)) given row)

      -- if the rows given so far are in the forms of their columns, and the next row was read, all of them are
      pub typed_more : (old_items new_items : List A) (row : Row) → AreTyped forms given
          → AddsRow forms shown old_items row new_items → AreTyped forms (given ++ row ∷ [])
      typed_more old_items new_items row typed adds one there = elim (has_either given (row ∷ []) one there) [
        | inl before ↦ typed one before
        | inr (inl here) ↦ subst (IsTyped forms) (sym here) adds.3
        | inr (inr none) ↦ absurd none
      ]

    -- if the query gave one more row, and changed nothing, it is still running, and has given this row too (`IsGiving`)
    pub giving_more : (row : Row) → (HasCleanDisk (state g now) → Advances g mid now (Some row))
        → (HasCleanDisk (state g now) → IsUnchanged (state g mid) (state g now))
        → IsGiving g sql old (given ++ row ∷ []) now
    giving_more row more same = record {
      idle = idle giving.idle;
      survives = survived;
      given_so = λ clean. (more clean sql [] given (giving.given_so (clean_before clean)).0, unchanged_then (state g old) (state g mid) (state g now) (same_before clean) (same clean));
    }

-- ---- what was streamed, as rows that are read

-- the query `sql` is asked on the connection `old`
module _ {S A Z : Type 0} (g : Ghosts S) (sql : List ℕ) (old : Held S) (forms : List Form) (shown : A → Row) where
  -- rows that were all read one by one are read as promised (`ReadsRows`)
  pub streamed : (all : Vec A Z) (new : Held S) → Streams g sql old {Z = Z} forms shown (Ok (Some all)) new → ReadsRows g sql old {Z = Z} forms shown (Ok all) new
  streamed all new streams = record {
    rows = streams.rows;
    other = λ _. tt;
    refused = λ _. tt;
    memory = λ _. tt;
    rests = streams.rests;
    survives = streams.survives;
    idle = streams.idle;
  }

  -- a fault of reading them one by one, which `r` hands on, is one of reading all rows (`ReadsRows`)
  pub unstreamed : (fault : ReadFault) (r : Result (Vec A Z) ReadFault) (new : Held S) → Streams g sql old {Z = Z} forms shown (Err fault) new → IsErrAnd r (λ says. says ≡ fault) → ReadsRows g sql old forms shown r new
  unstreamed fault (Ok all) new streams is = absurd is
  unstreamed fault (Err says) new streams is = record {
    rows = λ _. tt;
    other = λ clean same. absurd (never_other g sql old says (subst (RefusesToSelect g sql old) (sym is) (streams.refused clean)) same);
    refused = λ clean _ _. subst (RefusesToSelect g sql old) (sym is) (streams.refused clean);
    memory = λ clean same. inl (subst (RefusesToSelect g sql old) (sym is ∙ same) (streams.refused clean));
    rests = streams.rests;
    survives = streams.survives;
    idle = streams.idle;
  }

  -- after reading the rows one by one gave None, a second read gives what a read at the start would (`ReadsRows`)
  pub read_again : (mid new : Held S) (r : Result (Vec A Z) ReadFault) → Streams g sql old {Z = Z} forms shown (Ok None) mid → ReadsRows g sql mid forms shown r new → ReadsRows g sql old forms shown r new
  read_again mid new r streams reads = record {
    rows = λ clean. if_ok r (λ all says. (says.0, selects clean says.0 says.1, says.2, says.3)) (reads.rows clean);
    other = λ clean. if_err r (λ fault says is. let other = says is in (other.0, selects clean other.0 other.1, other.2)) (reads.other clean);
    refused = λ clean. if_err r (λ fault says a b. refuses clean fault (says a b)) (reads.refused clean);
    memory = λ clean. if_err r (λ fault says is. elim (says is) [ inl refused ↦ inl (refuses clean Memory refused) | inr shown ↦ inr (shown.0, selects clean shown.0 shown.1) ]) (reads.memory clean);
    rests = λ clean. rests_both (state g old) (state g mid) (state g new) (streams.rests (before clean)) (reads.rests clean);
    survives = survives_more (state g old) (state g mid) (state g new) streams.survives reads.survives;
    idle = reads.idle;
  }
    where
      before : HasCleanDisk (state g new) → HasCleanDisk (state g mid)
      before clean = omega (arith, reads.survives.clean, clean)

      selects : HasCleanDisk (state g new) → (rows : List Row) → Selects g sql mid rows → Selects g sql old rows
      selects clean rows says = (says.0, says.1, asked_then (state g old) (state g mid) (state g says.0) (streams.same (before clean)) says.2, says.3)

      refuses : HasCleanDisk (state g new) → (fault : ReadFault) → RefusesToSelect g sql mid fault
          → RefusesToSelect g sql old fault
      refuses clean fault says = (says.0, says.1, says.2, asked_then (state g old) (state g mid) (state g says.0) (streams.same (before clean)) says.3, says.4, says.5)
