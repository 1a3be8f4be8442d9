-- Laws on `upgrade`: what it returns and leaves after its reads and after its transaction.
-- `c` is the campaign that was loaded. `w` is the world of the new text and `before` that of the campaign; in
-- `loaded_old` it is `w` that is the campaign's. `g` is the kind of store, in memory or in files, and `state g conn`
-- the state of the database under a connection.
use Rattle.std.proofs.Common.{◌≡◌, ◌≤◌, ℕ, Bool, true, false, cond, List, IsTrue, Result, Ok, Err, refl, sym, ap, ◌∙◌, subst, inl, inr, arith}
use Rattle.sqlite_trees.specs.Tree.{Trees}
use Rattle.sqlite_trees.specs.declared.store.Store.{Ghosts}
use Rattle.sqlite.specs.declared.error.Error.{Error}
use Rattle.sqlite.specs.Effect.{Database}
use Rattle.sqlite.specs.Held.{Held, state}
use Rattle.sqlite.specs.State.{State, HasCleanDisk, Survives}
use Rattle.atl_tables.specs.Faults.{Reads}
use Rattle.atl_tables.specs.World.{world_of}
use Rattle.atl_world.specs.Worlds.{WorldValue, without_markets}
use Rattle.atl_tables.specs.declared.fault.WorldFault.{WorldFault}
use Rattle.atl_tables.specs.declared.fault.WorldFault.TheVariants as world
use Rattle.atl_world.specs.declared.format.Format.TheVariants.{First}
use Rattle.atl_tables.proofs.OldWorldLaws.{old_has_no_markets}
use Rattle.atl_campaign.specs.Campaign.{MarkedCampaign}
use Rattle.atl_sql.specs.Causes.{Gives}
use Rattle.atl_sql.specs.Errors.{is_memory}
use Rattle.atl_store.specs.Faults.{first_format_fault, new_world_fault, upgrade_fault}
use Rattle.atl_sql.specs.Inside.{Commits, LeavesOff, MayLeave}
use Rattle.atl_keeping.specs.Keeps.{ChangesNothing, IsLater}
use Rattle.atl_store.specs.Loading.{LeavesAlone, LoadsIn, RefusesToLoadIn}
use Rattle.atl_writing.specs.OwnStatements.{OfUpgrade}
use Rattle.atl_writing.specs.Rows.{Holds, HoldsIn}
use Rattle.atl_descriptions.specs.Tables.{HasTablesOf, IsFirstFormatOnly}
use Rattle.atl_writing.specs.UpgradeSteps.{IsFirstFormat, WritesUpgrade}
use Rattle.atl_store.specs.Upgrading.{BreaksOffUpgrade, FailsCheck, FailsInTransaction, HasMoreTables, HasOld, HasOtherWorld, HoldsOld, IsReadyToUpgrade, MatchesNewText, MayUpgrade, RefusesToUpgrade, Upgrades}
use Rattle.atl_keeping.specs.WorldText.{world_text}
use Rattle.atl_sql.specs.Writes.{Transacts}
use Rattle.atl_store.specs.declared.fault.LoadFault.{LoadFault}
use Rattle.atl_store.specs.declared.fault.LoadFault.TheVariants as load
use Rattle.atl_store.specs.declared.fault.UpgradeFault.{UpgradeFault}
use Rattle.atl_store.specs.declared.fault.UpgradeFault.TheVariants as upgrade
use Rattle.atl_store.proofs.BareWorldLaws.{good_either}
use Rattle.atl_keeping.proofs.StayLaws.{commits_keeps, failed_changes_nothing, may_found}

-- ---- what was loaded is what the tables held

-- The campaign was loaded between `old` and `mid`, which changed nothing (`alone`), and the disk is clean. `text` is
-- the new world text.
module _ {S : Type 0} (g : Ghosts S) (text : List ℕ) (old mid : Held S) (alone : LeavesAlone g old mid) (clean : HasCleanDisk (state g mid)) where
  -- if a campaign is loaded in the first format, the tables held it before, as loading changes nothing
  pub loaded_old : (w : WorldValue) (c : MarkedCampaign) → LoadsIn First g old mid w c
      → HoldsOld (state g old) w c.value
  loaded_old w c loads =
      let keeps = loads.keeps clean in
      let same = (alone.unchanged clean).same keeps.is_open in
      record {
        text = world_text (state g mid);
        world = loads.world clean;
        rows = subst (λ (d : Database). HoldsIn First d.trees (world_text (state g mid)) c.value) same.0 keeps.rows;
        good = loads.good;
      }

  bare_before : (w : WorldValue) (c : MarkedCampaign) → LoadsIn First g old mid w c → without_markets w ≡ w
  bare_before w c loads = old_has_no_markets (world_text (state g mid)) w (loads.world clean)

  -- If all is ready for the upgrade (`IsReadyToUpgrade`), the tables held the campaign in the first format before it
  -- was loaded. The world of the new text differs from the campaign's in markets alone (`MatchesNewText`).
  pub matched : (w : WorldValue) (c : MarkedCampaign) → IsReadyToUpgrade g text old mid w c
      → MatchesNewText (state g old) text w c.value
  matched w c ready = record {
    world = ready.world;
    held = subst (λ v. HoldsOld (state g old) v c.value) (sym (bare_before ready.before c ready.loads) ∙ sym ready.same) (loaded_old ready.before c ready.loads);
  }

  -- if the new text's world differs from that of the loaded campaign in more than markets, `upgrade` may return Differs
  -- (`HasOtherWorld`)
  pub other_world : (before w : WorldValue) (c : MarkedCampaign) → LoadsIn First g old mid before c
      → world_of text ≡ Ok w → ¬ (without_markets w ≡ without_markets before) → HasOtherWorld g text old mid
  other_world before w c loads is differs = record {
    world = w;
    before = before;
    campaign = c.value;
    held = loaded_old before c loads;
    reads_as = is;
    differs = λ same. differs (same ∙ sym (bare_before before c loads));
  }

  -- if the campaign and the new text are ready for the upgrade, but the schema has more tables or indexes than the
  -- first format, `upgrade` may return Store for that cause (`HasMoreTables`)
  pub has_more : (w : WorldValue) (c : MarkedCampaign) → IsReadyToUpgrade g text old mid w c
      → ¬ IsFirstFormatOnly mid.schema → HasMoreTables g text old mid
  has_more w c ready more =
      let keeps = ready.loads.keeps clean in
      let same = (alone.unchanged clean).same keeps.is_open in
      record {
        world = w;
        campaign = c.value;
        matches = matched w c ready;
        begins = subst (λ (d : Database). HasTablesOf First d.schema) same.0 keeps.begins;
        more = λ just. more (ap (λ (d : Database). d.schema) same.0 ∙ just);
      }

-- after two calls in turn, of each of which `Survives` holds, the connection is the same one later (`IsLater`)
pub later_both : (old mid new : State) (FirstMayLeave SecondMayLeave : Trees → Type 0) → Survives old mid FirstMayLeave
    → Survives mid new SecondMayLeave → IsLater old new
later_both old mid new FirstMayLeave SecondMayLeave one two =
    record { clean = λ clean. omega (arith, one.clean, two.clean, clean); counts = omega (arith, one.counts, two.counts); shield = λ shielded. two.shield (one.shield shielded) }

-- ---- before the transaction

-- `old` is the connection before `upgrade`, `new` after a failed check, and `text` the new world text
module _ {S : Type 0} (g : Ghosts S) (text : List ℕ) (old new : Held S) where
  -- a fault of loading in the first format is one of a check of `upgrade`, which names it as `first_format_fault` says
  pub fails_to_load : (fault : LoadFault) → RefusesToLoadIn First g old fault
      → FailsCheck g text old new (first_format_fault fault)
  fails_to_load load.Store refused = inl refused
  fails_to_load (load.Damaged rule) refused = refused
  fails_to_load load.NotACampaign refused = refused
  fails_to_load load.OtherFormat refused = refused
  fails_to_load load.Memory refused = inl refused

  -- if the tables held a good campaign in the first format (`HasOld`), a fault of reading the new text is one that a
  -- check of `upgrade` may return, named as `new_world_fault` says
  pub fails_to_read : (fault : WorldFault) → Reads (λ (w : WorldValue). w) (Err fault) (world_of text)
      → HasOld g text old new → FailsCheck g text old new (new_world_fault fault)
  fails_to_read world.NotToml reads was = (was, reads, λ e. absurd cc)
  fails_to_read (world.Missing path) reads was = (was, reads, λ e. absurd cc)
  fails_to_read (world.WrongType path) reads was = (was, reads, λ e. absurd cc)
  fails_to_read (world.OutOfRange path) reads was = (was, reads, λ e. absurd cc)
  fails_to_read (world.TwoNames path) reads was = (was, reads, λ e. absurd cc)
  fails_to_read (world.UnknownName path) reads was = (was, reads, λ e. absurd cc)
  fails_to_read (world.BadNeighbour path) reads was = (was, reads, λ e. absurd cc)
  fails_to_read world.NoLand reads was = (was, reads, λ e. absurd cc)
  fails_to_read world.Memory reads was = inr was

  -- an upgrade is refused with the fault of a failed check, if the checks changed nothing (`LeavesAlone`)
  pub refused_before : (fault : UpgradeFault) → (HasCleanDisk (state g new) → FailsCheck g text old new fault)
      → LeavesAlone g old new → RefusesToUpgrade g text old new fault
  refused_before fault fails alone = record {
    cause = λ clean. inl (fails clean, alone);
    unchanged = alone.unchanged;
    crash = λ clean db may. elim (alone.survives.crash clean db may) [ inl was ↦ inl was | inr none ↦ absurd none ];
  }

-- ---- the transaction

-- The campaign was loaded between `old` and `mid`, which changed nothing (`alone`). The transaction leads from `mid` to
-- `new`, after its commit or its end by a fault. `text` is the new world text, and `w` its world.
module _ {S : Type 0} (g : Ghosts S) (text : List ℕ) (old mid new : Held S) (w : WorldValue) (c : MarkedCampaign) (alone : LeavesAlone g old mid) (ready : IsReadyToUpgrade g text old mid w c) where
  -- The transaction of the upgrade ended with this result, and left what `Transacts` says of it.
  abbrev Wrote : {A : Type 0} → Result A Error → Type 0
  Wrote r = Transacts g (OfUpgrade text c.value) IsFirstFormat (WritesUpgrade text c.value) r mid new

  is_old : IsFirstFormatOnly mid.schema → HasCleanDisk (state g mid) → IsFirstFormat (state g mid).now
  is_old just clean = let keeps = ready.loads.keeps clean in record { just = just; keyed = keeps.keyed; listed = keeps.listed }

  written_holds : (db : Database) → HasCleanDisk (state g mid) → WritesUpgrade text c.value (state g mid).now db
      → Holds db.trees text c.value
  written_holds db clean wrote = wrote (world_text (state g mid)) (ready.loads.keeps clean).rows ready.loads.fits.stocks

  clean_before : Survives (state g mid) (state g new) (MayLeave IsFirstFormat (WritesUpgrade text c.value) (state g mid))
      → HasCleanDisk (state g new) → HasCleanDisk (state g mid)
  clean_before survives clean = omega (arith, survives.clean, clean)

  -- After the commit the connection keeps the loaded campaign with the new text, good and unmarked (`Upgrades`), if the
  -- schema was that of the first format alone. Premises: a crash leaves the last commit (`settled`), no failure is
  -- forgotten (`Survives`), and no transaction is open.
  pub upgrades : (settled : (db : Trees) → IsTrue (state g new).is_open → (state g new).may_leave db → db ≡ (state g new).committed.trees)
      → IsFirstFormatOnly mid.schema
      → (HasCleanDisk (state g new) → Commits IsFirstFormat (WritesUpgrade text c.value) (state g mid) (state g new))
      → Survives (state g mid) (state g new) (MayLeave IsFirstFormat (WritesUpgrade text c.value) (state g mid))
      → new.in_transaction ≡ false
      → Upgrades g text old new w c
  upgrades settled just done survives over = record {
    world = ready.world;
    held_before = λ clean. (matched g text old mid alone (clean_before survives clean) w c ready).held;
    bare = ready.loads.fits.stocks;
    tables = λ clean.
        let clean_mid = clean_before survives clean in
        commits_keeps (state g mid) (state g new) text settled IsFirstFormat (WritesUpgrade text c.value) c.value (done clean) (is_old just clean_mid) (written_holds new_now clean_mid);
    good = good_either ready.before w c.value ready.same ready.loads.fits.stocks ready.loads.good;
    unmarked = ready.loads.unmarked;
    idle = over;
  }
    where
      new_now : Database
      new_now = (state g new).now

  both_change_nothing : (was_open : IsTrue (state g new).is_open → IsTrue (state g mid).is_open)
      → (state g old).faults ≤ (state g mid).faults → (state g mid).faults ≤ (state g new).faults
      → ChangesNothing (state g old) (state g mid) → ChangesNothing (state g mid) (state g new)
      → ChangesNothing (state g old) (state g new)
  both_change_nothing was_open early late first second = record {
    same = λ up.
        let one = first.same (was_open up) in
        let two = second.same up in
        (two.0 ∙ one.0, two.1 ∙ one.1, two.2 ∙ one.2);
    shuts = λ was. elim (first.shuts was) [
      | inl still ↦ elim (second.shuts still) [ inl up ↦ inl up | inr more ↦ inr (omega (arith, early, more)) ]
      | inr more ↦ inr (omega (arith, late, more))
    ];
  }

  -- The transaction failed (`off`). Before it the connection was in no transaction (`idle`), and the schema was that of
  -- the first format alone (`just`).
  module _ (just : IsFirstFormatOnly mid.schema) (idle : mid.in_transaction ≡ false) (off : HasCleanDisk (state g new) → LeavesOff (state g mid) (state g new)) (survives : Survives (state g mid) (state g new) (MayLeave IsFirstFormat (WritesUpgrade text c.value) (state g mid))) where
    upgrade_changed_nothing : HasCleanDisk (state g new) → ChangesNothing (state g old) (state g new)
    upgrade_changed_nothing clean =
        let clean_mid = clean_before survives clean in
        let keeps = ready.loads.keeps clean_mid in
        both_change_nothing (off clean).was_open alone.survives.counts survives.counts (alone.unchanged clean_mid) (failed_changes_nothing (state g mid) (state g new) _ clean (off clean) survives idle (λ up. sym keeps.settled))

    may_upgrade : HasCleanDisk (state g new) → MayUpgrade (state g old) text (state g new)
    may_upgrade clean db may =
        let clean_mid = clean_before survives clean in
        elim (may_found (state g mid) (state g new) text c.value IsFirstFormat (WritesUpgrade text c.value) (is_old just clean_mid) (λ other. written_holds other clean_mid) clean survives db may) [
          | inl was ↦ elim (alone.survives.crash clean_mid db was) [ inl early ↦ inl early | inr none ↦ absurd none ]
          | inr stored ↦ inr (w, c.value, matched g text old mid alone clean_mid w c ready, stored)
        ]

    broken_off : (e : Error) (memory : Bool) → is_memory e ≡ memory → Gives g (OfUpgrade text c.value) e mid new
        → HasCleanDisk (state g mid) → BreaksOffUpgrade g text old new memory
    broken_off e memory is gave clean_mid =
        record { world = w; campaign = c.value; matches = matched g text old mid alone clean_mid w c ready; before = mid; alone = alone; error = e; memory_is = is; given = gave }

    fails_to_write : (e : Error) (memory : Bool) → is_memory e ≡ memory → Gives g (OfUpgrade text c.value) e mid new
        → HasCleanDisk (state g mid) → FailsInTransaction g text old new (cond memory upgrade.Memory upgrade.Store)
    fails_to_write e true is gave clean_mid = broken_off e true is gave clean_mid
    fails_to_write e false is gave clean_mid = broken_off e false is gave clean_mid

    -- An upgrade is refused with the fault of its transaction's error. On a clean disk the tables are as they were
    -- while the connection is open, and a crash leaves what it could have left before, or the upgraded campaign.
    pub refused_after : (e : Error) → (HasCleanDisk (state g new) → Gives g (OfUpgrade text c.value) e mid new)
        → RefusesToUpgrade g text old new (upgrade_fault e)
    refused_after e gave = record {
      cause = λ clean. inr (fails_to_write e (is_memory e) refl (gave clean) (clean_before survives clean));
      unchanged = upgrade_changed_nothing;
      crash = may_upgrade;
    }
