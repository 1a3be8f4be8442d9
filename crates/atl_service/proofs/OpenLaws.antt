-- Laws on `open`: on a clean disk it returns what was stored, or refuses and leaves the tables unchanged; the opened
-- service is consistent. A disk is clean if each read has returned what was written (docs/PROVED.md, "Premises").
-- `g` is the kind of store, in memory or in files. `old` and `new` are the connection before and after loading, which
-- leaves it alone (`alone`), and `conn` is one that isn't touched. `w` and `c` are the world and the campaign that were
-- loaded.
use Rattle.std.proofs.Common.{◌≡◌, false, true, Some, refl, ap, ◌∙◌, subst, inl, arith}
use Rattle.sqlite_trees.specs.declared.store.Store.{Ghosts}
use Rattle.sqlite.specs.Effect.{Database}
use Rattle.sqlite.specs.Held.{Held, state}
use Rattle.atl_world.specs.Worlds.{WorldValue}
use Rattle.atl_campaign.specs.Good.{IsGood}
use Rattle.atl_campaign.specs.Campaign.{MarkedCampaign}
use Rattle.atl_store.specs.Loading.{Loads, RefusesToLoad, LeavesAlone}
use Rattle.atl_store.specs.declared.fault.StoreFault.{StoreFault}
use Rattle.atl_store.specs.declared.fault.StoreFault.TheVariants.{Store}
use Rattle.atl_writing.specs.Rows.{Holds}
use Rattle.atl_keeping.specs.WorldText.{world_text}
use Rattle.atl_store.proofs.AlikeLaws.{holds_one, one_text}
use Rattle.atl_store.proofs.OneWorldLaws.{holds_one_world}
use Rattle.atl_keeping.proofs.StayLaws.{survives_is_later, unchanged_itself}
use Rattle.atl_commands.specs.Service.{IsService}
use Rattle.atl_service.specs.Opened.{ComesBack, Opens, RefusesOpening, cause_of_loading_fault}
use Rattle.sqlite.specs.State.{HasCleanDisk}

module _ {S : Type 0} (g : Ghosts S) where
  -- a connection that isn't touched is left alone (`LeavesAlone`): its tables and what a crash may leave stay as they
  -- were
  pub alone_itself : (conn : Held S) → LeavesAlone g conn conn
  alone_itself conn = record {
    unchanged = λ clean. unchanged_itself (state g conn);
    survives = record { clean = omega arith; shield = λ s. s; counts = omega arith; limit = refl; closes = λ clean up. inl up; crash = λ clean db may. inl may };
    mode = refl;
  }

  -- on a connection in a transaction, refusing to open with Store and leaving it untouched is right (`RefusesOpening`)
  pub refused_in_transaction : (conn : Held S) → conn.in_transaction ≡ true
      → RefusesOpening g conn (cause_of_loading_fault Store) conn
  refused_in_transaction conn busy =
      record { fault = Store; why_is = refl; cause = λ clean. inl busy; alone = alone_itself conn; later = survives_is_later _ _ _ (alone_itself conn).survives }

  module _ (old new : Held S) (alone : LeavesAlone g old new) where
    -- if, on a clean disk, loading may fail with a fault, refusing to open with the cause of the same name is right
    -- (`RefusesOpening`)
    pub refused_by_load : (fault : StoreFault) → (HasCleanDisk (state g new) → RefusesToLoad g old fault)
        → RefusesOpening g old (cause_of_loading_fault fault) new
    refused_by_load fault cause =
        record { fault = fault; why_is = refl; cause = cause; alone = alone; later = survives_is_later _ _ _ alone.survives }

    module _ (w : WorldValue) (c : MarkedCampaign) (loads : Loads g old new w c) where
      -- The service with the loaded world and campaign (`Loads`) is open with this campaign, which is good. On a clean
      -- disk the tables hold it and a text of the world, and nothing is changed (`Opens`).
      pub opens : Opens g old (record { conn = new; world = w; campaign = Some c.value })
      opens =
          record { campaign = c; is_open = refl; loads = loads; alone = alone; later = survives_is_later _ _ _ alone.survives }

      -- if the tables held a good campaign and a text of its world, the service of a loaded campaign has this text,
      -- world and campaign, on a clean disk (`ComesBack`)
      pub comes_back : ComesBack g old (record { conn = new; world = w; campaign = Some c.value })
      comes_back clean text v d reads good held =
          let kept = loads.tables clean in
          let were = held ((survives_is_later _ _ _ alone.survives).clean clean) in
          let db = (state g old).now.trees in
          let there = world_text (state g new) in
          let rows = subst (λ (s : Database). Holds s.trees there c.value) ((alone.unchanged clean).same kept.is_open).0 kept.rows in
          let texts : there ≡ text = one_text db there text c.value d rows were.rows in
          let worlds : w ≡ v = holds_one_world w v db there text c.value d (loads.world clean) reads rows were.rows in
          (texts, worlds, ap Some (holds_one v db there text c.value d (subst (λ p. IsGood p c.value) worlds loads.good) good rows were.rows).1)

      -- if the connection was in no transaction, the service of a loaded campaign is consistent, and nothing of the
      -- campaign is marked (`IsService`)
      pub opened_consistent : old.in_transaction ≡ false → IsService g new w c true
      opened_consistent idle = record {
        consistent = record { idle = alone.mode ∙ idle; good = λ up. loads.good; tables = λ up. loads.tables; text = λ up. loads.world };
        unmarked = λ up. loads.unmarked;
      }
