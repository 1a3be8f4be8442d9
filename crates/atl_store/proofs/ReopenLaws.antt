-- Laws on opening a file again after a crash: the campaign that the file stores is held again.
-- `old` is the connection before the crash, and `new` the one that is opened again; `g` is the kind of store, and
-- `text` the world text. `faults` counts the failures of the disk before the command that failed.
use Rattle.std.proofs.Common.{◌≡◌, ◌⊎◌, ℕ, List, sym, ap, ◌∙◌, subst, inl, inr}
use Rattle.sqlite.specs.Effect.{Database}
use Rattle.sqlite.specs.Held.{Held, state}
use Rattle.sqlite.specs.State.{HasCleanDisk, IsLive, Opens}
use Rattle.sqlite_trees.specs.Tree.{Trees}
use Rattle.sqlite_trees.specs.declared.store.Store.{Ghosts}
use Rattle.atl_campaign.specs.Campaign.{CampaignValue}
use Rattle.atl_keeping.specs.Keeps.{Keeps, LeavesAfterFault, Stores, HoldsCampaign}
use Rattle.atl_store.specs.Reopening.{Reopens}
use Rattle.atl_descriptions.specs.Tables.{HasAll}
use Rattle.atl_store.proofs.SchemaTableLaws.{one_schema}

module _ {S : Type 0} (g : Ghosts S) where
  -- a connection just opened (`Opens`) on a sound database (`IsLive`) that stores a campaign keeps it, if a crash
  -- leaves its last commit
  pub keeps_stored : (new : Held S) → Opens (state g new) → IsLive (state g new)
      → ((db : Trees) → (state g new).may_leave db → db ≡ (state g new).committed.trees)
      → (text : List ℕ) (c : CampaignValue) → Stores (state g new).now.trees text c → Keeps (state g new) text c
  keeps_stored new opens live settled text c stores =
      let listed = (live opens.is_open).0 in
      let schema : (state g new).now.schema ≡ stores.schema = one_schema (state g new).now.trees stores.schema (state g new).now.schema stores.sound.listed listed (ap (λ s. s.views) stores.begins.made_of) in
      record {
        idle = opens.autocommit;
        is_open = opens.is_open;
        settled = sym opens.clean;
        tables = record { begins = subst HasAll (sym schema) stores.begins; sound = record { keyed = stores.sound.keyed; listed = listed } };
        rows = stores.rows;
        crash = λ db may. subst (λ t. Stores t text c) (sym (settled db may ∙ ap (λ (d : Database). d.trees) (sym opens.clean))) stores;
      }

  module _ (old new : Held S) (reopens : Reopens g old new) where
    -- a connection opened again after a crash keeps the campaign that the one before kept, on a clean disk
    pub kept_again : (text : List ℕ) (c : CampaignValue) → HoldsCampaign g old text c → HoldsCampaign g new text c
    kept_again text c holds clean =
        reopens.keeps clean text c ((holds (reopens.clean clean)).crash (state g new).now.trees (reopens.found clean))

    -- after a command that failed, a connection opened again keeps the campaign before or after it, on a clean disk
    pub stopped_again : HasCleanDisk (state g new) → (faults : ℕ) (text : List ℕ) (before after : CampaignValue)
        → LeavesAfterFault faults (state g old) text before after
        → Keeps (state g new) text before ⊎ Keeps (state g new) text after
    stopped_again clean faults text before after stops =
        elim (stops.crash (state g new).now.trees (reopens.found clean)) [
          | inl is ↦ inl (reopens.keeps clean text before is)
          | inr is ↦ inr (reopens.keeps clean text after is)
        ]
