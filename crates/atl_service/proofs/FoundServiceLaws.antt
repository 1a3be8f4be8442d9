-- Laws on `found`: it founds (`Founds`) or refuses (`RefusesFounding`) as promised; the new service is consistent. A
-- disk is clean if each read has returned what was written (docs/PROVED.md, "Premises").
-- `g` is the kind of store, in memory or in files. `old` and `new` are the connection before and after `found`; `conn`
-- is that of the new service, or one that stays as it is. `text` and `pass` are the world text and the pass text, `w`
-- is the world, and `c` the campaign founded in it. `is_there` says whether there is a table `campaign`.
use Rattle.std.proofs.Common.{◌≡◌, ◌⊎◌, Bool, true, false, List, ℕ, Result, Ok, Some, refl, sym, ap, ◌∙◌, subst, inl, inr, arith}
use Rattle.std.proofs.lemmas.Bool.{false≢true}
use Rattle.sqlite_trees.specs.declared.store.Store.{Ghosts}
use Rattle.sqlite.specs.Held.{Held, state}
use Rattle.atl_tables.specs.World.{world_of}
use Rattle.atl_tables.specs.declared.fault.WorldFault.{WorldFault}
use Rattle.atl_world.specs.Worlds.{WorldValue}
use Rattle.atl_campaign.specs.Campaign.{CampaignValue}
use Rattle.atl_campaign.specs.Founding.{founded_of}
use Rattle.atl_campaign.specs.Good.{IsGood}
use Rattle.atl_sql.specs.Making.{has_campaign}
use Rattle.atl_keeping.specs.Keeps.{Keeps, IsLater, IsReadyToCreate, MayLeaveCampaign, Creates, BreaksOffCreation, FailsToCreate, RefusesToCreate, HoldsCampaign}
use Rattle.atl_keeping.proofs.StayLaws.{unchanged_itself}
use Rattle.atl_keeping.specs.declared.fault.CreateFault.{CreateFault}
use Rattle.atl_keeping.specs.declared.fault.CreateFault.TheVariants.{NotEmpty, Store, Memory}
use Rattle.atl_keeping.proofs.WorldTextLaws.{world_text_is}
use Rattle.atl_sql.specs.Causes.{IsFaultOfError}
use Rattle.atl_keeping.specs.Faults.{create_fault}
use Rattle.atl_writing.specs.OwnStatements.{OfFounding}
use Rattle.atl_sql.proofs.CauseLaws.{gives_among}
use Rattle.atl_commands.specs.Causes.{OfFoundingBy}
use Rattle.atl_commands.specs.Service.{IsConsistent}
use Rattle.atl_service.specs.declared.cause.Cause.{Cause}
use Rattle.atl_service.specs.declared.cause.Cause.TheVariants.{World as BadWorld, BadPassText}
use Rattle.atl_service.specs.declared.cause.Cause.TheVariants as none
use Rattle.atl_service.specs.Found.{Founds, FailsToFound, LeavesByCause, RefusesFounding, MayBeCause, Prepares, RefusesToWrite, cause_of_creation_fault}
use Rattle.atl_commands.proofs.CauseLaws.{creation_failed, creation_lacked}

module _ {S : Type 0} (g : Ghosts S) where
  later_itself : (conn : Held S) → IsLater (state g conn) (state g conn)
  later_itself conn = record { clean = λ clean. clean; counts = omega arith; shield = λ k. k }

  nothing_done : (conn : Held S) (text pass : List ℕ) → FailsToFound g conn text pass conn
  nothing_done conn text pass =
      record { tables = λ clean. unchanged_itself (state g conn); unfounded = λ bad. refl; crash = λ clean w is db may. inl may }

  -- founding may refuse with a cause that doesn't depend on the tables (the world text, the pass text, Memory), and
  -- leave the connection unchanged (`RefusesFounding`)
  pub refuses_unchanged : (conn : Held S) (text pass : List ℕ) (why : Cause)
      → ((is_there : Bool) → MayBeCause text pass is_there why) → RefusesFounding g conn text pass why conn
  refuses_unchanged conn text pass why cause =
      record { cause = cause (has_campaign conn.schema); leaves = leaves why cause; later = later_itself conn }
    where
      leaves : (why : Cause) → ((is_there : Bool) → MayBeCause text pass is_there why)
          → LeavesByCause g conn text pass conn why
      leaves (BadWorld fault) is = refl
      leaves BadPassText is = refl
      leaves none.NotEmpty is = refl
      leaves none.NotACampaign is = is true
      leaves none.OldFormat is = is true
      leaves none.NotOld is = is true
      leaves (none.Damaged rule) is = is true
      leaves none.Differs is = is true
      leaves none.Store is = absurd (false≢true (sym (is true).2))
      leaves none.Memory is = (nothing_done conn text pass, inl refl)

  -- an open service is consistent if its connection is in no transaction, its campaign is good, `text` is of its world,
  -- and on a clean disk the tables hold both
  pub founded_consistent : (conn : Held S) (w : WorldValue) (c : CampaignValue) (text : List ℕ)
      → conn.in_transaction ≡ false → IsGood w c → world_of text ≡ Ok w → HoldsCampaign g conn text c
      → IsConsistent g conn w c true
  founded_consistent conn w c text idle good is holds = record {
    idle = idle;
    good = λ up. good;
    tables = λ up clean. let kept = holds clean in subst (λ t. Keeps (state g conn) t c) (sym (world_text_is (state g conn) text c kept)) kept;
    text = λ up clean. ap world_of (world_text_is (state g conn) text c (holds clean)) ∙ is;
  }

  -- If the founded campaign was prepared (`Prepares`), its tables were created (`Creates`), and `conn` is later than
  -- `old` (`IsLater`), the service of `conn`, `w` and `c` is founded (`Founds`). There was no table `campaign`, and on
  -- a clean disk the tables hold the text and the campaign.
  pub founds_on : (old conn : Held S) (w : WorldValue) (c : CampaignValue) (text pass : List ℕ) → Prepares text pass w c
      → Creates g text c old conn → IsLater (state g old) (state g conn)
      → Founds g old text pass (record { conn = conn; world = w; campaign = Some c })
  founds_on old conn w c text pass made creates later = record {
    fresh = creates.fresh;
    world = made.world;
    pass_is_good = made.pass_is_good;
    campaign = ap Some made.campaign;
    tables = λ clean. subst (Keeps (state g conn) text) made.campaign (creates.tables clean);
    text_is = λ clean. world_text_is (state g conn) text c (creates.tables clean);
    later = later;
  }

  -- ---- a founding that was prepared (`made`), but whose tables could not be created; `new` is later than `old`
  module _ (old new : Held S) (w : WorldValue) (c : CampaignValue) (text pass : List ℕ) (made : Prepares text pass w c) (later : IsLater (state g old) (state g new)) where
    -- If the tables could not be created, founding leaves what a failed one may leave (`FailsToFound`). On a clean disk
    -- the tables are as before while the connection is open, and a crash leaves what it could have left before, or the
    -- founded campaign.
    failed_creation_fails_founding : FailsToCreate g text c old new → FailsToFound g old text pass new
    failed_creation_fails_founding fails = record {
      tables = fails.tables;
      unfounded = λ bad. elim bad [ inl no_world ↦ absurd (no_world (w, made.world)) | inr no_pass ↦ absurd (false≢true (sym no_pass ∙ made.pass_is_good)) ];
      crash = λ clean v v_is. let same : w ≡ v = ok_same w v (sym made.world ∙ v_is) in subst (λ (d : CampaignValue). MayLeaveCampaign (state g old) text d (state g new)) (made.campaign ∙ ap (λ u. founded_of u pass) same) (fails.crash clean);
    }
      where
        ok_same : (a b : WorldValue) → ◌≡◌ {A = Result WorldValue WorldFault} (Ok a) (Ok b) → a ≡ b
        ok_same a b e = cc

    -- if a fault reports an error of the statements that create the tables of campaign `c` (`OfFounding`), it reports
    -- one of those that found by the world text and the pass text (`OfFoundingBy`)
    error_of_founding : (fault : CreateFault) → IsFaultOfError g (OfFounding text c) create_fault old new fault
        → IsFaultOfError g (OfFoundingBy text pass) create_fault old new fault
    error_of_founding fault says = (
      says.0,
      says.1,
      gives_among g (OfFounding text c) (OfFoundingBy text pass) (λ sql params own. (w, made.world, subst (λ (d : CampaignValue). OfFounding text d sql params) made.campaign own)) says.0 old new says.2,
    )

    -- if creating the tables fails, founding refuses with the cause of the same name as the fault, and leaves what this
    -- cause allows (`RefusesFounding`)
    pub refused_by_store : (fault : CreateFault) → RefusesToCreate g text c old new fault
        → RefusesFounding g old text pass (cause_of_creation_fault fault) new
    refused_by_store NotEmpty refused =
        record { cause = ((w, made.world), made.pass_is_good, refused.0); leaves = refused.1; later = later }
    refused_by_store Store refused =
        record { cause = ((w, made.world), made.pass_is_good, refused.0.fresh); leaves = (failed_creation_fails_founding refused.0, store_refuses refused.1); later = later }
      where
        -- If creating fails with Store, the connection wasn't ready and is unchanged, or it was ready and the write
        -- failed. On a clean disk a call of the write then gave an error other than out of memory (`RefusesToWrite`).
        store_refuses : ((¬ IsReadyToCreate (state g old)) × (new ≡ old)) ⊎ BreaksOffCreation g text c old new Store
            → RefusesToWrite g (OfFoundingBy text pass) old new
        store_refuses (inl unasked) = inl unasked
        store_refuses (inr off) =
            inr
            (off.ready, λ clean. creation_failed g (OfFoundingBy text pass) old new (error_of_founding Store (off.reports_error clean)))
    refused_by_store Memory refused =
        record { cause = tt; leaves = (failed_creation_fails_founding refused.0, inr (λ clean. creation_lacked g (OfFoundingBy text pass) old new (error_of_founding Memory (refused.1.reports_error clean)))); later = later }
