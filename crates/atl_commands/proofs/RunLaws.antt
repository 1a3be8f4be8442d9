-- Laws on `run`: what `answer_to` promises (`Answers`, `CommandLeavesAfterFault`) implies what `run` promises (`Runs`).
-- An answered command keeps the service consistent. Each law requires what any command leaves (`LeavesIdle`). A disk is
-- clean if each read has returned what was written (docs/PROVED.md, "Premises").
-- `g` is the kind of store, in memory or in files, and `w` the world. `is_open` is the service's field before the
-- command, and `old` all of the service then.
use Rattle.std.proofs.Common.{◌≡◌, Bool, true, false, cond, Some, None, IfSome, refl, sym, ap, ap₂, ◌∙◌, subst}
use Rattle.std.proofs.lemmas.Bool.{false≢true}
use Rattle.sqlite_trees.specs.declared.store.Store.{Ghosts}
use Rattle.sqlite.specs.Held.{Held, state}
use Rattle.atl_tables.specs.World.{world_of}
use Rattle.atl_world.specs.Worlds.{WorldValue}
use Rattle.atl_campaign.specs.Campaign.{CampaignValue}
use Rattle.atl_keeping.specs.Keeps.{Keeps}
use Rattle.atl_keeping.proofs.WorldTextLaws.{world_text_is}
use Rattle.atl_commands.specs.declared.command.Command.{Command}
use Rattle.atl_commands.specs.declared.command.Answer.{Answer}
use Rattle.atl_commands.specs.declared.command.Fault.{Fault as Failure}
use Rattle.atl_commands.specs.declared.command.Answer.TheVariants.{Joined, Mailed, MonthDone, Text, Refused, Fault}
use Rattle.atl_keeping.specs.declared.fault.WriteFault.{WriteFault}
use Rattle.atl_keeping.specs.declared.fault.WriteFault.TheVariants as write
use Rattle.atl_keeping.specs.Keeps.{HoldsCampaign}
use Rattle.atl_commands.specs.Service.{ServiceValue, text_in, IsConsistent}
use Rattle.atl_commands.specs.Answering.{Answers, CommandLeavesAfterFault, LeavesIdle, fault_of_write}
use Rattle.atl_commands.specs.Causes.{OfCommand, HasCause}
use Rattle.atl_commands.specs.Runs.{Runs, RunsOpen, Closes}

module _ {S : Type 0} (g : Ghosts S) where
  -- the value of a service as contracts see it, with this connection and this world, and with this campaign if it is
  -- open (`is_open`), else without one
  abbrev pub service_value : Held S → WorldValue → CampaignValue → Bool → ServiceValue S
  service_value conn w c is_open = record { conn = conn; world = w; campaign = cond is_open (Some c) None }

  -- the command finds the connection `conn` and the campaign `c`, and leaves `conn'` and `c'`
  module _ (conn conn' : Held S) (w : WorldValue) (c c' : CampaignValue) (command : Command) where
    -- The command was answered without a fault, and left campaign `c'` and connection `conn'` (`Answers`).
    abbrev pub Answered : Answer → Type 0
    Answered = Answers g w c conn command c' conn'

    -- on a clean disk, after a command that ended without a fault, the tables hold the new campaign with the world text
    -- that they held before
    holding : (answer : Answer) → IsConsistent g conn w c true → LeavesIdle g conn conn' → Answered answer
        → HoldsCampaign g conn' (text_in g conn) c'
    holding answer before leaves done clean =
        done.tables clean (text_in g conn) (before.tables refl (leaves.later.clean clean))

    consistent_open : (answer : Answer) → IsConsistent g conn w c true → LeavesIdle g conn conn' → Answered answer
        → IsConsistent g conn' w c' true
    consistent_open answer before leaves done = record {
      idle = leaves.idle;
      good = λ up. done.good;
      tables = λ up clean. let kept = holding answer before leaves done clean in subst (λ t. Keeps (state g conn') t c') (sym (world_text_is (state g conn') (text_in g conn) c' kept)) kept;
      text = λ up clean. ap world_of (world_text_is (state g conn') (text_in g conn) c' (holding answer before leaves done clean)) ∙ before.text refl (leaves.later.clean clean);
    }

    -- a command that ended without a fault (`Answered`), in a consistent open service, leaves it consistent
    pub consistent_after : (answer : Answer) (is_open : Bool) → is_open ≡ true → IsConsistent g conn w c is_open
        → LeavesIdle g conn conn' → Answered answer → IsConsistent g conn' w c' is_open
    consistent_after answer true up before leaves done = consistent_open answer before leaves done
    consistent_after answer false up before leaves done = absurd (false≢true up)

    -- after a command of a consistent open service that ended without a fault (`Answered`), on a clean disk, the tables
    -- hold its campaign
    pub tables_after : (answer : Answer) (is_open : Bool) → is_open ≡ true → IsConsistent g conn w c is_open
        → LeavesIdle g conn conn' → Answered answer
        → IfSome (service_value conn' w c' is_open).campaign (λ d. HoldsCampaign g conn' (text_in g conn') d)
    tables_after answer true up before leaves done = (consistent_open answer before leaves done).tables refl
    tables_after answer false up before leaves done = absurd (false≢true up)

    -- an open service that answered a command without a fault did what `run` promises for this answer (`RunsOpen`)
    runs_open : (answer : Answer) → IsConsistent g conn w c true → LeavesIdle g conn conn' → Answered answer
        → RunsOpen g c (service_value conn w c true) command answer (service_value conn' w c' true)
    runs_open (Joined f u) before leaves done =
        record { after = c'; step = done.step_is; same = refl; tables = holding (Joined f u) before leaves done }
    runs_open (Mailed n fs) before leaves done =
        record { after = c'; step = done.step_is; same = refl; tables = holding (Mailed n fs) before leaves done }
    runs_open (MonthDone n) before leaves done =
        record { after = c'; step = done.step_is; same = refl; tables = holding (MonthDone n) before leaves done }
    runs_open (Text t) before leaves done =
        (record { after = c'; step = done.step_is; same = refl; tables = holding (Text t) before leaves done }, ap₂ (λ h d. service_value h w d true) done.same.1 done.same.0)
    runs_open (Refused r) before leaves done =
        (done.step_is ∙ ap (λ d. (d, Refused r)) done.same.0, ap₂ (λ h d. service_value h w d true) done.same.1 done.same.0)
    runs_open (Fault f) before leaves done = absurd done.no_fault

    -- the answer to a command that ended without a fault (`Answered`), in a consistent service whose field `is_open` is
    -- true, is one that `run` may give (`Runs`)
    pub runs_on : (old : ServiceValue S) (answer : Answer) (is_open : Bool) → service_value conn w c is_open ≡ old
        → is_open ≡ true → IsConsistent g conn w c is_open → LeavesIdle g conn conn' → Answered answer
        → Runs g old command answer (service_value conn' w c' is_open)
    runs_on old answer true seen up before leaves done =
        subst (λ e. Runs g e command answer (service_value conn' w c' true)) seen (runs_open answer before leaves done)
    runs_on old answer false seen up before leaves done = absurd (false≢true up)

    -- The command ended in a fault (`CommandLeavesAfterFault`). On a clean disk, tables that held the campaign `c`
    -- still do while the connection is open. A crash leaves this campaign or the one after the command, and a good one.
    abbrev pub EndedInFault : Type 0
    EndedInFault = CommandLeavesAfterFault g w c conn command conn'

    -- a consistent open service, one command of which ended in a fault, is closed as promised (`Closes`)
    closes_open : IsConsistent g conn w c true → LeavesIdle g conn conn' → EndedInFault
        → Closes g c (service_value conn w c true) command (service_value conn' w c' false)
    closes_open before leaves gave_up =
        record { same = refl; tables = λ clean. gave_up clean (text_in g conn) (before.tables refl (leaves.later.clean clean)) }

    -- If a command of a consistent open service ended in a fault of a write (`EndedInFault`), `run` may answer the
    -- service's fault for it (`says`) and close (`Runs`). The fault must have its cause (`HasCause`).
    pub closes_for : (old : ServiceValue S) (fault : WriteFault) (says : Failure) (is_open : Bool)
        → says ≡ fault_of_write fault → service_value conn w c is_open ≡ old → is_open ≡ true
        → IsConsistent g conn w c is_open → LeavesIdle g conn conn' → EndedInFault
        → HasCause g (OfCommand w c command) conn conn' (fault_of_write fault)
        → Runs g old command (Fault says) (service_value conn' w c' false)
    closes_for old fault says true is seen up before leaves gave_up cause =
        subst (λ e. Runs g e command (Fault says) (service_value conn' w c' false)) seen
        (subst (λ t. RunsOpen g c (service_value conn w c true) command (Fault t) (service_value conn' w c' false)) (sym is) (closes fault cause))
      where
        closes : (fault : WriteFault) → HasCause g (OfCommand w c command) conn conn' (fault_of_write fault)
            → RunsOpen g c (service_value conn w c true) command (Fault (fault_of_write fault)) (service_value conn' w c' false)
        closes write.Memory cause = (closes_open before leaves gave_up, cause)
        closes write.Store cause = (closes_open before leaves gave_up, cause)
    closes_for old fault says false is seen up before leaves gave_up cause = absurd (false≢true up)
