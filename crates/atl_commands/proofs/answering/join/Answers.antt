use Rattle.std.proofs.Common.{rules, ◌≡◌, ap, sym, ◌∙◌, subst}
use Rattle.sqlite.specs.Held.{state}
use Rattle.atl_campaign.specs.Campaign.{CampaignValue, MarkedCampaign}
use Rattle.atl_sql.specs.Causes.{IsFaultOfError}
use Rattle.atl_keeping.specs.Faults.{write_fault}
use Rattle.atl_campaign.specs.Good.{IsGood}
use Rattle.atl_writing.specs.OwnStatements.{OfJoining}
use Rattle.atl_keeping.proofs.StayLaws.{on_err}
use Rattle.atl_commands.specs.declared.command.Command.TheVariants.{Join}
use Rattle.atl_commands.specs.declared.command.Refusal.TheVariants as why
use Rattle.atl_commands.specs.Left.{LeavesGood}
use Rattle.atl_commands.specs.Step.{reported, step}
use Rattle.atl_commands.specs.Causes.{OfCommand}
use Rattle.atl_commands.proofs.CauseLaws.{call_has_cause}
use Rattle.atl_commands.specs.Answering.{CommandLeavesAfterFault}
use Rattle.atl_commands.proofs.AnswerLaws.{is_refused, leaves_good}
use Rattle.atl_campaign.proofs.GoodLaws.{IsGood-joined}
use Rattle.atl_commands.proofs.JoinStepLaws.{bad_name, bad_pass, is_taken, is_too_full, steps_on, joining_is, arrives}
use Rattle.atl_commands.proofs.answering.join.Goals as goal

pub returns-then-not-name_ok : goal.returns-then-not-name_ok
returns-then-not-name_ok g c = record {
  ok =
      let w = c.args.world.now in
      let old = c.args.campaign.now.value in
      is_refused g.S.Store w old c.args.conn.now (Join c.args.name.now c.args.pass.now c.args.word) why.BadName (bad_name w old c.args.name.now c.args.pass.now c.args.word (cc)) c.requires.good;
  err = tt;
  cause = tt;
  leaves = search rules;
  unmarked = search rules;
}

pub returns-then-not-pass_ok : goal.returns-then-not-pass_ok
returns-then-not-pass_ok g c = record {
  ok =
      let w = c.args.world.now in
      let old = c.args.campaign.now.value in
      is_refused g.S.Store w old c.args.conn.now (Join c.args.name.now c.args.pass.now c.args.word) why.BadPassText (bad_pass w old c.args.name.now c.args.pass.now c.args.word (cc) (cc)) c.requires.good;
  err = tt;
  cause = tt;
  leaves = search rules;
  unmarked = search rules;
}

pub returns-in-Err-NameTaken : goal.returns-in-Err-NameTaken
returns-in-Err-NameTaken g c = record {
  ok =
      let w = c.args.world.now in
      let old = c.args.campaign.now.value in
      let refused = rw (c.as_slice-3.ensures, c.as_slice-4.ensures) at (rw c.in-Err-NameTaken.field-0-is at c.in-Err-NameTaken.ensures.definition) in
      rw refused.1 (is_refused g.S.Store w old c.args.conn.now (Join c.args.name.now c.args.pass.now c.args.word) why.NameTaken (is_taken w old c.args.name.now c.args.pass.now c.args.word (cc) (cc) refused.0) c.requires.good);
  err = tt;
  cause = tt;
  leaves = search rules;
  unmarked = search rules;
}

pub returns-in-Err-Full : goal.returns-in-Err-Full
returns-in-Err-Full g c = record {
  ok =
      let w = c.args.world.now in
      let old = c.args.campaign.now.value in
      let refused = rw (c.as_slice-3.ensures, c.as_slice-4.ensures) at (rw c.in-Err-Full.field-0-is at c.in-Err-Full.ensures.definition) in
      rw refused.1 (is_refused g.S.Store w old c.args.conn.now (Join c.args.name.now c.args.pass.now c.args.word) why.Full (is_too_full w old c.args.name.now c.args.pass.now c.args.word (cc) (cc) refused.0) c.requires.good);
  err = tt;
  cause = tt;
  leaves = search rules;
  unmarked = search rules;
}

pub returns : goal.returns
returns g c = record {
  ok =
      let w = c.args.world.now in
      let old = c.args.campaign.now.value in
      let is = rw (c.as_slice-3.ensures, c.as_slice-4.ensures) at c.in-Ok.ensures.definition in
      let is_joining = joining_is w c.args.name.now c.args.pass.now c.args.word old c.join.new.self.value c.in-Ok.numbers.0 c.in-Ok.numbers.1 c.requires.good is in
      let done : c.store_first_report.new.campaign.value ≡ reported w c.join.new.self.value c.in-Ok.numbers.0 = c.in_ok-store_first_report.ensures.ok in
      let same : c.unmark.new.self.value ≡ c.store_first_report.new.campaign.value = ap (λ (m : MarkedCampaign). m.value) c.unmark.ensures in
      record {
        step_is = rw (same, done) (steps_on w old c.args.name.now c.args.pass.now c.args.word c.join.new.self.value c.in-Ok.numbers.0 c.in-Ok.numbers.1 (cc) (cc) is);
        no_fault = tt;
        same = tt;
        good = rw (same, done) (IsGood-joined w c.args.name.now c.args.pass.now c.args.word old c.join.new.self.value c.in-Ok.numbers.0 c.in-Ok.numbers.1 _ is c.requires.good c.join.ensures.sound);
        tables = λ clean text keeps. rw same (c.in_ok-write_join.ensures.ok clean text old keeps (rw done is_joining));
      };
  err = tt;
  cause = tt;
  leaves = search rules;
  unmarked = search rules;
}

-- where `write_join` fails, an error of one of its calls is the cause of the fault, on a clean disk (`HasCause`)
pub returns-in_err-write_join : goal.returns-in_err-write_join
returns-in_err-write_join g c = record {
  ok = search rules;
  err = on_err _ (CommandLeavesAfterFault g.S.Store c.args.world.now c.args.campaign.now.value c.args.conn.now (Join c.args.name.now c.args.pass.now c.args.word) c.write_join.new.conn) (λ clean text keeps.
      let w = c.args.world.now in
      let old = c.args.campaign.now.value in
      let is = rw (c.as_slice-3.ensures, c.as_slice-4.ensures) at c.in-Ok.ensures.definition in
      let done : c.store_first_report.new.campaign.value ≡ reported w c.join.new.self.value c.in-Ok.numbers.0 = c.in_ok-store_first_report.ensures.ok in
      let steps = steps_on w old c.args.name.now c.args.pass.now c.args.word c.join.new.self.value c.in-Ok.numbers.0 c.in-Ok.numbers.1 (cc) (cc) is in
      let good : IsGood w c.store_first_report.new.campaign.value = rw done (IsGood-joined w c.args.name.now c.args.pass.now c.args.word old c.join.new.self.value c.in-Ok.numbers.0 c.in-Ok.numbers.1 _ is c.requires.good c.join.ensures.sound) in
      let stops = leaves_good w (state g.S.Store c.args.conn.now).faults (state g.S.Store c.write_join.new.conn) text old c.store_first_report.new.campaign.value c.requires.good good
      (c.in_err-write_join.ensures.err clean text old keeps (rw done (joining_is w c.args.name.now c.args.pass.now c.args.word old c.join.new.self.value c.in-Ok.numbers.0 c.in-Ok.numbers.1 c.requires.good is))) in
      subst (λ (after : CampaignValue). LeavesGood w (state g.S.Store c.args.conn.now).faults (state g.S.Store c.write_join.new.conn) text old after) (done ∙ sym (ap (λ p. p.0) steps)) stops);
  cause =
      let w = c.args.world.now in
      let old = c.args.campaign.now.value in
      let command = Join c.args.name.now c.args.pass.now c.args.word in
      let is = rw (c.as_slice-3.ensures, c.as_slice-4.ensures) at c.in-Ok.ensures.definition in
      let done : c.store_first_report.new.campaign.value ≡ reported w c.join.new.self.value c.in-Ok.numbers.0 = c.in_ok-store_first_report.ensures.ok in
      let steps = steps_on w old c.args.name.now c.args.pass.now c.args.word c.join.new.self.value c.in-Ok.numbers.0 c.in-Ok.numbers.1 (cc) (cc) is in
      let joining = joining_is w c.args.name.now c.args.pass.now c.args.word old c.join.new.self.value c.in-Ok.numbers.0 c.in-Ok.numbers.1 c.requires.good is in
      call_has_cause g.S.Store (OfCommand w old command) c.args.conn.now c.write_join.new.conn _ c.from_residual-in_err-write_join.result c.from_residual-in_err-write_join.ensures.1 (λ clean.
      subst (λ n. IsFaultOfError g.S.Store (OfJoining n (step w old command).0) write_fault c.args.conn.now c.write_join.new.conn c.in_err-write_join.field-0.0) joining.6
      (subst (λ (after : CampaignValue). IsFaultOfError g.S.Store (OfJoining c.in-Ok.numbers.0 after) write_fault c.args.conn.now c.write_join.new.conn c.in_err-write_join.field-0.0) (done ∙ sym (ap (λ p. p.0) steps)) (c.in_err-write_join.ensures.reports_error clean)));
  leaves = search rules;
  unmarked = search rules;
}

pub write_join-requires-clause-arrived : goal.write_join-requires-clause-arrived
write_join-requires-clause-arrived g c =
    let w = c.args.world.now in
    let old = c.args.campaign.now.value in
    let is = rw (c.as_slice-3.ensures, c.as_slice-4.ensures) at c.in-Ok.ensures.definition in
    let done : c.store_first_report.new.campaign.value ≡ reported w c.join.new.self.value c.in-Ok.numbers.0 = c.in_ok-store_first_report.ensures.ok in
    rw done (arrives w c.args.name.now c.args.pass.now c.args.word old c.join.new.self.value c.in-Ok.numbers.0 c.in-Ok.numbers.1 c.requires.good is)
