use Rattle.std.proofs.Common.{rules, ◌≡◌, ap, sym, ◌∙◌, subst}
use Rattle.sqlite.specs.Held.{state}
use Rattle.atl_campaign.specs.Campaign.{CampaignValue, MarkedCampaign}
use Rattle.atl_campaign.proofs.CoverLaws.{marks-trans}
use Rattle.atl_sql.specs.Causes.{IsFaultOfError}
use Rattle.atl_keeping.specs.Faults.{write_fault}
use Rattle.atl_writing.specs.OwnStatements.{OfChange}
use Rattle.atl_keeping.proofs.StayLaws.{on_err}
use Rattle.atl_commands.specs.declared.command.Command.TheVariants.{Close}
use Rattle.atl_commands.specs.Answering.{CommandLeavesAfterFault}
use Rattle.atl_commands.specs.Causes.{OfCommand}
use Rattle.atl_commands.specs.Left.{LeavesGood}
use Rattle.atl_commands.proofs.AnswerLaws.{leaves_good}
use Rattle.atl_commands.proofs.CauseLaws.{call_has_cause}
use Rattle.atl_commands.proofs.CloseLaws.{closed_after_reports, few_things}
use Rattle.atl_commands.proofs.closing.close.Goals as goal

pub write_changes-requires-clause-things : goal.write_changes-requires-clause-things
write_changes-requires-clause-things g c =
    let w = c.args.world.now in
    let after = c.report_to_all.new.campaign.value in
    let done = closed_after_reports w c.args.campaign.now.value c.turn_month.new.campaign.value after c.as_slice.result.now c.in_ok-outcome.outcome c.in_ok-outcome.ensures.outcome c.in_ok-report_to_all.ensures.what c.in_ok-outcome.ensures.there c.in_ok-outcome.ensures.good in
    few_things w after c.in_default.ensures.ok.world done.1

-- where `write_changes` fails, an error of one of its calls is the cause of the fault, on a clean disk (`HasCause`)
pub returns-in_err-write_changes : goal.returns-in_err-write_changes
returns-in_err-write_changes g c = record {
  ok = search rules;
  err = on_err _ (CommandLeavesAfterFault g.S.Store c.args.world.now c.args.campaign.now.value c.args.conn.now (Close c.args.month c.args.pass.now c.args.words.now) c.write_changes.new.conn) (λ clean text keeps.
      let old = c.args.campaign.now.value in
      let after = c.report_to_all.new.campaign.value in
      let done = rw c.as_slice.ensures at (closed_after_reports c.args.world.now old c.turn_month.new.campaign.value after c.as_slice.result.now c.in_ok-outcome.outcome c.in_ok-outcome.ensures.outcome c.in_ok-report_to_all.ensures.what c.in_ok-outcome.ensures.there c.in_ok-outcome.ensures.good) in
      let marks = marks-trans c.args.campaign.now c.turn_month.new.campaign c.report_to_all.new.campaign c.in_ok-outcome.ensures.marks c.in_ok-report_to_all.ensures.marks in
      let stops = leaves_good c.args.world.now (state g.S.Store c.args.conn.now).faults (state g.S.Store c.write_changes.new.conn) text old after c.requires.good done.1 (c.in_err-write_changes.ensures.err clean text old keeps marks.covers) in
      subst (λ (a : CampaignValue). LeavesGood c.args.world.now (state g.S.Store c.args.conn.now).faults (state g.S.Store c.write_changes.new.conn) text old a) (done.0 ∙ sym (ap (λ p. p.0) c.in_default.ensures.ok.step_is)) stops);
  cause =
      let w = c.args.world.now in
      let old = c.args.campaign.now.value in
      let after = c.report_to_all.new.campaign.value in
      let done = rw c.as_slice.ensures at (closed_after_reports w old c.turn_month.new.campaign.value after c.as_slice.result.now c.in_ok-outcome.outcome c.in_ok-outcome.ensures.outcome c.in_ok-report_to_all.ensures.what c.in_ok-outcome.ensures.there c.in_ok-outcome.ensures.good) in
      call_has_cause g.S.Store (OfCommand w old (Close c.args.month c.args.pass.now c.args.words.now)) c.args.conn.now c.write_changes.new.conn _ c.from_residual-in_err-write_changes.result c.from_residual-in_err-write_changes.ensures.1
      (λ clean. subst (λ (a : CampaignValue). IsFaultOfError g.S.Store (OfChange a) write_fault c.args.conn.now c.write_changes.new.conn c.in_err-write_changes.field-0.0) (done.0 ∙ sym (ap (λ p. p.0) c.in_default.ensures.ok.step_is)) (c.in_err-write_changes.ensures.reports_error clean));
  leaves = search rules;
  unmarked = search rules;
}

pub returns : goal.returns
returns g c = record {
  ok =
      let w = c.args.world.now in
      let old = c.args.campaign.now.value in
      let after = c.report_to_all.new.campaign.value in
      let done = rw c.as_slice.ensures at (closed_after_reports w old c.turn_month.new.campaign.value after c.as_slice.result.now c.in_ok-outcome.outcome c.in_ok-outcome.ensures.outcome c.in_ok-report_to_all.ensures.what c.in_ok-outcome.ensures.there c.in_ok-outcome.ensures.good) in
      let marks = marks-trans c.args.campaign.now c.turn_month.new.campaign c.report_to_all.new.campaign c.in_ok-outcome.ensures.marks c.in_ok-report_to_all.ensures.marks in
      let written : c.write_changes.new.campaign.value ≡ after = ap (λ (m : MarkedCampaign). m.value) c.in_ok-write_changes.ensures.done in
      record {
        step_is = rw (written, done.0) c.in_default.ensures.ok.step_is;
        no_fault = tt;
        same = tt;
        good = rw written done.1;
        tables = λ clean text keeps. rw written (c.in_ok-write_changes.ensures.ok clean text old keeps marks.covers);
      };
  err = tt;
  cause = tt;
  leaves = search rules;
  unmarked = search rules;
}
