use Rattle.std.proofs.Common.{rules, ◌≡◌, sym, ap, ◌∙◌, subst}
use Rattle.sqlite.specs.Held.{state}
use Rattle.atl_campaign.specs.Campaign.{CampaignValue, MarkedCampaign, with_mail}
use Rattle.atl_sql.specs.Causes.{IsFaultOfError}
use Rattle.atl_keeping.specs.Faults.{write_fault}
use Rattle.atl_writing.specs.OwnStatements.{OfMail}
use Rattle.atl_keeping.proofs.StayLaws.{on_err}
use Rattle.atl_commands.specs.declared.command.Command.TheVariants.{Mail}
use Rattle.atl_commands.specs.Answering.{CommandLeavesAfterFault}
use Rattle.atl_campaign.proofs.GoodLaws.{IsGood-with_mail}
use Rattle.atl_commands.specs.Left.{LeavesGood}
use Rattle.atl_commands.proofs.AnswerLaws.{leaves_good}
use Rattle.atl_commands.proofs.CauseLaws.{call_has_cause}
use Rattle.atl_commands.proofs.answering.mail.Goals as goal

pub returns : goal.returns
returns g c = record {
  ok =
      let old = c.args.campaign.now.value in
      let done : c.unmark.new.self.value ≡ with_mail old c.args.faction c.args.text.now = ap (λ (m : MarkedCampaign). m.value) c.unmark.ensures ∙ c.in_ok-set_mail.ensures.ok ∙ ap (with_mail old c.args.faction) (c.into_parts-kept.ensures.text ∙ c.in-Ok.ensures.text) in
      record {
        step_is = rw (done, c.len-orders.ensures, c.into_parts-kept.ensures.faults) c.in-Ok.ensures.step;
        no_fault = tt;
        same = tt;
        good = rw done (IsGood-with_mail c.args.world.now old c.args.faction c.args.text.now c.in-Ok.ensures.own c.in-Ok.ensures.active c.requires.good);
        tables = λ clean text keeps. rw done (rw c.as_slice.ensures at (c.in_ok-write_mail.ensures.ok clean text old keeps));
      };
  err = tt;
  cause = tt;
  leaves = search rules;
  unmarked = search rules;
}

-- where `write_mail` fails, an error of one of its calls is the cause of the fault, on a clean disk (`HasCause`)
pub returns-in_err-write_mail : goal.returns-in_err-write_mail
returns-in_err-write_mail g c = record {
  ok = search rules;
  err = on_err _ (CommandLeavesAfterFault g.S.Store c.args.world.now c.args.campaign.now.value c.args.conn.now (Mail c.args.faction c.args.pass.now c.args.text.now) c.write_mail.new.conn) (λ clean text keeps.
      let w = c.args.world.now in
      let old = c.args.campaign.now.value in
      let good = IsGood-with_mail w old c.args.faction c.args.text.now c.in-Ok.ensures.own c.in-Ok.ensures.active c.requires.good in
      let stops = leaves_good w (state g.S.Store c.args.conn.now).faults (state g.S.Store c.write_mail.new.conn) text old (with_mail old c.args.faction c.args.text.now) c.requires.good good (rw c.as_slice.ensures at (c.in_err-write_mail.ensures.err clean text old keeps)) in
      subst (λ (after : CampaignValue). LeavesGood w (state g.S.Store c.args.conn.now).faults (state g.S.Store c.write_mail.new.conn) text old after) (sym (ap (λ p. p.0) c.in-Ok.ensures.step)) stops);
  cause =
      call_has_cause g.S.Store (OfMail c.args.faction c.args.text.now) c.args.conn.now c.write_mail.new.conn _ c.from_residual-in_err-write_mail.result c.from_residual-in_err-write_mail.ensures.1
      (λ clean. subst (λ text. IsFaultOfError g.S.Store (OfMail c.args.faction text) write_fault c.args.conn.now c.write_mail.new.conn c.in_err-write_mail.field-0.0) c.as_slice.ensures (c.in_err-write_mail.ensures.reports_error clean));
  leaves = search rules;
  unmarked = search rules;
}
