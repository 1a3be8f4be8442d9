use Rattle.atl_commands.proofs.RunLaws.{consistent_after, runs_on, closes_for, tables_after}
use Rattle.atl_commands.proofs.service.Service.run.Goals as goal

pub invariant_of-self : goal.invariant_of-self
invariant_of-self g c = record {
  consistent = consistent_after g.S.Store c.self.inside.conn c.answer_to.new.conn c.self.inside.world c.self.inside.campaign.value c.answer_to.new.campaign.value c.args.command.now c.in-Ok.answer c.self.inside.is_open c.if-not-self.false c.self.invariant.consistent c.answer_to.ensures.leaves c.in-Ok.ensures.ok;
  unmarked = λ up. c.in-Ok.ensures.unmarked (c.self.invariant.unmarked up);
}

pub returns-in-Ok-clause-runs : goal.returns-in-Ok-clause-runs
returns-in-Ok-clause-runs g c =
    runs_on g.S.Store c.self.inside.conn c.answer_to.new.conn c.self.inside.world c.self.inside.campaign.value c.answer_to.new.campaign.value c.args.command.now c.args.self.now c.in-Ok.answer c.self.inside.is_open c.self.view_is c.if-not-self.false c.self.invariant.consistent c.answer_to.ensures.leaves
    c.in-Ok.ensures.ok

pub returns-in-Err-clause-runs : goal.returns-in-Err-clause-runs
returns-in-Err-clause-runs g c =
    closes_for g.S.Store c.self.inside.conn c.answer_to.new.conn c.self.inside.world c.self.inside.campaign.value c.answer_to.new.campaign.value c.args.command.now c.args.self.now c.in-Err.fault c.from.result c.self.inside.is_open c.from.ensures c.self.view_is c.if-not-self.false c.self.invariant.consistent c.answer_to.ensures.leaves
    c.in-Err.ensures.err c.in-Err.ensures.cause

pub returns-in-Ok-clause-tables : goal.returns-in-Ok-clause-tables
returns-in-Ok-clause-tables g c =
    tables_after g.S.Store c.self.inside.conn c.answer_to.new.conn c.self.inside.world c.self.inside.campaign.value c.answer_to.new.campaign.value c.args.command.now c.in-Ok.answer c.self.inside.is_open c.if-not-self.false c.self.invariant.consistent c.answer_to.ensures.leaves c.in-Ok.ensures.ok
