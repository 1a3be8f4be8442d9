use Rattle.std.proofs.Common.{◌+◌, ◌++◌, ◌∷◌, [], cond, ap, ◌∙◌, vec_len, arith}
use Rattle.atl_commands.proofs.ListLaws.{one_more, all_done, headline}
use Rattle.atl_commands.proofs.service.Service.run_all.Goals as goal

pub loop-command-preserved : goal.loop-command-preserved
loop-command-preserved g c =
    let fits = c.push.ensures.succeeds (omega (arith, c.loop-command.invariant.count, c.loop-command.invariant.room)) in
    let items = c.push.ensures.items ∙ ap (λ b. cond b (c.loop-command.answers.items ++ c.run-answer.result ∷ []) c.loop-command.answers.items) fits in
    record {
      whole = λ rs new h. rw items (one_more g.S.Store _ _ _ _ _ c.loop-command.command-index _ _ _ _ c.loop-command-test.true c.command-item.is c.loop-command.invariant.whole c.loop-command.invariant.tables c.run-answer.ensures.runs c.run-answer.ensures.later h);
      tables = c.run-answer.ensures.tables;
      balances = c.run-answer.ensures.balances;
      count = c.push.ensures.len ∙ ap (λ b. cond b (vec_len c.loop-command.answers + 1) (vec_len c.loop-command.answers)) fits ∙ ap (λ n. n + 1) c.loop-command.invariant.count;
      room = omega (arith, c.push.ensures.capacity, c.loop-command.invariant.room);
    }

pub returns-clause-runs : goal.returns-clause-runs
returns-clause-runs g c =
    all_done g.S.Store _ _ _ c.loop-command.command-index _ c.loop-command-test.false c.loop-command.invariant.whole
    c.loop-command.invariant.tables

pub returns-clause-headline : goal.returns-clause-headline
returns-clause-headline g c =
    headline g.S.Store _ _ _ _
    (all_done g.S.Store _ _ _ c.loop-command.command-index _ c.loop-command-test.false c.loop-command.invariant.whole c.loop-command.invariant.tables)

pub returns-clause-balances : goal.returns-clause-balances
returns-clause-balances g c = c.loop-command.invariant.balances
