use Rattle.std.proofs.Common.{subst, take_all}
use Rattle.atl_phase.specs.OrderIndices.{AreIndicesOf, all_tasks}
use Rattle.atl_phase.proofs.OrderIndexLaws.{next_mailing}
use Rattle.atl_phase.proofs.order_indices.indices_by_mailing.Goals as goal

pub loop-at-preserved : goal.loop-at-preserved
loop-at-preserved g c =
    let added = c.in_ok-add_mailing.ensures in record {
      there = added.there c.loop-at.invariant.there;
      tasks = next_mailing g.P.PhaseVerbs.is_of c.args.aliases.now c.args.mailings.now c.loop-at.at c.loop-at.list.items _ c.loop-at-test.true added c.loop-at.invariant.tasks;
    }

pub returns : goal.returns
returns g c =
    let ms = c.args.mailings.now in
    subst (λ ns. AreIndicesOf ms (all_tasks g.P.PhaseVerbs.is_of c.args.aliases.now ns) c.loop-at.list.items) (take_all c.loop-at.at ms c.loop-at-test.false) c.loop-at.invariant
