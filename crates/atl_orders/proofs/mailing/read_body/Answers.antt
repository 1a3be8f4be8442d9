use Rattle.std.proofs.Common.{arith}
use Rattle.std.proofs.lemmas.Grind.{common_steps}
use Rattle.atl_orders.specs.Mailing.{effects}
use Rattle.atl_words.proofs.LineLaws.{rest_further}
use Rattle.atl_orders.proofs.mailing.read_body.Goals as goal

pub loop-rest-preserved : goal.loop-rest-preserved
unfolding effects
loop-rest-preserved c = record {
  ends = rest_further c.args.text.now c.in-Some.left.now _ (rw c.in-Some.is at c.loop-rest.invariant.ends) c.next_line.ensures.rest;
  kept = grind (arith, common_steps);
  faction = grind (arith, common_steps);
  entries = grind (arith, common_steps);
  faults = grind (arith, common_steps);
  small = grind (arith, common_steps);
}
