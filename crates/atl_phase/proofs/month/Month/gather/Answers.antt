use Rattle.std.proofs.Common.{subst}
use Rattle.atl_phase.specs.OrderIndices.{AreOrderIndices, every_verb}
use Rattle.atl_phase.specs.declared.phase_order.Arrangement.TheVariants.{ByUnit}
use Rattle.atl_phase.proofs.month.Month.gather.Goals as goal

pub invariant_of-self : goal.invariant_of-self
invariant_of-self c = record {
  sorted = c.self.invariant.sorted;
  gathered = subst (λ ms. AreOrderIndices every_verb ByUnit c.self.inside.aliases ms c.in_ok-places.places.items) c.deref.ensures.value c.in_ok-places.ensures;
}
