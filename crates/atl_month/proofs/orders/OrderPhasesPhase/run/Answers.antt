use Rattle.atl_month.proofs.orders.OrderPhasesPhase.run.Goals as goal

pub run-requires-clause-needs : goal.run-requires-clause-needs
run-requires-clause-needs c = (
  (c.requires.needs, λ w d h. (h, λ w d h. (h, λ w d h. (h, λ w d h. (h, λ w d h. (h, λ w d h. (h, λ w d h. (h, λ w d h. h)))))))),
  λ w d h. (h.steady, λ w d h. (h, λ w d h. (h, λ w d h. (h, λ w d h. (h, λ w d h. (h, λ w d h. h)))))),
)
