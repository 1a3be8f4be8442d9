use Rattle.atl_action.proofs.LearningLaws as laws
use Rattle.atl_action.proofs.learners.units_learn_by_orders.Goals as goal

pub returns : goal.returns
returns c = laws.units_learn_by_orders
