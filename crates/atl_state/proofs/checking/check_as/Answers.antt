use Rattle.atl_state.proofs.GoodRuleLaws.{gives_back}
use Rattle.atl_state.proofs.checking.check_as.Goals as goal

pub returns-clause-whole : goal.returns-clause-whole
returns-clause-whole c =
    λ world. gives_back c.args.format c.args.world.now world c.args.parts c.check_parts-answer.result
    c.check_parts-answer.ensures
