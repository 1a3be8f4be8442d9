use Rattle.atl_market.proofs.BuildLaws.{limit_by_next}
use Rattle.atl_market.proofs.build.is_structure_limit.Goals as goal

pub returns : goal.returns
returns c = rw c.next_structure.ensures (limit_by_next c.args.campaign.now.value c.requires)
