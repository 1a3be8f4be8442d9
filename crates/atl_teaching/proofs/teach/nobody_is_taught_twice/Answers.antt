use Rattle.atl_teaching.proofs.OnceLaws.{nobody_twice}
use Rattle.atl_teaching.proofs.teach.nobody_is_taught_twice.Goals as goal

pub returns : goal.returns
returns c = nobody_twice
