use Rattle.atl_month.proofs.MoveLaws.{each_little, two_at_most}
use Rattle.atl_month.proofs.close.phases_move_little.Goals as goal

pub returns-clause-little : goal.returns-clause-little
returns-clause-little c = each_little

pub returns-clause-two : goal.returns-clause-two
returns-clause-two c = two_at_most
