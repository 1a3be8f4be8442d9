use Rattle.std.proofs.Common.{sym}
use Rattle.atl_world.proofs.SumLaws.{put_same_err}
use Rattle.atl_lists.proofs.lists.list_number.Goals as goal

pub returns-in-Some-clause-err : goal.returns-in-Some-clause-err
returns-in-Some-clause-err c =
    put_same_err c.put.result c.args.lists.now c.args.key c.in-Some.list.now c.put.new.self
    (sym c.in-Some.ensures.value) c.put.ensures.err
