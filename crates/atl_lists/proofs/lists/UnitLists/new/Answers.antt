use Rattle.atl_lists.proofs.ListLaws.{AreUnitLists-nobody}
use Rattle.atl_lists.proofs.lists.UnitLists.new.Goals as goal

pub returns : goal.returns
returns c = rw (c.new.ensures, c.new-2.ensures, c.new-3.ensures) AreUnitLists-nobody
