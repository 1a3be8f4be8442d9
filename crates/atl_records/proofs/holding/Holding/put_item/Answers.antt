use Rattle.atl_records.proofs.HoldingLaws.{AreAmounts-put}
use Rattle.atl_records.proofs.holding.Holding.put_item.Goals as goal

pub invariant_of-self : goal.invariant_of-self
invariant_of-self c = record {
  men = c.self.invariant.men;
  money = c.self.invariant.money;
  items = AreAmounts-put c.insert.result c.self.inside.items c.insert.new.self c.args.item c.args.amount c.requires c.insert.ensures.ok c.insert.ensures.err c.self.invariant.items;
}
