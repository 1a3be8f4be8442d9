use Rattle.atl_records.proofs.HoldingLaws.{AreAmounts-set}
use Rattle.atl_records.proofs.holding.Holding.set_amount.Goals as goal

pub invariant_of-self : goal.invariant_of-self
invariant_of-self c = record {
  men = c.self.invariant.men;
  money = c.self.invariant.money;
  items = AreAmounts-set c.put_amount.result c.self.inside.items c.put_amount.new.amounts c.args.item c.args.amount c.requires c.put_amount.ensures.ok c.put_amount.ensures.err c.self.invariant.items;
}
