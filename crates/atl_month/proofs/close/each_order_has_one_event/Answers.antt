use Rattle.atl_month.proofs.OneEventLaws as laws
use Rattle.atl_month.proofs.close.each_order_has_one_event.Goals as goal

-- the law that each order that counts has exactly one event in the month (`EachOrderHasOneEvent`)
pub returns : goal.returns
returns c = laws.each_order_has_one_event
