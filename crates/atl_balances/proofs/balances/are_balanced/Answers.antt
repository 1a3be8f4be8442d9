use Rattle.std.proofs.Common.{rules}
use Rattle.atl_records.specs.declared.books.Thing.TheVariants.{Item}
use Rattle.atl_balances.proofs.AmountLaws.{all_balance}
use Rattle.atl_balances.proofs.balances.are_balanced.Goals as goal

pub returns-then-are_people_balanced : goal.returns-then-are_people_balanced
returns-then-are_people_balanced c = (
  λ r. all_balance c.args.world.now c.args.campaign.now.value c.are_items_balanced.ensures.world c.requires.books c.requires.items c.requires.stocks (c.are_people_balanced.ensures.0 (search rules)) (c.are_items_balanced.ensures.decision.0 r),
  λ balances. c.are_items_balanced.ensures.decision.1 (λ i _. balances (Item i)),
)
