use Rattle.std.proofs.Common.{refl}
use Rattle.atl_campaign.proofs.AmountMarkLaws.{none_marked}
use Rattle.atl_campaign.proofs.campaign.Campaign.unmark.Goals as goal

pub invariant_of-self : goal.invariant_of-self
invariant_of-self c =
    record {
      unit_lists = rw c.unmark-3.ensures c.self.invariant.unit_lists;
      amounts = rw c.clear.ensures (none_marked c.self.inside.books.things c.self.inside.amounts_marked.room c.self.invariant.amounts.room);
    }

pub returns : goal.returns
returns c =
    rw (← c.self.view_is, c.unmark.ensures, c.unmark-2.ensures, c.unmark-3.ensures, c.unmark-4.ensures, c.unmark-5.ensures, c.unmark-6.ensures, c.clear.ensures) refl
