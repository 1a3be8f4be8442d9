use Rattle.std.proofs.Common.{◌≡◌, ◌<◌, ap}
use Rattle.atl_records.specs.Books.{BooksValue, thing_index}
use Rattle.atl_campaign.proofs.AmountMarkLaws.{fits_amount, more_marked}
use Rattle.atl_campaign.proofs.campaign.Campaign.book.Goals as goal

pub add-requires : goal.add-requires
add-requires c =
    let there : thing_index c.args.thing < c.self.inside.books.things = rw (← c.self.view_is) at c.requires.there in
    rw c.amount_number.ensures (fits_amount c.self.inside.books.things c.self.inside.amounts_marked c.args.entry c.args.thing there c.self.invariant.amounts)

pub invariant_of-self : goal.invariant_of-self
invariant_of-self c =
    let there : thing_index c.args.thing < c.self.inside.books.things = rw (← c.self.view_is) at c.requires.there in
    let same : c.book.new.self.things ≡ c.self.inside.books.things = ap (λ (b : BooksValue). b.things) c.book.ensures in
    record {
      unit_lists = c.self.invariant.unit_lists;
      amounts = rw (same, c.add.ensures, c.amount_number.ensures) (more_marked c.self.inside.books.things c.self.inside.amounts_marked c.args.entry c.args.thing there c.self.invariant.amounts);
    }
