use Rattle.std.proofs.Common.{◌<◌, length, sym, subst}
use Rattle.atl_records.specs.Books.{AreBooks}
use Rattle.atl_campaign.specs.Founding.{thing_count}
use Rattle.atl_world.specs.Every.{Every}
use Rattle.atl_campaign.specs.Good.{AreOfMarkets}
use Rattle.atl_campaign.specs.Campaign.{CampaignValue}
use Rattle.atl_campaign.specs.Totals.{IsCountable}
use Rattle.atl_state.proofs.CheckLaws.{countable-said, books-said, items-said, stocks-said}
use Rattle.atl_state.proofs.checking.keeps_books.Goals as goal

pub are_balanced-requires-clause-few : goal.are_balanced-requires-clause-few
are_balanced-requires-clause-few g c =
    subst IsCountable (sym c.requires.0) (countable-said c.args.format c.args.world.now g.rows c.requires.1.1)

pub are_balanced-requires-clause-books : goal.are_balanced-requires-clause-books
are_balanced-requires-clause-books g c =
    subst (λ (s : CampaignValue). AreBooks (thing_count c.args.world.now) s.books) (sym c.requires.0)
    (books-said c.args.format c.args.world.now g.rows c.requires.1.1)

pub are_balanced-requires-clause-items : goal.are_balanced-requires-clause-items
are_balanced-requires-clause-items g c =
    subst (λ (s : CampaignValue). Every (λ n u. Every (λ i amount. i < length c.args.world.now.items) u.holding.items) s.units) (sym c.requires.0) (items-said c.args.format c.args.world.now g.rows c.requires.1.1)

pub are_balanced-requires-clause-stocks : goal.are_balanced-requires-clause-stocks
are_balanced-requires-clause-stocks g c =
    subst (λ (s : CampaignValue). Every (λ n r. AreOfMarkets c.args.world.now n r.stocks) s.regions) (sym c.requires.0) (stocks-said c.args.format c.args.world.now g.rows c.requires.1.1)
