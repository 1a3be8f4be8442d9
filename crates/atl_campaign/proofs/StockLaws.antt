-- Laws of a changed stock of a region: the campaign stays steady, and how totals change.
-- The stock of `item` in region n, which is r before, is set to `amount`; c is the campaign before, and w the world.
use Rattle.std.proofs.Common.{◌≡◌, ◌≢◌, ℕ, ◌+◌, ◌≤◌, Some, IsSome, ap, ◌∙◌, arith}
use Rattle.std.specs.FinMap.{get}
use Rattle.atl_world.specs.ByNumber.{market_of}
use Rattle.atl_world.specs.Worlds.{WorldValue}
use Rattle.atl_records.specs.declared.books.Thing.{Thing}
use Rattle.atl_records.specs.declared.books.Thing.TheVariants.{Money, People, Item}
use Rattle.atl_records.specs.declared.records.Region.{Region}
use Rattle.atl_campaign.specs.Campaign.{CampaignValue, with_stock}
use Rattle.atl_campaign.specs.Good.{AreOfMarkets, IsRegion, IsSteady}
use Rattle.atl_records.specs.Holdings.{amount_of, with_amount_of}
use Rattle.atl_campaign.specs.Stocks.{stock_limit}
use Rattle.atl_campaign.specs.Totals.{total}
use Rattle.atl_records.proofs.HoldingLaws.{every_amount, set_other, set_same}
use Rattle.atl_campaign.proofs.RegionLaws.{steady-region, total-region}

-- the region with its stock of an item set to the given amount; 0 of an item isn't listed
abbrev pub restocked : Region → (item amount : ℕ) → Region
restocked r item amount = record r { stocks = with_amount_of r.stocks item amount }

module _ (w : WorldValue) (n : ℕ) (r : Region) (item amount : ℕ) where
  -- a region stays in range (IsRegion) with another stock of an item, up to its market's limit, or else 999,999,999
  pub IsRegion-stock : amount ≤ stock_limit w n item → IsRegion w n r → IsRegion w n (restocked r item amount)
  IsRegion-stock few old = record {
    peasants = old.peasants;
    money = old.money;
    stocks = every_amount (λ i x. (1 ≤ x) × (x ≤ stock_limit w n i)) r.stocks item amount (λ some. (some, few)) old.stocks;
  }

  -- each item in stock still has a market once the stock of an item with a market is set
  pub AreOfMarkets-stock : IsSome (market_of w n item) → AreOfMarkets w n r.stocks
      → AreOfMarkets w n (restocked r item amount).stocks
  AreOfMarkets-stock there old = every_amount (λ i x. IsSome (market_of w n i)) r.stocks item amount (λ _. there) old

module _ (c : CampaignValue) (n item amount : ℕ) (r : Region) (is : get c.regions n ≡ Some r) where
  -- the campaign stays steady when the stock of an item with a market is set, up to the market's limit
  pub steady-stock : (w : WorldValue) → IsSome (market_of w n item) → amount ≤ stock_limit w n item → IsSteady w c
      → IsSteady w (with_stock c n item amount)
  steady-stock w there few old =
      steady-region (λ q. restocked q item amount) c n r is w (IsRegion-stock w n r item amount few (old.numbers.regions n r is)) (AreOfMarkets-stock w n r item amount there (old.known.markets n r is)) old

  -- setting a stock changes the total of its item by what is then in stock more or less
  pub total-stock : total (with_stock c n item amount) (Item item) + amount_of r.stocks item
      ≡ total c (Item item) + amount
  total-stock =
      total-region (λ q. restocked q item amount) c n r is (Item item)
      ∙ ap (λ k. total c (Item item) + k) (set_same r.stocks item amount)

  alone : (a b k : ℕ) → a + k ≡ b + k → a ≡ b
  alone a b k e = omega (arith, e)

  -- setting a stock changes no total but that of its item
  pub total-stock_other : (t : Thing) → t ≢ Item item → total (with_stock c n item amount) t ≡ total c t
  total-stock_other Money apart = alone _ _ r.money (total-region (λ q. restocked q item amount) c n r is Money)
  total-stock_other People apart = alone _ _ r.peasants (total-region (λ q. restocked q item amount) c n r is People)
  total-stock_other (Item i) apart =
      alone _ _ (amount_of r.stocks i)
      (total-region (λ q. restocked q item amount) c n r is (Item i) ∙ ap (λ k. total c (Item i) + k) (set_other r.stocks item amount i (λ same. apart (ap Item same))))
