-- Laws of items that are not in the world: their total and the sum booked of them are both 0, so they balance.
use Rattle.std.proofs.Common.{◌≡◌, ℕ, ◌+◌, ◌<◌, ◌≤◌, length, sym, ap, ◌∙◌, inl, inr, arith}
use Rattle.std.specs.Prelude.{pos, unwrap_or}
use Rattle.std.proofs.lemmas.Bool.{cases_lt}
use Rattle.std.specs.Ordering.{nat_cmp}
use Rattle.std.specs.FinMap.{FinMap, entries}
use Rattle.atl_world.specs.Worlds.{IsWorld, WorldValue}
use Rattle.atl_world.specs.Sums.{sum_over}
use Rattle.atl_records.specs.declared.books.Thing.TheVariants.{Money, People, Item}
use Rattle.atl_records.specs.declared.records.Region.{Region}
use Rattle.atl_records.specs.declared.records.Unit.{Unit}
use Rattle.atl_campaign.specs.Campaign.{CampaignValue}
use Rattle.atl_records.specs.Holdings.{amount_of}
use Rattle.atl_campaign.specs.Founding.{thing_count}
use Rattle.atl_records.specs.Amounts.{region_amount, unit_amount}
use Rattle.atl_campaign.specs.Totals.{total, Balances}
use Rattle.atl_campaign.proofs.TotalLaws.{sum_of_zeros_is_zero}
use Rattle.atl_records.specs.Books.{booked, AreBooks}
use Rattle.atl_world.specs.Every.{EachEntry, Every}
use Rattle.atl_campaign.specs.Good.{AreOfMarkets}
use Rattle.atl_records.proofs.BookLaws.{booked_past}
use Rattle.atl_world.proofs.EveryLaws.{each-from_every}
use Rattle.atl_campaign.proofs.RuleLaws.{free_from}
use Rattle.atl_campaign.proofs.MarketLaws.{market_known}

unlisted_amount_is_zero : (items : FinMap nat_cmp ℕ) (count i : ℕ) → Every (λ k amount. k < count) items → count ≤ i
    → amount_of items i ≡ 0
unlisted_amount_is_zero items count i known l =
    ap (λ o. unwrap_or o 0) (free_from items i (λ there. let few = known i there.0 there.1 in omega (arith, few)))

-- The books of the campaign c have the things of the world w, and list only amounts of these that aren't 0 (`are`). Its
-- units list only items of the world (`known`), and its regions only stocks of their markets (`stocks`). w keeps its
-- rules.
module _ (w : WorldValue) (c : CampaignValue) (world : IsWorld w) (are : AreBooks (thing_count w) c.books) (known : Every (λ n u. Every (λ i amount. i < length w.items) u.holding.items) c.units)
    (stocks : Every (λ n r. AreOfMarkets w n r.stocks) c.regions) where
  none_kept : (i : ℕ) → length w.items ≤ i → EachEntry (λ _ r. region_amount (Item i) r ≡ 0) (entries c.regions)
  none_kept i l =
      each-from_every (λ _ r. region_amount (Item i) r ≡ 0) c.regions
      (λ n r is. unlisted_amount_is_zero r.stocks (length w.items) i (λ k amount at. market_known w world n k (stocks n r is k amount at)) l)

  unknown_total : (i : ℕ) → length w.items ≤ i → total c (Item i) ≡ 0
  unfolding total
  unknown_total i l =
      let units = sum_of_zeros_is_zero (λ (u : Unit). unit_amount (Item i) u.holding) (entries c.units) (each-from_every (λ _ u. unit_amount (Item i) u.holding ≡ 0) c.units (λ n u is. unlisted_amount_is_zero u.holding.items (length w.items) i (known n u is) l)) in
      let regions = sum_of_zeros_is_zero (λ (r : Region). region_amount (Item i) r) (entries c.regions) (none_kept i l) in
      ap (λ n. n + sum_over (λ (r : Region). region_amount (Item i) r) c.regions) units ∙ ap (λ n. 0 + n) regions

  unknown_booked : (i : ℕ) → length w.items ≤ i → booked c.books (Item i) ≡ pos 0
  unknown_booked i l = booked_past (thing_count w) c.books are (Item i) (omega arith)

  -- the books balance for all things if they do for money, for people, and for each item of the world
  pub all_balance : (pos (total c Money) ≡ booked c.books Money) × (pos (total c People) ≡ booked c.books People)
      → ((i : ℕ) → i < length w.items → pos (total c (Item i)) ≡ booked c.books (Item i)) → Balances c
  all_balance both items Money = both.0
  all_balance both items People = both.1
  all_balance both items (Item i) =
      elim (cases_lt i (length w.items))
      [ inl l ↦ items i l | inr past ↦ ap pos (unknown_total i past) ∙ sym (unknown_booked i past) ]
