-- Laws on the table `market`: one row for each region and item, if the stock is not 0.
-- `c` is the campaign that is written. `n` or `region` is the number of a region, and `stock` what the region has of
-- the item. To rewrite rows is to make them those of the campaign (`RewritesChosenStocks`). `old` is the state before
-- the row is put or deleted, and `new` after it. Each step is in a database with the ten tables.
use Rattle.std.proofs.Common.{◌≡◌, ◌≢◌, ◌||◌, ℕ, pos, Bool, true, false, [], ◌∷◌, Option, Some, None, take, unwrap_or, refl, sym, ap, ◌∙◌, subst, inr, true≢false}
use Rattle.std.proofs.lemmas.Bool.{and_parts, and_from}
use Rattle.std.specs.Ordering.{nat_cmp}
use Rattle.std.specs.FinMap.{FinMap, entries, get}
use Rattle.std.specs.Option.{option_map_or}
use Rattle.sqlite_rules.specs.Lists.{Has}
use Rattle.atl_records.specs.Holdings.{amount_of}
use Rattle.atl_records.specs.declared.records.Region.{Region}
use Rattle.atl_campaign.specs.Stocks.{stock_in}
use Rattle.sqlite.specs.State.{State}
use Rattle.sqlite_value.specs.declared.value.Value.TheVariants.{Int}
use Rattle.atl_campaign.specs.Campaign.{CampaignValue}
use Rattle.atl_sql.specs.Shown.{int, market_key, market_row}
use Rattle.atl_descriptions.specs.Tables.{market_table}
use Rattle.atl_sql.specs.Inside.{DoesInside, HasTables, Puts, Drops}
use Rattle.atl_writing.specs.Marked.{region_and_item_pass}
use Rattle.atl_writing.specs.Rewriting.{FindsByNumbers, RewritesChosenStocks, is_owner_and_thing}
use Rattle.atl_writing.proofs.RewriteLaws.{rewrites_key, kept_only}
use Rattle.atl_writing.proofs.WholeLaws.{inside_weaker}
use Rattle.atl_writing.specs.Rows.{MarketRowsOf}
use Rattle.atl_writing.specs.GroupedRows.{AreGroups, region_stock_lines}
use Rattle.atl_writing.proofs.EntryLaws.{got_entry, entry_got, in_order}
use Rattle.atl_writing.proofs.HasTableLaws.{amounts_have, have_amount, amounts_apart}
use Rattle.sqlite.specs.Order.{Row}
use Rattle.atl_world.proofs.GeneralLaws.{same_key, key_itself}

one_item : (region m a n b : ℕ) → ◌≡◌ {A = Row} (take 2 (market_row region m a)) (take 2 (market_row region n b))
    → m ≡ n
one_item region m a n b same = cc

-- the rows of `market` come in groups, one for each region, whose rows begin with its number (`AreGroups`)
pub stocks_grouped : (regions : FinMap nat_cmp Region) → AreGroups region_stock_lines 2 regions (MarketRowsOf regions)
stocks_grouped regions = record {
  numbered = λ n region r there. ap (take 1) (amounts_have (market_row n) (entries region.stocks) r there).3;
  apart = λ n region. amounts_apart (market_row n) 2 (one_item n) (entries region.stocks) (in_order region.stocks);
  wanted = λ n region got r there.
      let row = amounts_have (market_row n) (entries region.stocks) r there in
      (n, region, got, row.0.0, row.0.1, entry_got region.stocks row.0.0 row.0.1 row.1, row.2, row.3);
  lined = λ r of. (
    of.0,
    of.1,
    of.2,
    subst (Has (region_stock_lines of.0 of.1)) (sym of.7) (have_amount (market_row of.0) (entries of.1.stocks) of.3 of.4 (got_entry of.1.stocks of.3 of.4 of.5) of.6),
  );
}

-- ---- how much of an item a region has in stock

module _ (regions : FinMap nat_cmp Region) where
  abbrev in_stock : ℕ → Option Region → ℕ
  in_stock item o = option_map_or (λ r. amount_of r.stocks item) o 0

  -- each row of `market` gives the stock, which is not 0, of an item in its region
  pub row_has_stock : (r : Row) → MarketRowsOf regions r
      → (n : ℕ) × (item : ℕ) × (stock_in regions n item ≢ 0) × (r ≡ market_row n item (stock_in regions n item))
  row_has_stock r of =
      let amount : stock_in regions of.0 of.3 ≡ of.4 = ap (in_stock of.3) of.2 ∙ ap (λ (o : Option ℕ). unwrap_or o 0) of.5 in
      (of.0, of.3, λ none. of.6 (sym amount ∙ none), of.7 ∙ ap (market_row of.0 of.3) (sym amount))

  -- each stock that is not 0 has its row of `market`
  pub stock_has_row : (n item amount : ℕ) → amount ≡ stock_in regions n item → amount ≢ 0
      → MarketRowsOf regions (market_row n item amount)
  stock_has_row n item amount is some = there (get regions n) refl
    where
      got : (o : Option ℕ) → amount ≡ unwrap_or o 0 → o ≡ Some amount
      got None zero = absurd (some zero)
      got (Some x) same = ap Some (sym same)

      there : (o : Option Region) → get regions n ≡ o → MarketRowsOf regions (market_row n item amount)
      there None none = absurd (some (is ∙ ap (in_stock item) none))
      there (Some region) found =
          (n, region, found, item, amount, got (get region.stocks item) (is ∙ ap (in_stock item) found), some, refl)

-- ---- the row of one stock

-- `region_and_item_pass` finds rows of `market` by region and item: a test "`f` or `g`" finds what `f` or `g` finds,
-- and a test that is always false finds nothing (`FindsByNumbers`)
pub finds_stocks : FindsByNumbers region_and_item_pass
finds_stocks = record { either = either; none = none }
  where
    either : (f g : ℕ → ℕ → Bool) (r : Row)
        → region_and_item_pass (λ n t. f n t || g n t) r ≡ (region_and_item_pass f r || region_and_item_pass g r)
    either f g (Int (pos region) ∷ Int (pos item) ∷ row) = refl
    either f g row = refl

    none : (r : Row) → region_and_item_pass (λ n t. false) r ≡ false
    none (Int (pos region) ∷ Int (pos item) ∷ row) = refl
    none row = refl

-- two keys of `market` are equal only if region and item are
pub market_key_determines_numbers : (a b c d : ℕ) → ◌≡◌ {A = Row} (market_key a b) (market_key c d) → (a ≡ c) × (b ≡ d)
market_key_determines_numbers a b c d same = (cc, cc)

module _ (region item : ℕ) where
  abbrev is_here : Row → Bool
  is_here r = region_and_item_pass (is_owner_and_thing region item) r

  key_of : (r : Row) → is_here r ≡ true → take 2 r ≡ market_key region item
  key_of (Int (pos n) ∷ Int (pos t) ∷ row) is =
      let both = and_parts _ _ is in
      ap (λ k. market_key k t) (same_key n region both.0) ∙ ap (market_key region) (same_key t item both.1)
  key_of row is = absurd (true≢false (sym is))

  of_key : (r : Row) → take 2 r ≡ market_key region item → is_here r ≡ true
  of_key [] key = absurd cc
  of_key (u ∷ []) key = absurd cc
  of_key (u ∷ v ∷ row) key =
      let first : u ≡ int region = cc in
      let second : v ≡ int item = cc in
      ap (λ x. is_here (x ∷ v ∷ row)) first ∙ ap (λ x. is_here (int region ∷ x ∷ row)) second
      ∙ and_from _ _ (key_itself region) (key_itself item)

  module _ (c : CampaignValue) (stock : ℕ) (is : stock ≡ stock_in c.regions region item) where
    abbrev row : Row
    row = market_row region item stock

    wanted_here : (r : Row) → is_here r ≡ true → MarketRowsOf c.regions r → (stock ≢ 0) × (r ≡ row)
    wanted_here r here of =
        let had = row_has_stock c.regions r of in
        let keys = market_key_determines_numbers had.0 had.1 region item (ap (take 2) (sym had.3) ∙ key_of r here) in
        let Determines : ℕ → ℕ → Type 0 = λ n t. (stock_in c.regions n t ≢ 0) × (r ≡ market_row n t (stock_in c.regions n t)) in
        let says : Determines region item = subst (λ n. Determines n item) keys.0 (subst (Determines had.0) keys.1 (had.2, had.3)) in
        (λ none. says.0 (sym is ∙ none), says.1 ∙ ap (market_row region item) (sym is))

    -- if the stock is 0, no row that `market` has to have is of this region and item
    pub no_stock : stock ≡ 0 → (r : Row) → MarketRowsOf c.regions r → take 2 r ≢ market_key region item
    no_stock none r of key = (wanted_here r (of_key r key) of).0 none

    -- to put the row of a stock that is not 0 rewrites the rows of its region and item, and no others
    pub stock_put : stock ≢ 0 → (old new : State) → DoesInside HasTables (Puts market_table 2 row) old new
        → DoesInside HasTables (RewritesChosenStocks c (is_owner_and_thing region item)) old new
    stock_put some old new did =
        inside_weaker HasTables (Puts market_table 2 row) (RewritesChosenStocks c (is_owner_and_thing region item)) old
        new
        (λ has puts. rewrites_key is_here (λ r. take 2 r ≡ market_key region item) (λ r. r ≡ row) (MarketRowsOf c.regions) key_of of_key
        (λ r same. (ap (take 2) same, subst (MarketRowsOf c.regions) (sym same) (stock_has_row c.regions region item stock is some)))
        (λ r here of. (wanted_here r here of).1)
        market_table old.now new.now puts.rows puts.others)
        did

    -- to delete the row of a stock that is 0 rewrites the rows of its region and item, and no others
    pub stock_dropped : stock ≡ 0 → (old new : State)
        → DoesInside HasTables (Drops market_table 2 (market_key region item)) old new
        → DoesInside HasTables (RewritesChosenStocks c (is_owner_and_thing region item)) old new
    stock_dropped none old new did =
        inside_weaker HasTables (Drops market_table 2 (market_key region item))
        (RewritesChosenStocks c (is_owner_and_thing region item)) old new
        (λ has drops. rewrites_key is_here (λ r. take 2 r ≡ market_key region item) (λ r. ⊥) (MarketRowsOf c.regions) key_of of_key (λ r never. absurd never)
        (λ r here of. (wanted_here r here of).0 none)
        market_table old.now new.now (λ r. let so = drops.rows r in (λ h. inr (so.0 h), λ h. so.1 (kept_only h))) drops.others)
        did
