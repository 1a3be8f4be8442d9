-- Laws of restocking a region's markets: it keeps a campaign steady and of the same month, its books balanced
-- (`LeavesWell`) and all units as they are. `n` is the number of the region, `i` that of an item, and `m` the region's
-- market for the item. `x` and `xs` are markets, each with its item.
use Rattle.std.proofs.Common.{◌≡◌, ◌≢◌, ◌==◌, ℕ, ◌+◌, ◌-◌, ◌≤◌, ◌<◌, Bool, true, cond, Option, Some, None, List, [], ◌∷◌, length, refl, sym, ap, subst, ◌∙◌, arith, inl, inr}
use Rattle.std.specs.Prelude.{ℤ, pos, ◌+ℤ◌, is_some, option_and_then, unwrap_or, if◌then◌else◌}
use Rattle.std.specs.Ordering.{nat_cmp, is_lt}
use Rattle.std.specs.FinMap.{empty, entries, get, is_sorted}
use Rattle.std.specs.FinMap.Entries.{below_all}
use Rattle.std.specs.Option.{option_map_or}
use Rattle.std.proofs.lemmas.Bool.{and_parts, cases_eq}
use Rattle.std.proofs.lemmas.Bool.Decides.{nat_tests}
use Rattle.std.proofs.lemmas.Int.{ints}
use Rattle.atl_world.specs.Worlds.{WorldValue, IsMarket, IsWorld}
use Rattle.atl_world.specs.Limits.{most_amount}
use Rattle.atl_world.specs.declared.world.Market.{Market}
use Rattle.atl_world.specs.declared.world.RegionPlan.{RegionPlan}
use Rattle.atl_world.specs.ByNumber.{market_of}
use Rattle.atl_world.proofs.Maps.{entries-empty}
use Rattle.atl_world.proofs.EntryOrderLaws.{less_by_comparison}
use Rattle.atl_records.specs.declared.books.BooksEntry.{BooksEntry}
use Rattle.atl_records.specs.declared.books.BooksEntry.TheVariants.{Stocked}
use Rattle.atl_records.specs.declared.books.Thing.{Thing}
use Rattle.atl_records.specs.declared.books.Thing.TheVariants.{Money, People, Item}
use Rattle.atl_records.specs.declared.records.Region.{Region}
use Rattle.atl_records.specs.Books.{amount_in, booked, thing_at, thing_index, amount_number}
use Rattle.atl_campaign.specs.Campaign.{MarkedCampaign, CampaignValue, with_booking, with_stock}
use Rattle.atl_campaign.specs.Covers.{MarksChanges}
use Rattle.atl_world.specs.Every.{EachEntry, HasValue}
use Rattle.atl_campaign.specs.Founding.{thing_count}
use Rattle.atl_campaign.specs.Good.{IsSteady}
use Rattle.atl_records.specs.Holdings.{amount_of}
use Rattle.atl_campaign.specs.Marking.{MarksStock, mark_amount}
use Rattle.atl_campaign.specs.Stocks.{stock_limit, stock_of}
use Rattle.atl_campaign.specs.Totals.{Balances, total}
use Rattle.atl_records.proofs.AccountLaws.{thing_at_index}
use Rattle.atl_records.proofs.BookLaws.{booked-after_booking}
use Rattle.atl_campaign.proofs.CoverLaws.{marks-stock}
use Rattle.atl_records.proofs.EveryEntryLaws.{entry_small}
use Rattle.atl_world.proofs.EveryLaws.{each-from_every, sorted, same_number}
use Rattle.atl_campaign.proofs.RegionLaws.{steady-amount, total-booking}
use Rattle.atl_campaign.proofs.StockLaws.{steady-stock, total-stock, total-stock_other}
use Rattle.atl_phase.specs.Meaning.{BookBound, LeavesWell, moves_only}
use Rattle.atl_phase.specs.Bounds.{HasRoom, HaveRoom}
use Rattle.atl_phase.proofs.BookingLaws.{booked-near, within-pos}
use Rattle.atl_phase.proofs.MarkLaws.{marks_by, booked_marks}
use Rattle.atl_phase.proofs.MeaningLaws.{both_leave_well, room_for_second, room_less, same_month_by, well_unchanged, well_within}
use Rattle.atl_upkeep.specs.Restock.{after_market_restock, after_restock, markets_of, restock, stocks_by}

-- ---- how far new goods move the books

-- the bound on what the new goods of some markets book: for each market 999,999,999 under Stocked of its item
abbrev pub stocking_bound : List (ℕ × Market) → BookBound
stocking_bound [] e t = 0
stocking_bound (x ∷ xs) e t = moves_only most_amount Stocked (Item x.0) e t + stocking_bound xs e t

one_stocked : (k : ℕ) (e : BooksEntry) (t : Thing)
    → moves_only most_amount Stocked (Item k) e t ≤ stocks_by most_amount e t
one_stocked k e Money = grind (arith, nat_tests, entry_small e)
one_stocked k e People = grind (arith, nat_tests, entry_small e)
one_stocked k e (Item i) = grind (arith, nat_tests, entry_small e)

other_item : (k : ℕ) (e : BooksEntry) (t : Thing) → thing_index t ≢ 2 + k
    → moves_only most_amount Stocked (Item k) e t ≡ 0
other_item k e t apart = grind (arith, nat_tests, entry_small e)

none_above : (k : ℕ) (xs : List (ℕ × Market)) (e : BooksEntry) (t : Thing) → thing_index t ≡ 2 + k
    → below_all nat_cmp k xs ≡ true → stocking_bound xs e t ≡ 0
none_above k [] e t at above = refl
none_above k (x ∷ xs) e t at above =
    let both = and_parts (is_lt (nat_cmp k x.0)) (below_all nat_cmp k xs) above in
    let less = less_by_comparison k x.0 both.0 in
    omega (arith, other_item x.0 e t (λ same. omega (arith, at, same, less)), none_above k xs e t at both.1)

-- the new goods of markets, sorted by item with no item twice, together book at most 999,999,999 of each (`stocks_by`)
pub stocks_little : (xs : List (ℕ × Market)) → is_sorted nat_cmp xs ≡ true → (e : BooksEntry) (t : Thing)
    → stocking_bound xs e t ≤ stocks_by most_amount e t
stocks_little [] rising e t = omega arith
stocks_little (x ∷ xs) rising e t =
    let both = and_parts (below_all nat_cmp x.0 xs) (is_sorted nat_cmp xs) rising in
    let rest = stocks_little xs both.1 e t in
    elim (cases_eq (thing_index t) (2 + x.0)) [
      | inl at ↦ omega (arith, one_stocked x.0 e t, none_above x.0 xs e t at both.0)
      | inr apart ↦ omega (arith, other_item x.0 e t apart, rest)
    ]

-- ---- a market that gets new goods

-- `m` is the market of region `n` for item `i`, by the rules of markets (`known`); `r` is that region in the steady
-- campaign `c`, before the new goods
module _ (w : WorldValue) (c : CampaignValue) (n i : ℕ) (m : Market) (r : Region) (here : get c.regions n ≡ Some r) (market : market_of w n i ≡ Some m) (known : IsMarket (length w.items) i m) (steady : IsSteady w c) where
  abbrev stock : ℕ
  stock = amount_of r.stocks i

  abbrev more : ℕ
  more = restock m stock

  stock_is : stock_of c n i ≡ stock
  stock_is = ap (λ o. option_map_or (λ (q : Region). amount_of q.stocks i) o 0) here

  limit_is : stock_limit w n i ≡ m.limit
  limit_is = ap (λ o. option_map_or (λ (k : Market). k.limit) o most_amount) market

  -- the stock of a market is within the limit of the market
  pub stock_small : stock ≤ m.limit
  stock_small = by_option (get r.stocks i) refl
    where
      by_option : (o : Option ℕ) → get r.stocks i ≡ o → unwrap_or o 0 ≤ m.limit
      by_option None is = omega arith
      by_option (Some amount) is = omega (arith, ((steady.numbers.regions n r here).stocks i amount is).1, limit_is)

  -- the stock of a market with its new goods is within the limit of the market
  pub stock_fits : stock + more ≤ m.limit
  stock_fits = omega (arith, stock_small)

  inside : thing_index (Item i) < thing_count w
  inside = omega (arith, known.item, known.number_is)

  -- the campaign with the new goods in stock, not booked yet
  abbrev filled : CampaignValue
  filled = with_stock c n i (stock + more)

  filled_steady : IsSteady w filled
  filled_steady =
      steady-stock c n i (stock + more) r here w (ap is_some market) (omega (arith, stock_fits, limit_is)) steady

  filled_total : (t : Thing) → total filled t ≡ total c t + cond (thing_index t == 2 + i) more 0
  filled_total t = elim (cases_eq (thing_index t) (2 + i)) [
    | inl location ↦
        let same : t ≡ Item i = sym (thing_at_index t) ∙ ap thing_at location ∙ thing_at_index (Item i) in
        let its = total-stock c n i (stock + more) r here in
        subst (λ (u : Thing). total filled u ≡ total c u + cond (thing_index u == 2 + i) more 0) (sym same) (grind (arith, nat_tests, its))
    | inr apart ↦ let kept = total-stock_other c n i (stock + more) r here t (λ same. apart (ap thing_index same)) in grind (arith, nat_tests, kept)
  ]

  balanced : Balances c → Balances (with_booking filled Stocked (Item i) (pos more))
  balanced old t =
      ap pos (total-booking filled Stocked (Item i) t (pos more)) ∙ ap pos (filled_total t)
      ∙ added (thing_index t == 2 + i) (total c t) (booked c.books t) (old t)
      ∙ sym (booked-after_booking c.books Stocked (Item i) (pos more) t)
    where
      added : (b : Bool) (x : ℕ) (z : ℤ) → pos x ≡ z → pos (x + cond b more 0) ≡ z +ℤ cond b (pos more) (pos 0)
      added b x z e = grind (arith, ints, e)

  -- New goods of a market of region `n` keep a steady campaign steady and of the same month, and its books balanced.
  -- They book at most 999,999,999 of its item as Stocked, and nothing else.
  pub market_leaves_well : LeavesWell IsSteady (moves_only most_amount Stocked (Item i)) w c (after_market_restock n c (i, m))
  unfolding after_market_restock
  market_leaves_well =
      subst (λ s. LeavesWell IsSteady (moves_only most_amount Stocked (Item i)) w c (with_booking (with_stock c n i (s + restock m s)) Stocked (Item i) (pos (restock m s)))) (sym stock_is)
      (record {
        leaves_it = steady-amount w filled Stocked (Item i) (pos more) inside filled_steady;
        same_month = same_month_by refl;
        balances = balanced;
        near = booked-near c.books Stocked (Item i) (pos more) most_amount (within-pos more most_amount (omega (arith, stock_fits, known.limit)));
      })

-- ---- all markets of a region

-- `m` is the world's market of region `n` for item `i`, and keeps the rules of markets (`IsMarket`)
abbrev pub IsMarketOf : WorldValue → (n i : ℕ) → Market → Type 0
IsMarketOf w n i m = (market_of w n i ≡ Some m) × IsMarket (length w.items) i m

-- `n` is the number of a region of the world
module _ (w : WorldValue) (n : ℕ) (there : HasValue w.regions n) where
  -- New goods of a market of the region (`IsMarketOf`), given as `x.1` with its item `x.0`, keep a steady campaign
  -- steady and of the same month, and its books balanced. They book at most 999,999,999 of the item, and nothing else.
  pub one_leaves_well : (c : CampaignValue) (x : ℕ × Market) → IsMarketOf w n x.0 x.1 → IsSteady w c
      → LeavesWell IsSteady (moves_only most_amount Stocked (Item x.0)) w c (after_market_restock n c x)
  one_leaves_well c x of steady = let (r, here) = (steady.known.regions n).1 there in market_leaves_well w c n x.0 x.1 r here of.0 of.1 steady

  all_leave_well : (xs : List (ℕ × Market)) → EachEntry (IsMarketOf w n) xs → (c : CampaignValue) → IsSteady w c
      → LeavesWell IsSteady (stocking_bound xs) w c (after_restock n c xs)
  all_leave_well [] each c steady = well_unchanged (stocking_bound []) w c steady
  all_leave_well (x ∷ xs) each c steady =
      let one = one_leaves_well c x each.0 steady in
      both_leave_well (moves_only most_amount Stocked (Item x.0)) (stocking_bound xs) w c (after_market_restock n c x) (after_restock n c (x ∷ xs)) one
      (all_leave_well xs each.1 (after_market_restock n c x) one.leaves_it)

-- the empty map of markets lists no market
pub none_there : entries (empty {X = Market} {R = nat_cmp}) ≡ []
none_there = entries-empty

-- `w` is a world (`IsWorld`), and `n` the number of a region, which it may have or not
module _ (w : WorldValue) (world : IsWorld w) (n : ℕ) where
  -- the markets of a region that the world has are those of its plan, which is what the world says of it (`RegionPlan`)
  pub markets_there : (p : RegionPlan) → get w.regions n ≡ Some p → markets_of w n ≡ p.markets
  markets_there p is = ap (λ o. option_map_or (λ (q : RegionPlan). q.markets) o empty) is

  -- where the world has no such region, restocking changes nothing
  pub none_of : (c : CampaignValue) → get w.regions n ≡ None → after_restock n c (entries (markets_of w n)) ≡ c
  none_of c is =
      ap (λ o. after_restock n c (entries (option_map_or (λ (q : RegionPlan). q.markets) o empty))) is
      ∙ ap (after_restock n c) none_there

  -- each market of a region of the world, listed with its item, is the market for this item, and keeps the rules of
  -- markets
  pub markets_are : (p : RegionPlan) → get w.regions n ≡ Some p → EachEntry (IsMarketOf w n) (entries p.markets)
  markets_are p is =
      each-from_every (IsMarketOf w n) p.markets
      (λ i m at. (ap (λ o. option_and_then (λ (q : RegionPlan). get q.markets i) o) is ∙ at, (world.regions n p is).markets i m at))

  -- Restocking a region keeps a steady campaign steady and of the same month, and its books balanced. It books at most
  -- 999,999,999 of each item as Stocked, and nothing else.
  pub restocked_leaves_well : (c : CampaignValue) → IsSteady w c
      → LeavesWell IsSteady (stocks_by most_amount) w c (after_restock n c (entries (markets_of w n)))
  restocked_leaves_well c steady = by_plan (get w.regions n) refl
    where
      by_plan : (o : Option RegionPlan) → get w.regions n ≡ o
          → LeavesWell IsSteady (stocks_by most_amount) w c (after_restock n c (entries (option_map_or (λ (p : RegionPlan). p.markets) o empty)))
      by_plan None is =
          subst (λ es. LeavesWell IsSteady (stocks_by most_amount) w c (after_restock n c es)) (sym none_there)
          (well_unchanged (stocks_by most_amount) w c steady)
      by_plan (Some p) is =
          well_within (stocking_bound (entries p.markets)) (stocks_by most_amount) w c (after_restock n c (entries p.markets)) (stocks_little (entries p.markets) (sorted p.markets))
          (all_leave_well w n (p, is) (entries p.markets) (markets_are p is) c steady)

market_restock_keeps_units : (n : ℕ) (c : CampaignValue) (x : ℕ × Market) → (after_market_restock n c x).units ≡ c.units
unfolding after_market_restock
market_restock_keeps_units n c x = refl

-- new goods of markets change no unit
pub restocked_keeps : (n : ℕ) (c : CampaignValue) (xs : List (ℕ × Market)) → (after_restock n c xs).units ≡ c.units
restocked_keeps n c [] = refl
restocked_keeps n c (x ∷ xs) = restocked_keeps n (after_market_restock n c x) xs ∙ market_restock_keeps_units n c x

-- ---- what the code books and marks

-- the new goods of a market are at most 999,999,999, if its limit is
pub restock_small : (m : Market) (stock : ℕ) → m.limit ≤ most_amount → restock m stock ≤ most_amount
restock_small m stock l = omega (arith, l)

-- if the books have room to move Stocked of an item alone by 999,999,999, this one amount of theirs has room for that
pub room_alone : (c : CampaignValue) (i : ℕ) → HaveRoom (moves_only most_amount Stocked (Item i)) c
    → HasRoom most_amount (amount_in c.books Stocked (Item i))
room_alone c i room =
    subst (λ b. HasRoom (if b then most_amount else 0) (amount_in c.books Stocked (Item i))) (same_number (amount_number Stocked (Item i))) (room Stocked (Item i))

-- books with room for the new goods of some markets have room for those of the first one
pub room_for_market : (x : ℕ × Market) (xs : List (ℕ × Market)) (c : CampaignValue)
    → HaveRoom (stocking_bound (x ∷ xs)) c → HaveRoom (moves_only most_amount Stocked (Item x.0)) c
room_for_market x xs c room =
    room_less (moves_only most_amount Stocked (Item x.0)) (stocking_bound (x ∷ xs)) c (λ e t. omega arith) room

-- If the books of a steady campaign have room for the new goods of some markets, they still have it for the others
-- once the first got its own. The first is a market of region `n`, which the world has (`IsMarketOf`).
pub room_for_later_markets : (w : WorldValue) (n : ℕ) → HasValue w.regions n
    → (x : ℕ × Market) (xs : List (ℕ × Market)) (c : CampaignValue) → IsMarketOf w n x.0 x.1 → IsSteady w c
    → HaveRoom (stocking_bound (x ∷ xs)) c → HaveRoom (stocking_bound xs) (after_market_restock n c x)
room_for_later_markets w n there x xs c of steady room =
    room_for_second (moves_only most_amount Stocked (Item x.0)) (stocking_bound xs) w c (after_market_restock n c x)
    (one_leaves_well w n there c x of steady) room

-- Setting the stock of item `i` in region `n` to `stock` + `more` makes d of c. Booking `more` of it as Stocked makes e
-- of d. Both, with their marks, mark all that changes (`MarksChanges`).
pub market_marks : (stock more n i : ℕ) (c d e : MarkedCampaign) → d.value ≡ with_stock c.value n i (stock + more)
    → MarksStock c n i (stock + more) d.marks
    → e.value ≡ with_booking d.value Stocked (Item i) (pos more) → e.marks ≡ mark_amount d Stocked (Item i)
    → MarksChanges c e
market_marks stock more n i c d e d_is d_marks e_is e_marks =
    booked_marks c d e Stocked (Item i) (pos more) (marks_by c d _ d_is refl (marks-stock c n i (stock + more) d.marks d_marks)) e_is e_marks
