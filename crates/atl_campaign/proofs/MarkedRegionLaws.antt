-- Laws of AreRegions, the regions' invariant: there is room for all marks, and a marked stock's region is in `markets`.
use Rattle.std.proofs.Common.{◌≡◌, ℕ, Some, true, refl, sym, ap, subst, ◌∙◌}
use Rattle.std.specs.Prelude.{is_some}
use Rattle.std.specs.Ordering.{nat_cmp}
use Rattle.std.specs.FinMap.{FinMap, get, get-empty, insert, len, empty}
use Rattle.std.specs.FinSet as set
use Rattle.std.proofs.lemmas.Bool.{false≢true}
use Rattle.atl_world.specs.RoomySets.{RoomySet}
use Rattle.atl_world.specs.Tracking.{marked_with}
use Rattle.atl_world.proofs.TrackLaws.{Room-empty, Room-of, Room-over, Room-put, Room-unmarked}
use Rattle.atl_records.specs.declared.records.Region.{Region}
use Rattle.atl_campaign.specs.Marks.{AreStocksWithin, MarkedThings}
use Rattle.atl_campaign.specs.Regions.{AreRegions}
use Rattle.atl_campaign.proofs.UnitLaws.{within_both, within_more, within_things}

-- an empty dirty set with room for this many marks
abbrev nothing_marked : ℕ → RoomySet
nothing_marked room = record { numbers = set.empty; room = room }

abbrev cleared : RoomySet → RoomySet
cleared marks = record marks { numbers = set.empty }

-- the dirty set with region n added, if there is one
abbrev with_region_marked : FinMap nat_cmp Region → RoomySet → ℕ → RoomySet
with_region_marked regions marks n = record marks { numbers = marked_with marks.numbers n (get regions n) }

within-none : AreStocksWithin set.empty set.empty empty
within-none = record { stocks_within = λ q e. e; items_within = nothing }
  where
    nothing : (q : ℕ) → is_some (get {X = FinMap nat_cmp (Prim.Unit {0})} {R = nat_cmp} empty q) ≡ true
        → set.contains {R = nat_cmp} set.empty q ≡ true
    nothing q e = absurd (false≢true (sym (ap is_some (get-empty nat_cmp q)) ∙ e))

-- the invariant holds of no regions, with nothing marked and no room for marks
pub AreRegions-none : AreRegions empty (nothing_marked 0) (nothing_marked 0) (nothing_marked 0) empty
AreRegions-none =
    record { within = within-none; rows_fit = Room-empty Region; markets_fit = Room-empty Region; stocks_fit = Room-empty Region }

-- the invariant holds of any regions with nothing marked, and room to mark each of them
pub AreRegions-of : (regions : FinMap nat_cmp Region)
    → AreRegions regions (nothing_marked (len regions)) (nothing_marked (len regions)) (nothing_marked (len regions)) empty
AreRegions-of regions =
    record { within = within-none; rows_fit = Room-of regions; markets_fit = Room-of regions; stocks_fit = Room-of regions }

-- `rows` has the regions whose rows are marked, and `markets` those of which a stock is. Of these, `stocks` has those
-- all of whose stocks are marked, and `items` the single stocks.
module _ (regions : FinMap nat_cmp Region) (rows markets stocks : RoomySet) (items : MarkedThings) (h : AreRegions regions rows markets stocks items) where
  -- the invariant still holds once all marks are cleared
  pub AreRegions-without_marks : AreRegions regions (cleared rows) (cleared markets) (cleared stocks) empty
  AreRegions-without_marks = record {
    within = within-none;
    rows_fit = Room-unmarked regions rows.numbers rows.room h.rows_fit;
    markets_fit = Room-unmarked regions markets.numbers markets.room h.markets_fit;
    stocks_fit = Room-unmarked regions stocks.numbers stocks.room h.stocks_fit;
  }

  -- the invariant still holds once the row of region n is marked, if it is there
  pub AreRegions-row : (n : ℕ) → AreRegions regions (with_region_marked regions rows n) markets stocks items
  AreRegions-row n =
      record { within = h.within; rows_fit = Room-put regions rows.numbers rows.room n (get regions n) refl h.rows_fit; markets_fit = h.markets_fit; stocks_fit = h.stocks_fit }

  module _ (n : ℕ) (r : Region) (is : get regions n ≡ Some r) where
    -- the invariant still holds once region n, which is there, is put into `markets`, and the single marks on its
    -- stocks are those in `group`
    pub AreRegions-item : (group : FinMap nat_cmp (Prim.Unit {0}))
        → AreRegions regions rows (with_region_marked regions markets n) stocks (insert items n group)
    AreRegions-item group = record {
      within = subst (λ o. AreStocksWithin (marked_with markets.numbers n o) stocks.numbers (insert items n group)) (sym is) (record {
        stocks_within = within_more _ markets.numbers n h.within.stocks_within;
        items_within = within_things items markets.numbers n group h.within.items_within;
      });
      rows_fit = h.rows_fit;
      markets_fit = Room-put regions markets.numbers markets.room n (get regions n) refl h.markets_fit;
      stocks_fit = h.stocks_fit;
    }

    -- the invariant still holds once region n, which is there, is put into `markets`, and all its stocks are marked
    pub AreRegions-stocks : AreRegions regions rows (with_region_marked regions markets n) (with_region_marked regions stocks n) items
    AreRegions-stocks = record {
      within = subst (λ o. AreStocksWithin (marked_with markets.numbers n o) (marked_with stocks.numbers n o) items) (sym is) (record {
        stocks_within = within_both stocks.numbers markets.numbers n h.within.stocks_within;
        items_within = within_more _ markets.numbers n h.within.items_within;
      });
      rows_fit = h.rows_fit;
      markets_fit = Room-put regions markets.numbers markets.room n (get regions n) refl h.markets_fit;
      stocks_fit = Room-put regions stocks.numbers stocks.room n (get regions n) refl h.stocks_fit;
    }

  -- the invariant still holds once a region that is there is replaced by another one under its number
  pub AreRegions-over : (n : ℕ) (r s : Region) → get regions n ≡ Some r
      → AreRegions (insert regions n s) rows markets stocks items
  AreRegions-over n r s is = record {
    within = h.within;
    rows_fit = Room-over regions rows.numbers rows.room n s (ap is_some is) h.rows_fit;
    markets_fit = Room-over regions markets.numbers markets.room n s (ap is_some is) h.markets_fit;
    stocks_fit = Room-over regions stocks.numbers stocks.room n s (ap is_some is) h.stocks_fit;
  }
