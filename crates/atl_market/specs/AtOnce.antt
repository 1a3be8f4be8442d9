-- What it means that a phase changes all units and regions at once, each by what it was and the shares.
-- See docs/RULES.md, "Pots".
use Rattle.std.specs.Prelude.{◌≡◌, ◌==◌, ◌&&◌, ℕ, Bool, false, List, map, filter, sum, Option, Some}
use Rattle.std.specs.Option.{option_map_or}
use Rattle.std.specs.Ordering.{nat_cmp}
use Rattle.std.specs.FinMap.{FinMap, entries, get}
use Rattle.atl_world.specs.Worlds.{WorldValue}
use Rattle.atl_records.specs.declared.records.Region.{Region}
use Rattle.atl_records.specs.declared.records.Unit.{Unit}
use Rattle.atl_records.specs.Holdings.{amount_of}
use Rattle.atl_campaign.specs.Campaign.{CampaignValue}
use Rattle.atl_phase.specs.PhaseOrders.{Task}
use Rattle.atl_pots.specs.Pots.{asks_for}
use Rattle.atl_market.specs.PotPhase.{PotMeaning, after_sharing, given_by}

-- whether a unit is there (Some) and is in the region with the given number
abbrev pub is_in_region : ℕ → Option Unit → Bool
is_in_region region unit = option_map_or (λ u. u.region == region) unit false

-- the sum of what those of `units` that are in a region got; `given` has the amounts by unit
abbrev pub given_in : FinMap nat_cmp ℕ → FinMap nat_cmp Unit → (region : ℕ) → ℕ
given_in given units region = sum (map (λ e. e.1) (filter (λ e. is_in_region region (get units e.0)) (entries given)))

-- a function that says what a unit is after it got its share
abbrev pub UnitChange : Type 0
UnitChange = Unit → (share : ℕ) → Unit

-- a function that says what a region is after it gave an amount to its units
abbrev pub RegionChange : Type 0
RegionChange = Region → (given : ℕ) → Region

-- a unit after it got its share by the change `gets`; the unit as it was where it got none
abbrev pub paid_unit : UnitChange → Unit → Option ℕ → Unit
paid_unit gets u share = option_map_or (gets u) share u

-- The phase `p`, which begins in `c` with the orders `os`, pays all units at once. `gets n` makes of unit `n` and its
-- share the unit after the phase. `gives` makes of each region and the sum of what its units got the region after it.
pub record PaysAtOnce (p : PotMeaning) (w : WorldValue) (gets : ℕ → UnitChange) (gives : RegionChange)
    (c : CampaignValue) (os : List Task) : Type 0 where
  -- each unit is what `gets` makes of it and its share; a unit without a share is as it was
  pub units :
      (n : ℕ) (u : Unit) → get c.units n ≡ Some u
      → get (after_sharing p w c os).units n ≡ Some (paid_unit (gets n) u (get (given_by p w c os) n))
  -- each region is what `gives` makes of it and of all that its units got
  pub regions :
      (r : ℕ) (q : Region) → get c.regions r ≡ Some q
      → get (after_sharing p w c os).regions r ≡ Some (gives q (given_in (given_by p w c os) c.units r))

-- the change of a region that stays as it is, whatever its units got
abbrev pub unchanged_region : RegionChange
unchanged_region q share = q

-- ---- pots by region and item: each changes what the region has of the item

-- The sum of what those of `units` got that are in a region and ask for an item. `asked_item` gives, by the number of a
-- unit, that of the item that it asks for, if any; `given` has the amounts by unit.
abbrev pub given_of_item : (asked_item : ℕ → Option ℕ) → FinMap nat_cmp ℕ → FinMap nat_cmp Unit → (region item : ℕ) → ℕ
given_of_item asked_item given units region item =
    sum (map (λ e. e.1) (filter (λ e. is_in_region region (get units e.0) && asks_for item (asked_item e.0)) (entries given)))

-- The region `after` is there, and is `q` with only its stocks changed. `becomes` makes of each item's old stock, and
-- of how much of the item was `given`, the new stock.
pub record HasNewStocks (q : Region) (becomes : (stock given : ℕ) → ℕ) (given : (item : ℕ) → ℕ)
    (after : Option Region) : Type 0 where
  -- how many pieces of each item the region `after` has in stock, by the number of the item
  pub stocks : FinMap nat_cmp ℕ
  -- the region `after` is there, and is `q` with `stocks` in the place of its own stocks
  pub region : after ≡ Some (record q { stocks = stocks })
  -- `becomes` makes of each item's old stock, and of the amount of the item that was given, the new stock
  pub amounts : (item : ℕ) → amount_of stocks item ≡ becomes (amount_of q.stocks item) (given item)

-- The phase `p` with pots of items, which begins in `c` with the orders `os`, pays all units at once. `asked_item n` is
-- the number of the item that unit `n` asks for, if any. `gets n` makes of unit `n` and its share the unit after it.
-- `becomes` makes of each stock of a region, and of the sum of its units' shares of the item, the stock after it.
pub record PaysItemsAtOnce (p : PotMeaning) (w : WorldValue) (asked_item : ℕ → Option ℕ) (gets : ℕ → UnitChange)
    (becomes : (stock given : ℕ) → ℕ) (c : CampaignValue) (os : List Task) : Type 0 where
  -- each unit is what `gets` makes of it and its share; a unit without a share is as it was
  pub units :
      (n : ℕ) (u : Unit) → get c.units n ≡ Some u
      → get (after_sharing p w c os).units n ≡ Some (paid_unit (gets n) u (get (given_by p w c os) n))
  -- Of each region the stocks alone change: `becomes` makes of each old stock, and of all that units in the region got
  -- of the item, the new stock.
  pub regions :
      (r : ℕ) (q : Region) → get c.regions r ≡ Some q
      → HasNewStocks q becomes (given_of_item asked_item (given_by p w c os) c.units r) (get (after_sharing p w c os).regions r)
