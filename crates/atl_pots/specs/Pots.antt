-- What each unit gets of its region's pot, and the laws of it. In the laws `pot_of` gives the pot of a region by its
-- number. `wants` has, by unit, how much it wants of it. Unit order is by rising number. See docs/RULES.md, "Pots".
use Rattle.std.specs.Prelude.{◌≡◌, ◌≤◌, ◌==◌, ℕ, Bool, false, List, map, sum, min, unwrap_or, Option, Some, option_map}
use Rattle.std.specs.List.{flat_map, zip}
use Rattle.std.specs.Option.{option_map_or}
use Rattle.std.specs.Ordering.{nat_cmp}
use Rattle.std.specs.FinMap.{FinMap, entries, get, keys, from_entries, retain_keys}
use Rattle.atl_world.specs.Limits.{most_amount}
use Rattle.atl_world.specs.Every.{Every, HasValue}
use Rattle.atl_campaign.specs.Campaign.{CampaignValue}
use Rattle.atl_records.specs.declared.records.Unit.{Unit}
use Rattle.atl_shares.specs.Share.{shares}

-- the condition on a map of wants, by unit, that each want is at most 999,999,999 (`most_amount`)
abbrev pub AreWants : FinMap nat_cmp ℕ → Type 0
AreWants wants = Every (λ number want. want ≤ most_amount) wants

-- whether `asked`, the number of the pot that a unit asks for, is this pot's; false where it asks for none
abbrev pub asks_for : (pot : ℕ) → (asked : Option ℕ) → Bool
asks_for pot asked = option_map_or (λ other. other == pot) asked false

-- the wants, by unit, of the units that ask for a pot; `asked_by` has the number of the pot that each asks for, if any
abbrev pub wants_for : (asked_by : ℕ → Option ℕ) → FinMap nat_cmp ℕ → (pot : ℕ) → FinMap nat_cmp ℕ
wants_for asked_by wants pot = retain_keys wants (λ number. asks_for pot (asked_by number))

-- the region that a unit, by its number, is in; None where the unit isn't there
abbrev pub region_of_unit : FinMap nat_cmp Unit → ℕ → Option ℕ
region_of_unit units number = option_map (λ u. u.region) (get units number)

-- the wants, by unit, of the units in a region
abbrev pub wants_at : FinMap nat_cmp ℕ → FinMap nat_cmp Unit → ℕ → FinMap nat_cmp ℕ
wants_at wants units region = wants_for (region_of_unit units) wants region

-- the units of a region that have a want, in unit order
abbrev pub takers_in : FinMap nat_cmp ℕ → FinMap nat_cmp Unit → ℕ → List ℕ
takers_in wants units region = keys (wants_at wants units region)

-- the amounts that the map `wants` has, in unit order
abbrev pub amounts_of : FinMap nat_cmp ℕ → List ℕ
amounts_of wants = map (λ e. e.1) (entries wants)

-- the wants of a region's units that have one, in unit order
abbrev pub wants_in : FinMap nat_cmp ℕ → FinMap nat_cmp Unit → ℕ → List ℕ
wants_in wants units region = amounts_of (wants_at wants units region)

-- all units that have a want in `wants`, each with its share of one pot, in unit order
abbrev pub shares_of : (pot : ℕ) → FinMap nat_cmp ℕ → List (ℕ × ℕ)
shares_of pot wants = zip (keys wants) (shares pot (amounts_of wants))

-- a region's units that have a want, each with its share of the region's pot, in unit order; `pot_of` has each pot
abbrev pub shares_in : (ℕ → ℕ) → FinMap nat_cmp ℕ → FinMap nat_cmp Unit → ℕ → List (ℕ × ℕ)
shares_in pot_of wants units region = shares_of (pot_of region) (wants_at wants units region)

-- What each unit gets of the pot of its region, by unit. A unit without a want, or in no region of the campaign, isn't
-- in the map. `pot_of` has the pot of each region.
unfoldable pub pot_shares : (ℕ → ℕ) → FinMap nat_cmp ℕ → CampaignValue → FinMap nat_cmp ℕ
pot_shares pot_of wants c = from_entries (flat_map (shares_in pot_of wants c.units) (keys c.regions))

-- ---- laws

-- `pot_of` gives the pot of a region by its number; `wants` has how much each unit wants of it, by unit
module _ (pot_of : ℕ → ℕ) (wants : FinMap nat_cmp ℕ) (c : CampaignValue) where
  -- what a unit, by its number, gets of the pot of its region, if it has a share
  abbrev pub share_of : ℕ → Option ℕ
  share_of number = get (pot_shares pot_of wants c) number

  -- what a unit, by its number, gets of the pot of its region; 0 where it has no share
  abbrev pub amount_given : ℕ → ℕ
  amount_given number = unwrap_or (share_of number) 0

-- the law that only takers get shares: a unit with a share wants at least that much, and is in a region of the campaign
abbrev pub OnlyTakersGet : Type 0
OnlyTakersGet =
    (pot_of : ℕ → ℕ) (wants : FinMap nat_cmp ℕ) (c : CampaignValue) (number share : ℕ)
    → share_of pot_of wants c number ≡ Some share
    → (want : ℕ) × (u : Unit)
    × (get wants number ≡ Some want)
    × (share ≤ want)
    × (get c.units number ≡ Some u)
    × HasValue c.regions u.region

-- the law that each unit with a want that is in a region of the campaign, each taker, gets a share, of at most its want
abbrev pub EachTakerGets : Type 0
EachTakerGets =
    (pot_of : ℕ → ℕ) (wants : FinMap nat_cmp ℕ) (c : CampaignValue) (number want : ℕ) (u : Unit)
    → get wants number ≡ Some want
    → get c.units number ≡ Some u
    → HasValue c.regions u.region
    → (share : ℕ) × (share_of pot_of wants c number ≡ Some share) × (share ≤ want)

-- the law that in a region of the campaign units with a want get the shares of its pot by their wants, in unit order
abbrev pub SharesEachPot : Type 0
SharesEachPot =
    (pot_of : ℕ → ℕ) (wants : FinMap nat_cmp ℕ) (c : CampaignValue) (region : ℕ)
    → HasValue c.regions region
    → map (share_of pot_of wants c) (takers_in wants c.units region)
    ≡ map Some (shares (pot_of region) (wants_in wants c.units region))

-- the law that the units of a region of the campaign get its whole pot together, or all that they want if that is less
abbrev pub GivesEachPot : Type 0
GivesEachPot =
    (pot_of : ℕ → ℕ) (wants : FinMap nat_cmp ℕ) (c : CampaignValue) (region : ℕ)
    → HasValue c.regions region
    → sum (map (amount_given pot_of wants c) (takers_in wants c.units region))
    ≡ min (pot_of region) (sum (wants_in wants c.units region))

-- The law that the shares in a region follow from its pot, its units with a want and their wants alone: where two
-- campaigns (`c`, `other`) have the region, and there these are equal, the shares there are equal.
abbrev pub OtherRegionsDoNotCount : Type 0
OtherRegionsDoNotCount =
    (pot_of other_pots : ℕ → ℕ) (wants other_wants : FinMap nat_cmp ℕ) (c other : CampaignValue) (region : ℕ)
    → HasValue c.regions region
    → HasValue other.regions region
    → pot_of region ≡ other_pots region
    → takers_in wants c.units region ≡ takers_in other_wants other.units region
    → wants_in wants c.units region ≡ wants_in other_wants other.units region
    → map (share_of pot_of wants c) (takers_in wants c.units region)
    ≡ map (share_of other_pots other_wants other) (takers_in wants c.units region)
