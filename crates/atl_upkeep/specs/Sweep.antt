-- The sweep at the end of a month: units without men are removed, and factions without units are gone.
-- See docs/RULES.md, "Sweep".
use Rattle.std.specs.Prelude.{◌≡◌, ◌≤◌, ◌+◌, ◌-◌, ◌==◌, ◌&&◌, not, min, ℕ, pos, neg_ℤ, nat_lt, Bool, true, false, List, [], ◌∷◌, fold, Some, None, if◌then◌else◌}
use Rattle.std.specs.FinMap.{entries, get}
use Rattle.std.specs.Option.{option_map_or}
use Rattle.atl_world.specs.Worlds.{WorldValue}
use Rattle.atl_world.specs.Sums.{numbers_where}
use Rattle.atl_records.specs.Books.{entry_index, thing_index}
use Rattle.atl_records.specs.declared.books.BooksEntry.TheVariants.{Lost}
use Rattle.atl_records.specs.declared.books.Thing.{Thing}
use Rattle.atl_records.specs.declared.books.Thing.TheVariants.{Item, Money, People}
use Rattle.atl_records.specs.declared.records.Unit.{Unit}
use Rattle.atl_world.specs.Every.{Every}
use Rattle.atl_records.specs.Holdings.{HoldingValue, amount_of}
use Rattle.atl_records.specs.Limits.{holding_limit}
use Rattle.atl_campaign.specs.Good.{HaveMen, IsSteady, UnitlessAreGone}
use Rattle.atl_campaign.specs.Owners.{first_or_zero, without_unit}
use Rattle.atl_campaign.specs.Campaign.{CampaignValue, active, numbers_of_faction, with_booking, with_gone, with_item, with_money}
use Rattle.atl_phase.specs.Month.{MonthValue}
use Rattle.atl_phase.specs.Meaning.{BookBound, Frame, most_moved}
use Rattle.atl_phase.specs.NoWorse.{IsNoWorse}
use Rattle.atl_phase.specs.PhaseSpecs.{PhaseSpec}
use Rattle.atl_phase.specs.There.{at_unit}

-- ---- who gets what a unit leaves

-- whether a unit can receive for a faction in a region: it is of the faction, in the region, and has men
abbrev pub receives : (region faction : ℕ) → Unit → Bool
receives region faction v = (v.region == region) && ((v.faction == faction) && nat_lt 0 v.holding.men)

-- the number of the lowest-numbered unit with men of a faction in a region; 0 where there is none
abbrev pub receiver : CampaignValue → (region faction : ℕ) → ℕ
receiver c region faction = first_or_zero (numbers_where (receives region faction) c.units)

-- ---- what it gets, up to its room

-- a campaign in which `amount` of a thing is booked as lost
abbrev pub with_lost : CampaignValue → Thing → ℕ → CampaignValue
with_lost c t amount = with_booking c Lost t (neg_ℤ (pos amount))

-- how much more of a thing a unit has room for, given with its number, and 0 where it isn't there; `have` tells how
-- much of the thing a unit holds
abbrev pub room_at : CampaignValue → (number : ℕ) → (have : HoldingValue → ℕ) → ℕ
room_at c number have = option_map_or (λ u. holding_limit - have u.holding) (get c.units number) 0

-- A campaign after money went to unit `to`, up to its room; the rest is booked as lost, all of it where the unit isn't
-- there. The unit that leaves the money still has it, and is removed later (`after_sweeping_unit`).
unfoldable pub after_passing_money : CampaignValue → (to amount : ℕ) → CampaignValue
after_passing_money c to amount =
    let taken = min amount (room_at c to (λ h. h.money)) in
    let given = at_unit c to (λ v. with_money c to (v.holding.money + taken)) in
    with_lost given Money (amount - taken)

-- A campaign after an amount of an item went to unit `to`, up to its room; the rest is booked as lost, all of it where
-- the unit isn't there. The unit that leaves the item still has it, and is removed later (`after_sweeping_unit`).
unfoldable pub after_passing_item : ℕ → CampaignValue → ℕ × ℕ → CampaignValue
after_passing_item to c (item, amount) =
    let taken = min amount (room_at c to (λ h. amount_of h.items item)) in
    let given = at_unit c to (λ v. with_item c to item (amount_of v.holding.items item + taken)) in
    with_lost given (Item item) (amount - taken)

-- ---- units without men

-- A campaign after the money and then each item that unit `u` holds went to unit `to`, up to its room; the rest is
-- booked as lost. Unit `u` still has all of it, and is removed next (`after_sweeping_unit`).
abbrev pub after_passing_all : CampaignValue → ℕ → Unit → CampaignValue
after_passing_all c to u = fold (after_passing_item to) (after_passing_money c to u.holding.money) (entries u.holding.items)

-- A campaign after unit `n` passed its money and items to its receiver (`after_passing_all`), or lost them where there
-- is none, and was removed (`without_unit`); unchanged where the unit isn't there or has men.
unfoldable pub after_sweeping_unit : CampaignValue → ℕ → CampaignValue
after_sweeping_unit c n = at_unit c n (λ u.
    if u.holding.men == 0 then without_unit (after_passing_all c (receiver c u.region u.faction) u) n
    else c)

-- the numbers of the units without men, sorted
abbrev pub menless_units : CampaignValue → List ℕ
menless_units c = numbers_where (λ u. u.holding.men == 0) c.units

-- ---- factions without units

-- whether a list has no number
abbrev pub is_empty : List ℕ → Bool
is_empty [] = true
is_empty (n ∷ ns) = false

-- a campaign after faction `n` was set to gone; unchanged where it isn't there or has a unit
abbrev pub after_sweeping_faction : CampaignValue → ℕ → CampaignValue
after_sweeping_faction c n = if is_empty (numbers_of_faction n c.units) then with_gone c n else c

-- ---- the phase

-- A campaign after the sweep. The units without men pass on or lose what they have, and are removed. Then the factions
-- without units are gone. Both are taken in the order of their numbers.
abbrev pub sweep : CampaignValue → CampaignValue
sweep c =
    let swept = fold after_sweeping_unit c (menless_units c) in
    fold after_sweeping_faction swept (active swept)

-- the meaning of the sweep as a phase: the campaign after it, and the month as it was, without an event
abbrev pub sweep_meaning : WorldValue → CampaignValue → MonthValue → CampaignValue × MonthValue
sweep_meaning w c m = (sweep c, m)

-- the bound on what the sweep books: Lost of money and of each item by at most `most`, nothing else
abbrev pub loses_by : ℕ → BookBound
loses_by most e t = if (entry_index e == entry_index Lost) && not (thing_index t == thing_index People) then most else 0

-- what holds of a campaign after the sweep: it is steady, each unit has men, and each faction without units is gone
pub record IsSwept (w : WorldValue) (c : CampaignValue) : Type 0 where
  pub steady : IsSteady w c
  pub men : HaveMen c
  pub gone : UnitlessAreGone c

-- a unit is no worse off, and its men and their days are as they were
pub record IsKept (before after : Unit) : Type 0 where
  -- the unit keeps faction, region, structure, name and guard flag, and has no less of anything (`IsNoWorse`)
  pub no_worse : IsNoWorse before after
  pub men : after.holding.men ≡ before.holding.men
  pub days : after.holding.days ≡ before.holding.days

-- what the sweep makes of unit `u`, which had this number before it
pub record IsSweptUnit (after : CampaignValue) (number : ℕ) (u : Unit) : Type 0 where
  -- a unit with men is still there, no worse off, with its men and their days as they were
  pub kept : 1 ≤ u.holding.men → (v : Unit) × (get after.units number ≡ Some v) × IsKept u v
  -- a unit without men is removed
  pub removed : u.holding.men ≡ 0 → get after.units number ≡ None

-- What the sweep leaves alone: each unit with men is still there and no worse off. Its men and their days are as they
-- were. Each unit without men is removed.
abbrev pub sweep_keeps : Frame
sweep_keeps w m before after = Every (IsSweptUnit after) before.units

-- The specification of the sweep. It books Lost of money and of each item, each by less than 10^14. It takes nothing
-- from units with men, and removes the others.
abbrev pub sweep_spec : PhaseSpec
sweep_spec = record {
  meaning = sweep_meaning;
  book_bound = loses_by most_moved;
  moved = record { money = Lost ∷ []; people = []; items = Lost ∷ [] };
  keeps = sweep_keeps;
}
