-- The phase of upkeep: a campaign after each unit paid, and its men who aren't paid for starved. A holding is what a
-- unit has: name, men, money, guard flag, items and days. See docs/RULES.md, "Upkeep".
use Rattle.std.specs.Prelude.{◌≡◌, ℕ, pos, neg_ℤ, ◌-◌, ◌==◌, not, ◌++◌, Bool, List, map, filter, fold, Some, if◌then◌else◌}
use Rattle.std.specs.FinMap.{entries, get, keys}
use Rattle.atl_world.specs.Worlds.{WorldValue}
use Rattle.atl_records.specs.declared.books.BooksEntry.TheVariants.{Starved, Upkeep}
use Rattle.atl_records.specs.declared.books.Thing.TheVariants.{Money, People}
use Rattle.atl_records.specs.declared.event.Event.{Event}
use Rattle.atl_records.specs.declared.event.EventVerb.TheVariants as verb
use Rattle.atl_records.specs.declared.event.Outcome.TheVariants as outcome
use Rattle.atl_records.specs.declared.records.Unit.{Unit}
use Rattle.atl_world.specs.Every.{Every}
use Rattle.atl_records.specs.Holdings.{HoldingValue}
use Rattle.atl_campaign.specs.Lending.{with_holding_at}
use Rattle.atl_campaign.specs.Campaign.{CampaignValue, with_booking}
use Rattle.atl_phase.specs.Month.{MonthValue}
use Rattle.atl_phase.specs.Meaning.{BookBound, Frame, both_move, moves_only}
use Rattle.atl_shares.specs.declared.upkeep_sharing.UpkeepInput.{UpkeepInput}
use Rattle.atl_shares.specs.declared.upkeep_sharing.UpkeepResult.{UpkeepResult}
use Rattle.atl_shares.specs.UpkeepSharing.{peers_of, upkeep_result_among, upkeep_results_of}
use Rattle.atl_phase.specs.PhaseSpecs.{PhaseSpec, books_money_and_people}
use Rattle.atl_phase.specs.There.{at_unit}
use Rattle.atl_instant.specs.Amounts.{amounts_for}
use Rattle.atl_instant.specs.Transfer.{going_of}

-- ---- the upkeep of one unit

-- a holding with `left` of its men, and of each skill its days times `left` divided by the men before, rounded down;
-- 0 days aren't listed; unchanged where all men are left
abbrev pub with_men_left : ℕ → HoldingValue → HoldingValue
with_men_left left h =
    if left == h.men then h
    else record h { men = left; days = amounts_for (going_of left h) (keys h.days) }

-- a holding after the upkeep of its unit: without the money paid, and with the men who are left and their part of the
-- days
abbrev pub after_upkeep : UpkeepResult → HoldingValue → HoldingValue
after_upkeep s h = record (with_men_left (h.men - s.starved) h) { money = h.money - s.paid }

-- a campaign after the upkeep of one unit: what it paid is booked as Upkeep, and who starved as Starved; unchanged
-- where the unit isn't there
unfoldable pub upkeep_at : CampaignValue → UpkeepResult → CampaignValue
upkeep_at c s = at_unit c s.unit (λ u.
    let held = with_holding_at c s.unit (after_upkeep s u.holding) (Some u) in
    let paid = with_booking held Upkeep Money (neg_ℤ (pos s.paid)) in
    with_booking paid Starved People (neg_ℤ (pos s.starved)))

-- ---- all units

-- what upkeep reads of a unit, given with its number: the number, region, faction, men and money
abbrev pub upkeep_input_of : ℕ × Unit → UpkeepInput
upkeep_input_of (n, u) = record { unit = n; region = u.region; faction = u.faction; men = u.holding.men; money = u.holding.money }

-- what upkeep reads of all units, in the order of their numbers
abbrev pub upkeep_inputs_of : CampaignValue → List UpkeepInput
upkeep_inputs_of c = map upkeep_input_of (entries c.units)

-- what upkeep takes from each unit of a campaign, in the order of their numbers
abbrev pub upkeep_results : WorldValue → CampaignValue → List UpkeepResult
upkeep_results w c = upkeep_results_of w.rules.maintenance (upkeep_inputs_of c)

-- a campaign after the upkeep of some units, one after another in the order of the list
abbrev pub upkeep : CampaignValue → List UpkeepResult → CampaignValue
upkeep c list = fold upkeep_at c list

-- whether some men of a unit starve
abbrev pub starves : UpkeepResult → Bool
starves s = not (s.starved == 0)

-- the event Starved of a unit, on line 0, with the number of its men who starved
abbrev pub starved_event : UpkeepResult → Event
starved_event s = record { faction = s.faction; unit = s.unit; line = 0; verb = verb.Upkeep; outcome = outcome.Starved s.starved }

-- the meaning of upkeep as a phase: the campaign after it, and the month with an event Starved for each unit whose men
-- starve, in the order of the units' numbers
abbrev pub upkeep_meaning : WorldValue → CampaignValue → MonthValue → CampaignValue × MonthValue
upkeep_meaning w c m =
    (upkeep c (upkeep_results w c), record m { events = m.events ++ map starved_event (filter starves (upkeep_results w c)) })

-- ---- what it moves, and what it keeps

-- the bound on what upkeep books: Upkeep of money and Starved of people, each by at most `most`, nothing else
abbrev pub takes_up_to : ℕ → BookBound
takes_up_to most = both_move (moves_only most Upkeep Money) (moves_only most Starved People)

-- what upkeep leaves alone: each unit is there, changed only by its upkeep among its faction's units in its region
abbrev pub upkeep_keeps : Frame
upkeep_keeps w m before after =
    Every (λ n u.
    let peers = peers_of u.region u.faction (upkeep_inputs_of before) in
    let upkeep_result = upkeep_result_among w.rules.maintenance peers (upkeep_input_of (n, u)) in
    get after.units n ≡ Some (record u { holding = after_upkeep upkeep_result u.holding }))
    before.units

-- The specification of upkeep. Its effect is `upkeep_meaning`. It moves the money of the entry upkeep and the people of
-- the entry starved, each by less than 10^14, and no other amount of the books. Each unit is still there, changed only
-- by its own upkeep (`upkeep_keeps`).
abbrev pub upkeep_spec : PhaseSpec
upkeep_spec = books_money_and_people Upkeep Starved upkeep_meaning upkeep_keeps
