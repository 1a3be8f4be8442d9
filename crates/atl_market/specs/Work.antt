-- WORK: units share the work places of their region's terrain, and each place pays the wage. See docs/RULES.md, "Work".
use Rattle.std.specs.Prelude.{◌+◌, ◌-◌, ◌*◌, ◌/◌, ◌==◌, ◌&&◌, ◌++◌, ℕ, pos, Bool, true, false, List, [], ◌∷◌, map, filter, min, nat_lt, Option, not}
use Rattle.std.specs.Option.{option_map_or}
use Rattle.std.specs.FinMap.{entries}
use Rattle.atl_world.specs.Worlds.{WorldValue}
use Rattle.atl_world.specs.declared.world.Terrain.{Terrain}
use Rattle.atl_world.specs.ByNumber.{terrain_of}
use Rattle.atl_lines.specs.declared.order.Operands.TheVariants.{Nothing}
use Rattle.atl_world.specs.declared.verb.Verb.{Verb}
use Rattle.atl_world.specs.declared.verb.Verb.TheVariants as verbs
use Rattle.atl_lines.specs.Orders.{order_of}
use Rattle.atl_records.specs.declared.books.BooksEntry.TheVariants.{Wages}
use Rattle.atl_records.specs.declared.books.Thing.TheVariants.{Money}
use Rattle.atl_records.specs.declared.event.EventFault.{EventFault}
use Rattle.atl_records.specs.declared.event.EventFault.TheVariants.{NoMen}
use Rattle.atl_records.specs.declared.records.Unit.{Unit}
use Rattle.atl_records.specs.Limits.{holding_limit}
use Rattle.atl_campaign.specs.Campaign.{CampaignValue, with_booking, with_money}
use Rattle.atl_phase.specs.Month.{MonthValue}
use Rattle.atl_phase.specs.Meaning.{BookBound, Meaning, moves_only}
use Rattle.atl_phase.specs.PhaseOrders.{Task, is_month_long, key_of, orders_by_unit, sorted_by}
use Rattle.atl_phase.specs.NoWorse.{all_no_worse}
use Rattle.atl_phase.specs.declared.phase_order.Arrangement.TheVariants.{ByUnit}
use Rattle.atl_phase.specs.Outcomes.{first_fault}
use Rattle.atl_phase.specs.There.{at_unit}
use Rattle.atl_pots.specs.Pots.{pot_shares}
use Rattle.atl_market.specs.Unordered.{has_own_order}
use Rattle.atl_market.specs.PotPhase.{PotMeaning, pots_meaning}
use Rattle.atl_phase.specs.PhaseSpecs.{PhaseSpec, books_money}

-- ---- who works

-- an order of WORK for a unit that has none: on line 0, as if its faction had written it
abbrev pub idle_task : (unit faction : ℕ) → Task
idle_task unit faction = record { faction = faction; unit = unit; line = 0; index = 0; order_value = order_of verbs.Work Nothing }

-- whether a unit, with its number, has men and its own faction wrote none of the orders `ts` for it
abbrev pub is_idle : List Task → ℕ × Unit → Bool
is_idle ts (n, u) = nat_lt 0 u.holding.men && not (has_own_order ts n u)

-- an order of WORK for each unit with men for which its own faction wrote none of the orders `ts`, by unit number
abbrev pub idle_work : CampaignValue → List Task → List Task
idle_work c ts = map (λ e. idle_task e.0 e.1.faction) (filter (is_idle ts) (entries c.units))

-- whether a verb is WORK
abbrev pub is_work : Verb → Bool
is_work verbs.Work = true
is_work verb = false

-- the orders of WORK among some orders
abbrev pub written_work : List Task → List Task
written_work ts = filter (λ t. is_work t.order_value.verb) ts

-- The orders of the phase WORK, sorted by unit, line and faction. They are the orders of WORK that count, and one for
-- each unit with men for which its own faction wrote no month-long order that counts.
unfoldable pub work_orders : CampaignValue → MonthValue → List Task
work_orders c m =
    let month_long = orders_by_unit is_month_long m in
    sorted_by (key_of ByUnit) (written_work month_long ++ idle_work c month_long)

-- ---- what they earn

-- the wage of a region's terrain for one work place; 0 where there is no terrain
abbrev pub wage_at : WorldValue → ℕ → ℕ
wage_at w region = option_map_or (λ t. t.wage) (terrain_of w region) 0

-- how many work places a region's terrain has, which is its pot; 0 where there is no terrain
abbrev pub places_at : WorldValue → ℕ → ℕ
places_at w region = option_map_or (λ t. t.places) (terrain_of w region) 0

-- how many work places a unit wants: one for each man, as far as it has room for the wages; 0 without a terrain (None)
abbrev pub work_want : Unit → Option Terrain → ℕ
work_want u terrain =
    option_map_or (λ t. min u.holding.men ((holding_limit - u.holding.money) / t.wage)) terrain 0

-- the wages, in money, that this number of work places in a region pays; 0 where there is no terrain
abbrev pub wages_for : WorldValue → ℕ → ℕ → ℕ
wages_for w region places = places * wage_at w region

-- a campaign after a unit, by its number, if it is there, was paid for `places` work places, which is booked
unfoldable pub after_work : WorldValue → CampaignValue → ℕ × ℕ → CampaignValue
after_work w c (n, places) =
    at_unit c n (λ u.
    let wages = wages_for w u.region places in
    with_booking (with_money c n (u.holding.money + wages)) Wages Money (pos wages))

-- the fault of WORK other than NotYours, if there is one: NoMen, which only an order that was written can have
abbrev pub work_fault : Unit → Option EventFault
work_fault u = first_fault ((u.holding.men == 0, NoMen) ∷ [])

-- WORK as a phase with pots: each region's pot is its work places. The event says how much money was paid.
abbrev pub work_pots : PotMeaning
work_pots = record {
  fault = λ w u t. work_fault u;
  want = λ w u t. work_want u (terrain_of w u.region);
  grants = λ items w c wants. pot_shares (places_at w) wants c;
  event_number = λ w u places. wages_for w u.region places;
  paid = λ items. after_work;
}

-- the meaning of the phase WORK: the campaign and the month that it makes
abbrev pub work_meaning : Meaning
work_meaning = pots_meaning work_pots work_orders

-- the bound on what WORK books: Wages of money by at most `most`, nothing else
abbrev pub work_moves : ℕ → BookBound
work_moves most = moves_only most Wages Money

-- The specification of the phase WORK, which books only Wages of money, by less than 10^14. Each unit is there after
-- it, with the same faction, region, structure, name and guard flag, and no less men, money, items or days.
abbrev pub work_spec : PhaseSpec
work_spec = books_money Wages work_meaning all_no_worse
