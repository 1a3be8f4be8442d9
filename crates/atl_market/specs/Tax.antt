-- TAX: the units on guard share the money of their region. See docs/RULES.md, "Tax".
use Rattle.std.specs.Prelude.{◌+◌, ◌-◌, ◌*◌, ◌==◌, ℕ, Bool, true, false, min, Option, not, [], ◌∷◌}
use Rattle.std.specs.Option.{option_map_or}
use Rattle.std.specs.FinMap.{get}
use Rattle.atl_world.specs.Worlds.{WorldValue}
use Rattle.atl_world.specs.declared.verb.Verb.{Verb}
use Rattle.atl_world.specs.declared.verb.Verb.TheVariants as verbs
use Rattle.atl_records.specs.declared.event.EventFault.{EventFault}
use Rattle.atl_records.specs.declared.event.EventFault.TheVariants.{NoMen, NotGuarding}
use Rattle.atl_records.specs.declared.records.Unit.{Unit}
use Rattle.atl_records.specs.Limits.{holding_limit}
use Rattle.atl_campaign.specs.Campaign.{CampaignValue, with_money, with_region_money}
use Rattle.atl_phase.specs.Meaning.{Meaning}
use Rattle.atl_phase.specs.NoWorse.{all_no_worse}
use Rattle.atl_phase.specs.Outcomes.{first_fault}
use Rattle.atl_phase.specs.There.{at_region, at_unit}
use Rattle.atl_pots.specs.Pots.{pot_shares}
use Rattle.atl_market.specs.PotPhase.{PotMeaning, pots_by_orders}
use Rattle.atl_phase.specs.PhaseSpecs.{PhaseSpec, spec_without_books}

-- whether a verb is TAX
abbrev pub is_tax : Verb → Bool
is_tax verbs.Tax = true
is_tax verb = false

-- the first fault of TAX after NotYours, if there is one: NoMen, NotGuarding
abbrev pub tax_fault : Unit → Option EventFault
tax_fault u = first_fault ((u.holding.men == 0, NoMen) ∷ (not u.holding.guard, NotGuarding) ∷ [])

-- how much money a unit wants: `tax_per_man` for each man, at most its room for money
abbrev pub tax_want : WorldValue → Unit → ℕ
tax_want w u = min (u.holding.men * w.rules.tax_per_man) (holding_limit - u.holding.money)

-- the money of a region, which is its pot; 0 where there is no region
abbrev pub money_at : CampaignValue → ℕ → ℕ
money_at c region = option_map_or (λ q. q.money) (get c.regions region) 0

-- A campaign after a unit, by its number, took its share of its region's money; if the region has less, 0 is left. It
-- is unchanged where unit or region isn't there.
unfoldable pub after_tax : CampaignValue → ℕ × ℕ → CampaignValue
after_tax c (n, share) =
    at_unit c n (λ u.
    at_region c u.region (λ q.
    with_region_money (with_money c n (u.holding.money + share)) u.region (q.money - share)))

-- TAX as a phase with pots: each region's pot is its money. The event says how much was taken.
abbrev pub tax_pots : PotMeaning
tax_pots = record {
  fault = λ w u t. tax_fault u;
  want = λ w u t. tax_want w u;
  grants = λ items w c wants. pot_shares (money_at c) wants c;
  event_number = λ w u share. share;
  paid = λ items w c e. after_tax c e;
}

-- the meaning of the phase TAX: the campaign and the month that it makes
abbrev pub tax_meaning : Meaning
tax_meaning = pots_by_orders tax_pots is_tax

-- The specification of the phase TAX: money only goes from regions to units, so nothing is booked. Each unit is there
-- after it, with the same faction, region, structure, name and guard flag, and no less men, money, items or days.
abbrev pub tax_spec : PhaseSpec
tax_spec = spec_without_books tax_meaning all_no_worse
