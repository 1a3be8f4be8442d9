-- RECRUIT: peasants of a region join its units, at a price. See docs/RULES.md, "Recruiting".
use Rattle.std.specs.Prelude.{◌+◌, ◌-◌, ◌*◌, ◌/◌, ℕ, Bool, true, false, min, pos, neg_ℤ, nat_lt, Option, [], ◌∷◌}
use Rattle.std.specs.Option.{option_map_or}
use Rattle.std.specs.FinMap.{get}
use Rattle.atl_world.specs.Worlds.{WorldValue}
use Rattle.atl_world.specs.declared.verb.Verb.{Verb}
use Rattle.atl_world.specs.declared.verb.Verb.TheVariants as verbs
use Rattle.atl_records.specs.declared.books.BooksEntry.TheVariants.{Recruiting}
use Rattle.atl_records.specs.declared.books.Thing.TheVariants.{Money}
use Rattle.atl_records.specs.declared.event.EventFault.{EventFault}
use Rattle.atl_records.specs.declared.event.EventFault.TheVariants.{NotEnough}
use Rattle.atl_records.specs.declared.records.Unit.{Unit}
use Rattle.atl_records.specs.Holdings.{HoldingValue}
use Rattle.atl_campaign.specs.Lending.{with_holding}
use Rattle.atl_records.specs.Limits.{men_limit}
use Rattle.atl_campaign.specs.Campaign.{CampaignValue, with_booking, with_peasants}
use Rattle.atl_phase.specs.Meaning.{BookBound, Frame, Meaning, moves_only}
use Rattle.atl_phase.specs.Outcomes.{first_fault}
use Rattle.atl_phase.specs.There.{at_region, at_unit}
use Rattle.atl_pots.specs.Pots.{pot_shares}
use Rattle.atl_market.specs.PotPhase.{PotMeaning, count_in, pots_by_orders}
use Rattle.atl_market.specs.Unordered.{no_worse_without_order}
use Rattle.atl_phase.specs.PhaseSpecs.{PhaseSpec, books_money}

-- whether a verb is RECRUIT
abbrev pub is_recruit : Verb → Bool
is_recruit verbs.Recruit = true
is_recruit verb = false

-- the fault of RECRUIT other than NotYours, if there is one: NotEnough where the unit can't pay the price of a recruit
abbrev pub recruit_fault : WorldValue → Unit → Option EventFault
recruit_fault w u = first_fault ((nat_lt u.holding.money w.rules.recruit_price, NotEnough) ∷ [])

-- how many recruits a unit wants: the least of what its order `asked` for, what it can pay for, and its room for men
abbrev pub recruit_want : WorldValue → Unit → ℕ → ℕ
recruit_want w u asked = min asked (min (u.holding.money / w.rules.recruit_price) (men_limit - u.holding.men))

-- a region's pot of recruits: its peasants divided by `recruit_fraction`, rounded down; 0 where there is no region
abbrev pub recruits_at : WorldValue → CampaignValue → ℕ → ℕ
recruits_at w c region = option_map_or (λ q. q.peasants / w.rules.recruit_fraction) (get c.regions region) 0

-- what a unit holds, with `recruits` more men, who have studied nothing, and `cost` less money, 0 where it had less
abbrev pub with_paid_recruits : HoldingValue → (recruits cost : ℕ) → HoldingValue
with_paid_recruits h recruits cost = record h { men = h.men + recruits; money = h.money - cost }

-- A campaign after `recruits` peasants of its region joined a unit, by its number, and it paid for them. The price is
-- booked below 0. Where money or peasants are too few, 0 are left; where unit or region isn't there, nothing changes.
unfoldable pub after_recruiting : WorldValue → CampaignValue → ℕ × ℕ → CampaignValue
after_recruiting w c (n, recruits) =
    let cost = recruits * w.rules.recruit_price in
    at_unit c n (λ u.
    at_region c u.region (λ q.
    let joined = with_holding c n (with_paid_recruits u.holding recruits cost) in
    with_booking (with_peasants joined u.region (q.peasants - recruits)) Recruiting Money (neg_ℤ (pos cost))))

-- RECRUIT as a phase with pots: each region's pot is those who can be recruited. The event says how many joined.
abbrev pub recruit_pots : PotMeaning
recruit_pots = record {
  fault = λ w u t. recruit_fault w u;
  want = λ w u t. recruit_want w u (count_in t.order_value.operands);
  grants = λ items w c wants. pot_shares (recruits_at w c) wants c;
  event_number = λ w u recruits. recruits;
  paid = λ items. after_recruiting;
}

-- the meaning of the phase RECRUIT: the campaign and the month that it makes
abbrev pub recruit_meaning : Meaning
recruit_meaning = pots_by_orders recruit_pots is_recruit

-- the bound on what RECRUIT books: Recruiting of money by at most `most`, nothing else
abbrev pub recruit_moves : ℕ → BookBound
recruit_moves most = moves_only most Recruiting Money

-- What RECRUIT leaves alone: a unit for which its own faction wrote no RECRUIT that counts is there after it, with the
-- same faction, region, structure, name and guard flag, and no less men, money, items or days.
abbrev pub recruit_keeps : Frame
recruit_keeps = no_worse_without_order is_recruit

-- the phase RECRUIT: it books only Recruiting of money, by less than 10^14, and keeps what `recruit_keeps` says
abbrev pub recruit_spec : PhaseSpec
recruit_spec = books_money Recruiting recruit_meaning recruit_keeps
