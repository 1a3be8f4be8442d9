-- For proofs alone: the orders of WORK and the work of units without an order, in the order in which the code lists
-- them.
use Rattle.std.specs.Prelude.{◌&&◌, ◌++◌, ℕ, List, [], ◌∷◌, is_some, nat_lt, not, if◌then◌else◌}
use Rattle.std.specs.List.{flat_map}
use Rattle.std.specs.Ordering.{nat_cmp}
use Rattle.std.specs.FinMap.{FinMap, empty, entries, get}
use Rattle.std.specs.FinSet as set
use Rattle.atl_records.specs.declared.records.Unit.{Unit}
use Rattle.atl_campaign.specs.Campaign.{CampaignValue}
use Rattle.atl_phase.specs.PhaseOrders.{Task}
use Rattle.atl_phase.specs.OrderEffects.{is_of_faction}
use Rattle.atl_pots.specs.Puts.{with_entries}
use Rattle.atl_market.specs.Work.{idle_task, written_work}

-- the unit of an order with the faction that wrote it, if the unit is there and of that faction; else nothing
abbrev pub own_unit : CampaignValue → Task → List (ℕ × ℕ)
own_unit c t = if is_of_faction t.faction (get c.units t.unit) then (t.unit, t.faction) ∷ [] else []

-- a map from each unit for which its own faction wrote one of the orders `ts` to that faction
abbrev pub own_writers : CampaignValue → List Task → FinMap nat_cmp ℕ
own_writers c ts = with_entries empty (flat_map (own_unit c) ts)

-- The set `units` with the unit of an order added, if the unit is there and of the `faction` that wrote the order. The
-- code collects the units with an order of their own faction so.
abbrev pub with_writer : CampaignValue → (unit faction : ℕ) → set.FinSet nat_cmp → set.FinSet nat_cmp
with_writer c unit faction units = if is_of_faction faction (get c.units unit) then set.insert units unit else units

-- an order of WORK for a unit that has men and isn't in the map `writers`, which has the units with an order of their
-- own faction; else nothing
abbrev pub idle_order : FinMap nat_cmp ℕ → ℕ × Unit → List Task
idle_order writers (n, u) = if nat_lt 0 u.holding.men && not (is_some (get writers n)) then idle_task n u.faction ∷ [] else []

-- an order of WORK for each unit with men for which its own faction wrote none of the orders `ts`, by unit number
abbrev pub all_idle_orders : CampaignValue → List Task → List Task
all_idle_orders c ts = flat_map (idle_order (own_writers c ts)) (entries c.units)

-- the orders of WORK among `ts`, and then one for each unit with men for which its own faction wrote none of `ts`
abbrev pub all_work : CampaignValue → List Task → List Task
all_work c ts = written_work ts ++ all_idle_orders c ts
