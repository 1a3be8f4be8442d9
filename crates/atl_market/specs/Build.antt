-- BUILD: units begin structures, and continue those that they are inside. See docs/RULES.md, "Building".
use Rattle.std.specs.Prelude.{◌++◌, ℕ, ◌+◌, ◌-◌, ◌*◌, ◌==◌, min, nat_le, nat_lt, not, Bool, true, false, List, [], ◌∷◌, codes, Option, Some, None, option_and_then, option_map, if◌then◌else◌}
use Rattle.std.specs.Fmt.{decimal}
use Rattle.std.specs.List.{slice_get}
use Rattle.std.specs.FinMap.{get, len}
use Rattle.atl_world.specs.Worlds.{WorldValue}
use Rattle.atl_world.specs.declared.world.Kind.{Kind}
use Rattle.atl_world.specs.ByNumber.{is_land_at}
use Rattle.atl_lines.specs.declared.order.Operands.TheVariants as operands
use Rattle.atl_world.specs.declared.verb.Verb.{Verb}
use Rattle.atl_world.specs.declared.verb.Verb.TheVariants as verbs
use Rattle.atl_lines.specs.Orders.{OperandsValue}
use Rattle.atl_records.specs.Books.{entry_index}
use Rattle.atl_records.specs.declared.books.BooksEntry.TheVariants.{Used}
use Rattle.atl_records.specs.declared.books.Thing.TheVariants.{Item}
use Rattle.atl_records.specs.declared.event.EventFault.{EventFault}
use Rattle.atl_records.specs.declared.event.EventFault.TheVariants.{AtSea, Complete, NoMaterial, NoMen, NoSkill, NotInside, StructureLimit}
use Rattle.atl_records.specs.declared.event.Outcome.{Outcome}
use Rattle.atl_records.specs.declared.event.Outcome.TheVariants.{Done}
use Rattle.atl_records.specs.declared.records.Structure.{Structure}
use Rattle.atl_records.specs.declared.records.Unit.{Unit}
use Rattle.atl_records.specs.Holdings.{HoldingValue, amount_of}
use Rattle.atl_records.specs.Levels.{level_in}
use Rattle.atl_records.specs.Limits.{most_structures}
use Rattle.atl_campaign.specs.Owners.{with_place}
use Rattle.atl_campaign.specs.Campaign.{CampaignValue, with_done, with_structure_begun}
use Rattle.atl_phase.specs.Meaning.{BookBound, most_moved}
use Rattle.atl_phase.specs.Outcomes.{fault_or, first_fault}
use Rattle.atl_phase.specs.NoWorse.{IsNoWorse}
use Rattle.atl_phase.specs.OrderEffects.{IsOwnOrder, OrderEffect, OrderMeaning}
use Rattle.atl_phase.specs.PhaseSpecs.{PhaseSpec, goes_by_orders}
use Rattle.atl_market.specs.Goods.{with_used}

-- whether a verb is BUILD
abbrev pub is_building : Verb → Bool
is_building verbs.Build = true
is_building verb = false

-- ---- what a unit adds

-- How much a unit adds to a structure of kind `k`, of which `done` is done already. It is the least of its men times
-- their level in the kind's skill, the material held, and what is missing to the kind's size.
abbrev pub size_added : Kind → HoldingValue → (done : ℕ) → ℕ
size_added k h done = min (min (h.men * level_in h k.skill) (amount_of h.items k.material)) (k.size - done)

-- ---- BUILD kind

-- whether no further structure may be begun: there are 10,000 of them or more
abbrev pub is_structure_limit : CampaignValue → Bool
is_structure_limit c = nat_le most_structures (len c.structures)

-- the first fault of `BUILD kind` after NotYours, if there is one: NoMen, AtSea, NoSkill, NoMaterial, StructureLimit
abbrev pub begin_fault : WorldValue → CampaignValue → Unit → Kind → Option EventFault
begin_fault w c u k = first_fault (
    (u.holding.men == 0, NoMen)
    ∷ (not (is_land_at w u.region), AtSea)
    ∷ (nat_lt (level_in u.holding k.skill) k.level, NoSkill)
    ∷ (amount_of u.holding.items k.material == 0, NoMaterial)
    ∷ (is_structure_limit c, StructureLimit)
    ∷ [])

-- the text ahead of the number in a new structure's name: `Ship ` or `Building `, as bytes
abbrev pub name_prefix : Kind → List ℕ
name_prefix k = if k.ship then codes "Ship " else codes "Building "

-- A structure as it is begun: of the kind `k`, which has the number `kind`, in a region, with `size` of it done. It has
-- no owner, and its name is `Ship ` or `Building ` and its number.
abbrev pub new_structure : (number kind : ℕ) → Kind → (region size : ℕ) → Structure
new_structure number kind k region size = record {
  kind = kind;
  name = name_prefix k ++ decimal number;
  region = region;
  done = size;
  owner = 0;
}

-- a campaign in which one structure more is begun, with `size` of it done, under the next number of structures; `k` is
-- the kind with the number `kind`
abbrev pub with_new_structure : CampaignValue → (kind : ℕ) → Kind → (region size : ℕ) → CampaignValue
with_new_structure c kind k region size = with_structure_begun c (new_structure c.next_structure kind k region size)

-- A campaign after unit `n` used `size` of the material, and a structure was begun with it in `region`. The unit leaves
-- its old structure, if it is in one, and enters the new one as owner. Without unit `n` the structure is only begun.
-- `kind` is the number of the kind `k`.
abbrev pub after_start : CampaignValue → (n kind : ℕ) → Kind → (region size : ℕ) → CampaignValue
after_start c n kind k region size =
    with_place (with_new_structure (with_used c n k.material size) kind k region size) n region c.next_structure

-- The effect of `BUILD kind` by unit `n`, where `kind` is the number of the kind `k`: a structure is begun, and Done
-- says how much of it is done. With a fault nothing changes, and the outcome is the fault.
unfoldable pub begin : WorldValue → (n kind : ℕ) → Kind → OrderEffect
begin w n kind k c u =
    let size = size_added k u.holding 0 in
    fault_or c (begin_fault w c u k) (after_start c n kind k u.region size, Done size)

-- ---- BUILD

-- the fault of `BUILD` by a unit that is inside no structure: NoMen, else NotInside
abbrev pub outside_fault : Unit → Option EventFault
outside_fault u = first_fault ((u.holding.men == 0, NoMen) ∷ (true, NotInside) ∷ [])

-- the first fault of `BUILD` inside a structure after NotYours, if any: NoMen, Complete, NoSkill, NoMaterial
abbrev pub inside_fault : Unit → Structure → Kind → Option EventFault
inside_fault u s k = first_fault (
    (u.holding.men == 0, NoMen)
    ∷ (nat_le k.size s.done, Complete)
    ∷ (nat_lt (level_in u.holding k.skill) k.level, NoSkill)
    ∷ (amount_of u.holding.items k.material == 0, NoMaterial)
    ∷ [])

-- a campaign after unit `n`, if it is there, used `size` of a material, and `done` of a structure, if there, is done
abbrev pub after_building_on : CampaignValue → (n material size structure done : ℕ) → CampaignValue
after_building_on c n material size structure done = with_done (with_used c n material size) structure done

-- a structure with its kind, if the world has the kind
abbrev pub with_kind : WorldValue → Structure → Option (Structure × Kind)
with_kind w s = option_map (λ k. (s, k)) (slice_get w.kinds s.kind)

-- the structure under a number with its kind, if both are there
abbrev pub structure_and_kind_at : WorldValue → CampaignValue → (structure : ℕ) → Option (Structure × Kind)
structure_and_kind_at w c structure = option_and_then (with_kind w) (get c.structures structure)

-- The campaign and outcome after `BUILD` by unit `n`, inside the given structure of the given kind, or inside none. The
-- unit adds `size_added`, as Done says. With a fault nothing changes, and the fault is the outcome. Inside none there
-- is always one, so `Done 0` never comes out.
abbrev pub go_on_at : CampaignValue → (n : ℕ) → Unit → Option (Structure × Kind) → CampaignValue × Outcome
go_on_at c n u None = fault_or c (outside_fault u) (c, Done 0)
go_on_at c n u (Some (s, k)) =
    let size = size_added k u.holding s.done in
    fault_or c (inside_fault u s k) (after_building_on c n k.material size u.structure (s.done + size), Done size)

-- The effect of `BUILD` by unit `n`: it continues the structure that it is inside. With a fault nothing changes, and
-- the outcome is the fault.
unfoldable pub go_on : WorldValue → (n : ℕ) → OrderEffect
go_on w n c u = go_on_at c n u (structure_and_kind_at w c u.structure)

-- ---- the effect of an order

-- The effect of an order of unit `n` by its operands: a kind of the world begins a structure (`begin`), no kind
-- continues one (`go_on`). Other operands, also a kind that isn't the world's, have no effect (None).
abbrev pub build_effect : WorldValue → (n : ℕ) → OperandsValue → Option OrderEffect
build_effect w n (operands.Kind (Some kind)) = option_map (begin w n kind) (slice_get w.kinds kind)
build_effect w n (operands.Kind None) = Some (go_on w n)
build_effect w n other = None

-- the effect of an order of BUILD, by its unit and operands alone (`build_effect`); `aliases`, new units, don't count
abbrev pub build_step : OrderMeaning
build_step w aliases t = build_effect w t.unit t.order_value.operands

-- ---- how far BUILD moves the books

-- the bound on what BUILD books: Used of each item by less than 10^14, nothing else
abbrev pub build_moves : BookBound
build_moves e (Item i) = if entry_index e == entry_index Used then most_moved else 0
build_moves e t = 0

-- ---- the phase

-- The specification of the phase BUILD: it carries out orders one by one, and books only Used of items (`moved`), each
-- by less than 10^14. A unit for which its own faction wrote no BUILD that counts is there, no worse off (`IsNoWorse`).
abbrev pub build_spec : PhaseSpec
build_spec = record (goes_by_orders build_step is_building IsOwnOrder IsNoWorse) {
  book_bound = build_moves;
  moved = record { money = []; people = []; items = Used ∷ [] };
}
