-- Laws that BUILD and PRODUCE leave units of a faction without a mailing their items, and their men less the starved.
-- They suppose that the phase keeps what its specification says: a unit without an order of its own faction is there,
-- with the same faction, region, structure, name and guard flag, and no less men, money, items or days. Then each unit
-- of a faction without a mailing is there, with its faction and name, no less of any item, and its men less those whom
-- the phase's Starved events report: here none. In any case it keeps the mailings and takes back no Starved event.
use Rattle.std.proofs.Common.{◌+◌, ◌-◌, ◌*◌, ℕ, Option, Some, None, refl}
use Rattle.std.specs.Prelude.{IfSome, neg_ℤ, option_and_then, option_map, pos}
use Rattle.std.specs.List.{slice_get}
use Rattle.std.specs.Ordering.{nat_cmp}
use Rattle.std.specs.FinMap.{FinMap, get}
use Rattle.atl_world.specs.Worlds.{WorldValue}
use Rattle.atl_world.specs.declared.world.Kind.{Kind}
use Rattle.atl_lines.specs.declared.order.Operands.TheVariants as operands
use Rattle.atl_lines.specs.Orders.{OperandsValue}
use Rattle.atl_records.specs.declared.books.BooksEntry.TheVariants.{Made, Used}
use Rattle.atl_records.specs.declared.books.Thing.TheVariants.{Item}
use Rattle.atl_records.specs.declared.event.Outcome.TheVariants.{Done}
use Rattle.atl_records.specs.declared.records.Structure.{Structure}
use Rattle.atl_records.specs.declared.records.Unit.{Unit}
use Rattle.atl_records.specs.Holdings.{amount_of, with_amount_of}
use Rattle.atl_campaign.specs.Owners.{with_place}
use Rattle.atl_campaign.specs.Campaign.{CampaignValue, with_booking, with_item}
use Rattle.atl_campaign.proofs.RegionLaws.{changed-known}
use Rattle.atl_phase.proofs.PhaseSpecLaws.{PhaseLeavesUnmailed}
use Rattle.atl_phase.proofs.UnmailedLaws.{HaveTheirMen, OthersHaveMen, LeavesOthersMen, carried_leaves, items_of_no_worse, men_put, men_same, men_stay, men_twice, men_unless, others_men, own_faction, place_men, unmailed_keep_items}
use Rattle.atl_market.specs.Build.{after_building_on, after_start, begin, begin_fault, build_effect, build_spec, build_step, go_on, go_on_at, inside_fault, is_building, outside_fault, size_added, with_kind, with_new_structure}
use Rattle.atl_market.specs.Goods.{with_made, with_used}
use Rattle.atl_market.specs.Produce as produce
use Rattle.atl_market.proofs.ThereLaws.{by_option, by_unit}
use Rattle.atl_market.proofs.UnmailedPotLaws.{orders_with_verbs, others_items, paid_men, shared_leave}

abbrev with_item_amount : (item amount : ℕ) → Unit → Unit
with_item_amount i amount u =
    record u { holding = record u.holding { items = with_amount_of u.holding.items i amount } }

used_men : (c : CampaignValue) (n i amount : ℕ) → HaveTheirMen c (with_used c n i amount)
used_men c n i amount =
    by_unit c n (HaveTheirMen c) _ (men_stay c) (λ u is.
    let left = amount_of u.holding.items i - amount in
    men_put c (with_booking (with_item c n i left) Used (Item i) (neg_ℤ (pos amount))) n u (with_item_amount i left u) is (record { faction = refl; men = refl }) (changed-known (with_item_amount i left) c.units n u is))

-- ---- BUILD

begun_men : (c : CampaignValue) (n kind : ℕ) (k : Kind) (region size : ℕ)
    → HaveTheirMen c (after_start c n kind k region size)
begun_men c n kind k region size =
    let used = with_used c n k.material size in
    let new = with_new_structure used kind k region size in
    men_twice c used (with_place new n region c.next_structure) (used_men c n k.material size)
    (men_twice used new (with_place new n region c.next_structure) (men_same used new refl) (place_men new n region c.next_structure))

begin_men : (w : WorldValue) (c : CampaignValue) (n kind : ℕ) (k : Kind) (u : Unit)
    → HaveTheirMen c (begin w n kind k c u).0
unfolding begin
begin_men w c n kind k u = let size = size_added k u.holding 0 in men_unless c (after_start c n kind k u.region size) (Done size) (begin_fault w c u k) (begun_men c n kind k u.region size)

gone_on_men : (c : CampaignValue) (n material size structure done : ℕ)
    → HaveTheirMen c (after_building_on c n material size structure done)
gone_on_men c n material size structure done = let used = with_used c n material size in men_twice c used (after_building_on c n material size structure done) (used_men c n material size) (men_same used (after_building_on c n material size structure done) refl)

go_on_men : (w : WorldValue) (c : CampaignValue) (n : ℕ) (u : Unit) → HaveTheirMen c (go_on w n c u).0
unfolding go_on
go_on_men w c n u = by_structure (get c.structures u.structure)
  where
    by_kind : (s : Structure) (o : Option Kind) → HaveTheirMen c (go_on_at c n u (option_map (λ k. (s, k)) o)).0
    by_kind s None = men_unless c c (Done 0) (outside_fault u) (men_stay c)
    by_kind s (Some k) = let size = size_added k u.holding s.done in men_unless c (after_building_on c n k.material size u.structure (s.done + size)) (Done size) (inside_fault u s k) (gone_on_men c n k.material size u.structure (s.done + size))

    by_structure : (o : Option Structure) → HaveTheirMen c (go_on_at c n u (option_and_then (with_kind w) o)).0
    by_structure None = men_unless c c (Done 0) (outside_fault u) (men_stay c)
    by_structure (Some s) = by_kind s (slice_get w.kinds s.kind)

built_men : (w : WorldValue) (c : CampaignValue) (f n : ℕ) (x : Unit) (s : OperandsValue)
    → IfSome (build_effect w n s) (λ effect. OthersHaveMen f c (effect c x).0)
built_men w c f n x (operands.Kind (Some kind)) = by_kind (slice_get w.kinds kind)
  where
    by_kind : (o : Option Kind) → IfSome (option_map (begin w n kind) o) (λ effect. OthersHaveMen f c (effect c x).0)
    by_kind None = tt
    by_kind (Some k) = others_men f c (begin w n kind k c x).0 (begin_men w c n kind k x)
built_men w c f n x (operands.Kind None) = others_men f c (go_on w n c x).0 (go_on_men w c n x)
built_men w c f n x other = tt

build_leaves_men : LeavesOthersMen build_step
build_leaves_men w a c t x own = built_men w c t.faction t.unit x t.order_value.operands

-- BUILD leaves units of factions without a mailing their names and items, and their men less the starved
pub build_leaves : PhaseLeavesUnmailed build_spec
build_leaves =
    carried_leaves build_step is_building build_leaves_men
    (unmailed_keep_items is_building own_faction items_of_no_worse)

-- ---- PRODUCE

made_men : (c : CampaignValue) (n i amount : ℕ) → HaveTheirMen c (with_made c n i amount)
made_men c n i amount =
    by_unit c n (HaveTheirMen c) _ (men_stay c) (λ u is.
    let more = amount_of u.holding.items i + amount in
    men_put c (with_booking (with_item c n i more) Made (Item i) (pos amount)) n u (with_item_amount i more u) is (record { faction = refl; men = refl }) (changed-known (with_item_amount i more) c.units n u is))

produced_men : (asked : FinMap nat_cmp ℕ) (w : WorldValue) (c : CampaignValue) (e : ℕ × ℕ)
    → HaveTheirMen c (produce.after_production asked w c e)
unfolding produce.after_production
produced_men asked w c e =
    by_option (HaveTheirMen c) _ (produce.numbered_item w (get asked e.0)) c (men_stay c) (λ (i, x) is.
    let used = produce.with_raw_used c e.0 (e.1 * x.raw_count) x.raw in
    men_twice c used (with_made used e.0 i e.1)
    (by_option (HaveTheirMen c) (λ r. with_used c e.0 r (e.1 * x.raw_count)) x.raw c (men_stay c) (λ r raw. used_men c e.0 r (e.1 * x.raw_count)))
    (made_men used e.0 i e.1))

-- PRODUCE leaves units of factions without a mailing their names and items, and their men less the starved
pub produce_leaves : PhaseLeavesUnmailed produce.produce_spec
produce_leaves =
    shared_leave produce.produce_pots (orders_with_verbs produce.is_produce)
    (paid_men produce.produce_pots (orders_with_verbs produce.is_produce) (λ w items. produced_men items w))
    (λ w c d m. others_items produce.is_produce m c d)
