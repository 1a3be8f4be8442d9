-- PRODUCE: units make items out of raw items, or out of what the terrain of their region gives.
-- See docs/RULES.md, "Producing". A map `asked` has, by unit, the number of the item that the unit's order names, and a
-- map `wants` how many pieces of it the unit wants. Otherwise `asked` is the number that one order names, if any.
use Rattle.std.specs.Prelude.{◌-◌, ◌*◌, ◌/◌, ◌==◌, ℕ, Bool, true, false, map, min, nat_lt, Option, Some, None, is_some, option_and_then, option_map, unwrap_or, if◌then◌else◌, [], ◌∷◌}
use Rattle.std.specs.List.{slice_get}
use Rattle.std.specs.Ordering.{nat_cmp}
use Rattle.std.specs.Option.{option_map_or}
use Rattle.std.specs.FinMap.{FinMap, entries, from_entries, get}
use Rattle.atl_world.specs.Worlds.{WorldValue}
use Rattle.atl_world.specs.declared.world.Item.{Item}
use Rattle.atl_world.specs.ByNumber.{terrain_of}
use Rattle.atl_world.specs.declared.verb.Verb.{Verb}
use Rattle.atl_world.specs.declared.verb.Verb.TheVariants as verbs
use Rattle.atl_records.specs.declared.books.BooksEntry.TheVariants.{Made, Used}
use Rattle.atl_records.specs.declared.books.Thing.TheVariants as things
use Rattle.atl_records.specs.declared.event.EventFault.{EventFault}
use Rattle.atl_records.specs.declared.event.EventFault.TheVariants.{NoMaterial, NoMen, NoSkill}
use Rattle.atl_records.specs.Holdings.{HoldingValue, amount_of}
use Rattle.atl_records.specs.Levels.{level_in_any}
use Rattle.atl_records.specs.Limits.{holding_limit}
use Rattle.atl_campaign.specs.Campaign.{CampaignValue}
use Rattle.atl_phase.specs.Meaning.{BookBound, Frame, Meaning, most_moved}
use Rattle.atl_phase.specs.Outcomes.{first_fault}
use Rattle.atl_phase.specs.PhaseSpecs.{PhaseSpec}
use Rattle.atl_pots.specs.ItemPots.{item_share}
use Rattle.atl_market.specs.Goods.{with_made, with_used}
use Rattle.atl_market.specs.PotPhase.{PotMeaning, item_in, pots_by_orders}
use Rattle.atl_market.specs.Unordered.{no_worse_without_order}

-- whether a verb is PRODUCE
abbrev pub is_produce : Verb → Bool
is_produce verbs.Produce = true
is_produce verb = false

-- the world's item under the number that an order names (`asked`), if there is one
abbrev pub item_of : WorldValue → Option ℕ → Option Item
item_of w asked = option_and_then (slice_get w.items) asked

-- the number that an order names, with the world's item under it, if there is one
abbrev pub numbered_item : WorldValue → Option ℕ → Option (ℕ × Item)
numbered_item w asked = option_and_then (λ i. option_map (λ x. (i, x)) (slice_get w.items i)) asked

-- ---- how much a unit can make

-- how many pieces of an item a unit's raw items allow, at `count` for each piece, but at most `most`; `most` where no
-- raw item goes in
abbrev pub up_to_raw : HoldingValue → (count : ℕ) → (raw : Option ℕ) → (most : ℕ) → ℕ
up_to_raw h count raw most = option_map_or (λ r. min (amount_of h.items r / count) most) raw most

-- The most of an item, with the number `item`, that a unit can make: the least of its men times their level in the
-- item's skill (0 without a skill), its room for the item, and what its raw items allow, if it takes any.
abbrev pub most_makeable_of : HoldingValue → (item : ℕ) → Item → ℕ
most_makeable_of h i x =
    up_to_raw h x.raw_count x.raw (min (h.men * level_in_any h x.skill) (holding_limit - amount_of h.items i))

-- the most that a unit can make of the item that its order names; 0 where it names no item, or none of the world
abbrev pub most_makeable : WorldValue → HoldingValue → Option ℕ → ℕ
most_makeable w h asked = option_map_or (λ e. most_makeable_of h e.0 e.1) (numbered_item w asked) 0

-- ---- what the terrains give

-- whether a raw item goes into the item that an order names; true where it names no item, or none of the world
abbrev pub takes_raw : WorldValue → Option ℕ → Bool
takes_raw w asked = option_map_or (λ x. is_some x.raw) (item_of w asked) true

-- the item that unit `n` makes out of what its region gives: the one that its order names; None if `takes_raw` holds
abbrev pub output_item : WorldValue → FinMap nat_cmp ℕ → ℕ → Option ℕ
output_item w asked n = if takes_raw w (get asked n) then None else get asked n

-- how much of an item a region's terrain gives, which is the region's pot of the item; 0 without terrain or item
abbrev pub output_at : WorldValue → (item region : ℕ) → ℕ
output_at w i region = option_map_or (λ t. unwrap_or (slice_get t.output i) 0) (terrain_of w region) 0

-- a unit's share of its region's output of the item that it makes, by the unit's number; None without a share, as for
-- an item that takes raw items
abbrev pub output_share : WorldValue → FinMap nat_cmp ℕ → CampaignValue → FinMap nat_cmp ℕ → ℕ → Option ℕ
output_share w asked c wants n = item_share (output_item w asked) (output_at w) wants c n

-- ---- who makes how much

-- How much a unit makes, by its number and its want: all that it wants where `takes_raw` holds for it. Else it is the
-- unit's share of what its region gives of its item, or 0 without a share.
abbrev pub amount_made : WorldValue → FinMap nat_cmp ℕ → CampaignValue → FinMap nat_cmp ℕ → ℕ × ℕ → ℕ
amount_made w asked c wants (n, want) =
    if takes_raw w (get asked n) then want else unwrap_or (output_share w asked c wants n) 0

-- how much each unit that has a want makes, by unit
abbrev pub made_amounts : FinMap nat_cmp ℕ → WorldValue → CampaignValue → FinMap nat_cmp ℕ → FinMap nat_cmp ℕ
made_amounts asked w c wants = from_entries (map (λ e. (e.0, amount_made w asked c wants e)) (entries wants))

-- ---- what changes

-- a campaign after unit `n` used `amount` of a raw item; unchanged where none is given or the unit isn't there
abbrev pub with_raw_used : CampaignValue → ℕ → (amount : ℕ) → (raw : Option ℕ) → CampaignValue
with_raw_used c n amount raw = option_map_or (λ r. with_used c n r amount) raw c

-- a campaign after unit `n`, if it is there, used the raw items for `made` pieces of `x`, item `i`, and made these
abbrev pub with_item_made : CampaignValue → ℕ → (made item : ℕ) → Item → CampaignValue
with_item_made c n made i x = with_made (with_raw_used c n (made * x.raw_count) x.raw) n i made

-- A campaign after a unit, by its number, made `made` pieces of the item that its order names. It is unchanged where
-- the order names no item, or none of the world, or the unit isn't there.
unfoldable pub after_production : FinMap nat_cmp ℕ → WorldValue → CampaignValue → ℕ × ℕ → CampaignValue
after_production asked w c (n, made) =
    option_map_or (λ e. with_item_made c n made e.0 e.1) (numbered_item w (get asked n)) c

-- ---- the faults

-- whether a unit lacks the skill to make an item: no skill makes it, or the unit's level in its skill is too low
abbrev pub is_unskilled : HoldingValue → Item → Bool
is_unskilled h x = if is_some x.skill then nat_lt (level_in_any h x.skill) x.level else true

-- whether an item needs raw items (None: it needs none), `count` for each piece, and a unit holds too few of them for a
-- single piece
abbrev pub is_raw_missing : HoldingValue → (count : ℕ) → (raw : Option ℕ) → Bool
is_raw_missing h count raw = option_map_or (λ r. amount_of h.items r / count == 0) raw false

-- The first fault of PRODUCE after NotYours, if there is one: NoMen, NoSkill, NoMaterial. Without an item of the world
-- (None) it is NoMen, else NoSkill.
abbrev pub produce_fault : HoldingValue → Option Item → Option EventFault
produce_fault h None = first_fault ((h.men == 0, NoMen) ∷ (true, NoSkill) ∷ [])
produce_fault h (Some x) =
    first_fault ((h.men == 0, NoMen) ∷ (is_unskilled h x, NoSkill) ∷ (is_raw_missing h x.raw_count x.raw, NoMaterial) ∷ [])

-- ---- the phase

-- PRODUCE as a phase with pots: a region's pot of an item is what its terrain gives of it. An item that is made of raw
-- items comes out of no pot. The event says how many were made.
abbrev pub produce_pots : PotMeaning
produce_pots = record {
  fault = λ w u t. produce_fault u.holding (item_of w (item_in t.order_value.operands));
  want = λ w u t. most_makeable w u.holding (item_in t.order_value.operands);
  grants = made_amounts;
  event_number = λ w u made. made;
  paid = after_production;
}

-- the meaning of the phase PRODUCE: the campaign and the month that it makes
abbrev pub produce_meaning : Meaning
produce_meaning = pots_by_orders produce_pots is_produce

-- the bound on what PRODUCE books: Made and Used of each item by at most `most`, nothing else
abbrev pub produce_moves : ℕ → BookBound
produce_moves most Made (things.Item i) = most
produce_moves most Used (things.Item i) = most
produce_moves most e t = 0

-- What PRODUCE leaves alone: a unit for which its own faction wrote no PRODUCE that counts is there after it, with the
-- same faction, region, structure, name and guard flag, and no less men, money, items or days.
abbrev pub produce_keeps : Frame
produce_keeps = no_worse_without_order is_produce

-- the phase PRODUCE: it books only Made and Used of items, each by less than 10^14, and keeps what `produce_keeps` says
abbrev pub produce_spec : PhaseSpec
produce_spec = record {
  meaning = produce_meaning;
  book_bound = produce_moves most_moved;
  moved = record { money = []; people = []; items = Made ∷ Used ∷ [] };
  keeps = produce_keeps;
}
