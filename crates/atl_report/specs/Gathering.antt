-- For proofs alone: the numbers of the regions that a faction sees, gathered from its units one after another. Also
-- those of the units that it sees in a region, gathered from the region's lists, and lists of units by a key of theirs.
-- A set of numbers is a map from each of them to `tt`, the only value of the type `Prim.Unit`.
-- `seen` is the set gathered so far, `f` a faction's number, `ns` are numbers of units, and `key` gives a unit's key.
-- The hiding level of a unit is the level of observation from which other factions see it.
use Rattle.std.specs.Prelude.{ℕ, List, [], ◌∷◌, nat_le, if◌then◌else◌, Option, Some, None}
use Rattle.std.specs.Ordering.{nat_cmp}
use Rattle.std.specs.FinMap.{FinMap, get, insert, empty, entries}
use Rattle.atl_records.specs.declared.records.Region.{Region}
use Rattle.atl_records.specs.declared.records.Unit.{Unit}
use Rattle.atl_campaign.specs.Campaign.{CampaignValue}
use Rattle.atl_sight.specs.Watching.{is_watching}
use Rattle.atl_report.specs.Sites.{with_listed}

-- `with_region seen n region`: the set `seen` of region numbers with `n` added, if the campaign has a region of number
-- `n`, which is `region`; `seen` itself where it has none (None)
abbrev pub with_region : FinMap nat_cmp (Prim.Unit {0}) → ℕ → Option Region → FinMap nat_cmp (Prim.Unit {0})
with_region seen n None = seen
with_region seen n (Some r) = insert seen n tt

-- the set of region numbers with that of a unit's region added, where there is such a unit, it is the faction's and has
-- men, and its region exists; else the same set
abbrev pub with_watched : CampaignValue → ℕ → FinMap nat_cmp (Prim.Unit {0}) → Option Unit → FinMap nat_cmp (Prim.Unit {0})
with_watched c f seen None = seen
with_watched c f seen (Some u) = if is_watching f (Some u) then with_region seen u.region (get c.regions u.region) else seen

-- the set of region numbers with that of each listed unit's region added, where there is such a unit, it is the
-- faction's and has men, and its region exists
abbrev pub with_all_watched : CampaignValue → ℕ → List ℕ → FinMap nat_cmp (Prim.Unit {0}) → FinMap nat_cmp (Prim.Unit {0})
with_all_watched c f [] seen = seen
with_all_watched c f (n ∷ ns) seen = with_all_watched c f ns (with_watched c f seen (get c.units n))

-- `with_keyed key lists n unit`: the lists by key with the number `n` of a unit added at the end of the list of its
-- key; the same lists where there is no such unit
abbrev pub with_keyed : (Unit → ℕ) → FinMap nat_cmp (List ℕ) → ℕ → Option Unit → FinMap nat_cmp (List ℕ)
with_keyed key lists n None = lists
with_keyed key lists n (Some u) = with_listed lists (key u) n

-- `with_all_keyed units key lists ns`: the lists by key with the number of each listed unit added to the list of its
-- key; a number without a unit is left out
abbrev pub with_all_keyed : FinMap nat_cmp Unit → (Unit → ℕ) → FinMap nat_cmp (List ℕ) → List ℕ → FinMap nat_cmp (List ℕ)
with_all_keyed units key lists [] = lists
with_all_keyed units key lists (n ∷ ns) = with_all_keyed units key (with_keyed key lists n (get units n)) ns

-- the set of numbers with those of a list added
abbrev pub with_numbers : FinMap nat_cmp (Prim.Unit {0}) → List ℕ → FinMap nat_cmp (Prim.Unit {0})
with_numbers seen [] = seen
with_numbers seen (n ∷ ns) = with_numbers (insert seen n tt) ns

-- `with_level observation seen level ns`: the set `seen` with the numbers `ns` added, whose hiding level is `level`, if
-- this is at most `observation`; else `seen`
abbrev pub with_level : ℕ → FinMap nat_cmp (Prim.Unit {0}) → ℕ → List ℕ → FinMap nat_cmp (Prim.Unit {0})
with_level observation seen level ns = if nat_le level observation then with_numbers seen ns else seen

-- the set of numbers with those of each list added that is paired with a hiding level of at most `observation`
abbrev pub with_levels : ℕ → FinMap nat_cmp (Prim.Unit {0}) → List (ℕ × List ℕ) → FinMap nat_cmp (Prim.Unit {0})
with_levels observation seen [] = seen
with_levels observation seen (e ∷ es) = with_levels observation (with_level observation seen e.0 e.1) es

-- `numbers_seen own levels observation`: the numbers of `own`, a faction's units in a region, and those of the lists in
-- `levels`, the region's units by hiding level, whose level is at most `observation`
abbrev pub numbers_seen : List ℕ → FinMap nat_cmp (List ℕ) → ℕ → FinMap nat_cmp (Prim.Unit {0})
numbers_seen own levels observation = with_levels observation (with_numbers empty own) (entries levels)
