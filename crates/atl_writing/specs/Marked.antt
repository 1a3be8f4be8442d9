-- Which rows of each table are marked, by the marks of a campaign. The table `has` has units' goods: items and skills.
-- A test of a row is false where a column that it looks at is missing or isn't a whole number from 0.
use Rattle.std.specs.Prelude.{◌==◌, ◌+◌, ◌*◌, ◌&&◌, ◌||◌, ℕ, Bool, true, false, pos, suc, is_some, nat_le, ◌∷◌}
use Rattle.std.specs.Ordering.{nat_cmp}
use Rattle.std.specs.FinMap.{get}
use Rattle.std.specs.FinSet.{FinSet, contains}
use Rattle.sqlite.specs.declared.types.Value.TheVariants.{Int}
use Rattle.sqlite.specs.Order.{Row}
use Rattle.atl_world.specs.Groups.{group_of}
use Rattle.atl_records.specs.Limits.{entry_count}
use Rattle.atl_campaign.specs.Marks.{Marks, MarkedThings}
use Rattle.atl_sql.specs.declared.rows.has.ThingKind.{ThingKind}
use Rattle.atl_sql.specs.declared.rows.has.ThingKind.TheVariants.{Item, Skill}
use Rattle.atl_descriptions.specs.Tables.{Part, Own, Factions, Regions, Units, Goods, Structures, Mail, Reports, Books, Markets}
use Rattle.atl_sql.specs.Written.{sort_number}

-- whether the first column of a row is a natural number for which the test `is_so`, the first argument, is true
abbrev pub first_column_passes : (ℕ → Bool) → Row → Bool
first_column_passes is_so (Int (pos n) ∷ row) = is_so n
first_column_passes is_so row = false

-- Whether the test `is_so`, the first argument, is true of the entry and the thing of a row of `books`: the entry's
-- index, the first column less 1, and the thing's number, the second column. It is false if the first column is 0.
abbrev pub entry_and_thing_pass : (ℕ → ℕ → Bool) → Row → Bool
entry_and_thing_pass is_so (Int (pos (suc entry)) ∷ Int (pos thing) ∷ row) = is_so entry thing
entry_and_thing_pass is_so row = false

-- whether a row of the table `has` is of this kind (item or skill), and the test `is_so` is true of its unit and its
-- item or skill
abbrev pub unit_and_thing_pass : ThingKind → (ℕ → ℕ → Bool) → Row → Bool
unit_and_thing_pass sort is_so (Int (pos unit) ∷ Int (pos number) ∷ Int (pos thing) ∷ row) = number == sort_number sort && is_so unit thing
unit_and_thing_pass sort is_so row = false

-- whether the test `is_so`, the first argument, is true of the region and the item of a row of `market`
abbrev pub region_and_item_pass : (ℕ → ℕ → Bool) → Row → Bool
region_and_item_pass is_so (Int (pos region) ∷ Int (pos item) ∷ row) = is_so region item
region_and_item_pass is_so row = false

-- whether the first column of a row is a marked number, one of `marks`
abbrev pub begins_marked : FinSet nat_cmp → Row → Bool
begins_marked marks r = first_column_passes (contains marks) r

-- whether this item or skill of this unit, or this item of this region, is among the marked `things`
abbrev pub has_thing : MarkedThings → ℕ → ℕ → Bool
has_thing things unit thing = is_some (get (group_of things unit) thing)

-- whether a row of the table `has` is marked: with all goods of its unit, or as a single item or skill
abbrev pub goods_marked : Marks → Row → Bool
goods_marked marks r =
    begins_marked marks.goods r || unit_and_thing_pass Item (has_thing marks.items) r || unit_and_thing_pass Skill (has_thing marks.skills) r

-- whether a row of `market` is marked: with all stocks of its region, or as a single stock
abbrev pub stocks_marked : Marks → Row → Bool
stocks_marked marks r = begins_marked marks.stocks r || region_and_item_pass (has_thing marks.stock_items) r

-- Whether the amount of an entry and a thing, given by their indexes, is marked: whether `marks` has its number, which
-- is `entry_count` times the index of the thing plus that of the entry. False if the latter is not below `entry_count`.
abbrev pub is_marked_amount : FinSet nat_cmp → ℕ → ℕ → Bool
is_marked_amount marks entry thing = nat_le (suc entry) entry_count && contains marks (entry_count * thing + entry)

-- whether a row of `books` is of a marked amount
abbrev pub amount_marked : FinSet nat_cmp → Row → Bool
amount_marked marks r = entry_and_thing_pass (is_marked_amount marks) r

-- Whether a row of a part's table is marked, by its key. Each row of `campaign` counts as marked here; what it says
-- after a write goes by the mark `row`.
abbrev pub is_marked : Marks → Part → Row → Bool
is_marked marks Own = λ r. true
is_marked marks Factions = begins_marked marks.factions
is_marked marks Regions = begins_marked marks.regions
is_marked marks Units = begins_marked marks.rows
is_marked marks Goods = goods_marked marks
is_marked marks Structures = begins_marked marks.structures
is_marked marks Mail = begins_marked marks.mail
is_marked marks Reports = begins_marked marks.reports
is_marked marks Books = amount_marked marks.books
is_marked marks Markets = stocks_marked marks
