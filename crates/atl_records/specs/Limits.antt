-- The limits of a campaign. See docs/RULES.md, "Limits".
use Rattle.std.specs.Prelude.{◌+◌, ℕ}
use Rattle.atl_world.specs.Limits.{most_amount, most_items}
use Rattle.atl_world.specs.declared.format.Format.{Format}
use Rattle.atl_world.specs.declared.format.Format.TheVariants.{First, Second}

-- the number of the last month that can be closed; the first is 1
abbrev pub last_month : ℕ
last_month = 9999

-- the most units at one time
abbrev pub most_units : ℕ
most_units = 100000

-- the largest number of a unit; the smallest is 1
abbrev pub last_unit : ℕ
last_unit = 999999999

-- the most men in a unit
abbrev pub men_limit : ℕ
men_limit = 999999

-- the most money, or pieces of one item, in a unit
abbrev pub holding_limit : ℕ
holding_limit = most_amount

-- how many entries there are, which is how many the books have in the second format
abbrev pub entry_count : ℕ
entry_count = 16

-- how many entries the books have in the first format: all but those of markets
abbrev pub first_entry_count : ℕ
first_entry_count = 13

-- how many entries the books have in a format: 13 in the first, 16 in the second
abbrev pub entries_in : Format → ℕ
entries_in First = first_entry_count
entries_in Second = entry_count

-- the most things in the books: money, people and the most items of a world
abbrev pub most_things : ℕ
most_things = 2 + most_items

-- the largest number of 16 bits
abbrev pub most_u16 : ℕ
most_u16 = 65535

-- the largest number of 32 bits
abbrev pub most_u32 : ℕ
most_u32 = 4294967295

-- how many things can be numbered: money, people, and an item for each number of 16 bits
abbrev pub possible_things : ℕ
possible_things = 2 + (most_u16 + 1)

-- how many numbers of 32 bits there are, which is the most values that a map by such numbers can hold
abbrev pub most_map_entries : ℕ
most_map_entries = most_u32 + 1

-- a bound on the money of all regions together at founding, and the same bound on all peasants together
abbrev pub most_founded : ℕ
most_founded = 100000000000000

-- the most structures ever begun; they are numbered from 1
abbrev pub most_structures : ℕ
most_structures = 10000

-- a bound on how much a month changes an amount of the books, up or down
abbrev pub most_in_month : ℕ
most_in_month = 200000000000000

-- a bound on how much the joining of a faction changes an amount of the books
abbrev pub most_in_joining : ℕ
most_in_joining = 1000000000

-- the factor of the level formula: level n takes n * (n + 1) times this many days of each man
abbrev pub level_days : ℕ
level_days = 15

-- the most days of study of one skill for each man of a unit
abbrev pub most_days : ℕ
most_days = 450
