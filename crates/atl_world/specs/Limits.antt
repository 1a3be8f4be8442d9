-- The limits of worlds: how many of each thing there are, and the ranges of numbers. See docs/RULES.md, "Limits".
use Rattle.std.specs.Prelude.{ℕ, ◌^◌}

-- ---- how many of each a world has at most

-- the most terrains of a world
abbrev pub most_terrains : ℕ
most_terrains = 20

-- the most items of a world
abbrev pub most_items : ℕ
most_items = 200

-- the most skills of a world
abbrev pub most_skills : ℕ
most_skills = 100

-- the most kinds of structures of a world
abbrev pub most_kinds : ℕ
most_kinds = 100

-- the most regions of a world
abbrev pub most_regions : ℕ
most_regions = 10000

-- the most markets of one region
abbrev pub most_markets : ℕ
most_markets = 200

-- how many numbers of 16 bits there are; terrains, items, skills and kinds each have such numbers, from 0 on
abbrev pub most_numbered : ℕ
most_numbered = 2 ^ 16

-- how many numbers of 32 bits there are: the keys of all maps by number
abbrev pub number_count : ℕ
number_count = 2 ^ 32

-- the highest number of a region
abbrev pub last_region : ℕ
last_region = 99999

-- the largest amount of money, of one item or of peasants, number of work places, and capacity of a ship
abbrev pub most_amount : ℕ
most_amount = 999999999

-- the most bytes of a name or of a pass text, which is a password
abbrev pub most_name_bytes : ℕ
most_name_bytes = 40

-- ---- the ranges of the world file's keys

-- the most money of one man or peasant a month: maintenance and tax of a man, income of a peasant
abbrev pub most_per_head : ℕ
most_per_head = 1000

-- the largest price of a recruit or an item, wage of a month, and fee of a month of study
abbrev pub most_price : ℕ
most_price = 1000000

-- the largest `recruit_fraction`: of this many peasants one can be recruited in a month
abbrev pub most_fraction : ℕ
most_fraction = 1000

-- the largest `growth`: the most births in a month, in percent of the peasants
abbrev pub most_growth : ℕ
most_growth = 100

-- the largest weight of a man or an item, and the largest weight that a man or an item can carry
abbrev pub most_weight : ℕ
most_weight = 10000

-- the highest level of a skill
abbrev pub last_level : ℕ
last_level = 5

-- the most raw items that one item is made of
abbrev pub most_raw_count : ℕ
most_raw_count = 1000

-- the largest size of a structure, in material, and the most crew that a ship may need, in men times levels of sailing
abbrev pub most_size : ℕ
most_size = 999999
