-- The limits of mailings, texts with a player's orders for one month. See docs/RULES.md, "Limits".
use Rattle.std.specs.Prelude.{ℕ}
use Rattle.atl_world.specs.Limits.{most_amount}

-- the most bytes of a mailing
abbrev pub most_bytes : ℕ
most_bytes = 65536

-- the largest number in an order: of a unit, structure or faction, of men, money or pieces of an item
abbrev pub most_number : ℕ
most_number = most_amount

-- the largest alias, the number by which a mailing names a new unit; the least is 1
abbrev pub last_alias : ℕ
last_alias = 9999

-- the largest number of a faction; the least is 1
abbrev pub last_faction : ℕ
last_faction = 9999
