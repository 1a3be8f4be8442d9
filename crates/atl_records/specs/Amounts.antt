-- How much of a thing (money, people or an item) a unit and a region hold.
use Rattle.std.specs.Prelude.{ℕ}
use Rattle.atl_records.specs.declared.books.Thing.{Thing}
use Rattle.atl_records.specs.declared.books.Thing.TheVariants.{Money, People, Item}
use Rattle.atl_records.specs.declared.records.Region.{Region}
use Rattle.atl_records.specs.Holdings.{HoldingValue, amount_of}

-- how much of a thing a unit holds: its money, its men, or its pieces of an item
abbrev pub unit_amount : Thing → HoldingValue → ℕ
unit_amount Money h = h.money
unit_amount People h = h.men
unit_amount (Item i) h = amount_of h.items i

-- how much of a thing a region holds: its money, its peasants, or its pieces of an item in stock
abbrev pub region_amount : Thing → Region → ℕ
region_amount Money r = r.money
region_amount People r = r.peasants
region_amount (Item i) r = amount_of r.stocks i
