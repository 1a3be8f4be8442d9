-- The text of the books, line by line. See docs/FORMATS.md, "Books".
use Rattle.std.specs.Prelude.{◌<◌, ℕ, zero, suc, ℤ, pos, List, [], codes, length, if◌then◌else◌, Option}
use Rattle.std.specs.Fmt.{decimal, signed_decimal}
use Rattle.std.specs.List.{slice_get}
use Rattle.std.specs.Option.{option_map_or}
use Rattle.std.specs.Ordering.{int_eq}
use Rattle.atl_world.specs.Texts.{◌▸◌}
use Rattle.atl_world.specs.Worlds.{WorldValue}
use Rattle.atl_world.specs.declared.world.Item.{Item as ItemPlan}
use Rattle.atl_records.specs.declared.books.BooksEntry.{BooksEntry}
use Rattle.atl_records.specs.declared.books.BooksEntry.TheVariants.{Founding, Joining, Income, Wages, Recruiting, Study, Upkeep, Lost, Births, Starved, Left, Made, Used, Bought, Sold, Stocked}
use Rattle.atl_records.specs.declared.books.Thing.{Thing}
use Rattle.atl_records.specs.declared.books.Thing.TheVariants.{Money, People, Item}
use Rattle.atl_records.specs.Books.{BooksValue, all_entries, amount_in, thing_index}
use Rattle.atl_campaign.specs.Campaign.{CampaignValue}
use Rattle.atl_campaign.specs.Totals.{total}
use Rattle.atl_sight.specs.Each.{each_text}

-- the name of an entry (a cause for which the books count an amount), as the text of the books prints it
abbrev pub entry_name : BooksEntry → List ℕ
entry_name Founding = codes "founding"
entry_name Joining = codes "joining"
entry_name Income = codes "income"
entry_name Wages = codes "wages"
entry_name Recruiting = codes "recruiting"
entry_name Study = codes "study"
entry_name Upkeep = codes "upkeep"
entry_name Lost = codes "lost"
entry_name Births = codes "births"
entry_name Starved = codes "starved"
entry_name Left = codes "left"
entry_name Made = codes "made"
entry_name Used = codes "used"
entry_name Bought = codes "bought"
entry_name Sold = codes "sold"
entry_name Stocked = codes "stocked"

-- the word `item` and the item's name in quotes; empty where there is no item
abbrev pub item_name : Option ItemPlan → List ℕ
item_name item = option_map_or (λ x. codes "item \"" ▸ x.name ▸ codes "\"") item []

-- how the text of the books names a thing; empty for an item that the world does not have
abbrev pub thing_name : WorldValue → Thing → List ℕ
thing_name w Money = codes "money"
thing_name w People = codes "people"
thing_name w (Item i) = item_name (slice_get w.items i)

-- the end of an entry's line, after the thing: the entry's name and the amount booked, which is how much came in, or
-- went out if it is negative
abbrev pub amount_text : BooksEntry → ℤ → List ℕ
amount_text e amount = codes " " ▸ entry_name e ▸ codes " " ▸ signed_decimal amount ▸ codes "\n"

-- the line of a thing under an entry; empty where the amount is 0
unfoldable pub amount_line : WorldValue → Thing → BooksEntry → ℤ → List ℕ
amount_line w t e amount = if int_eq amount (pos 0) then [] else thing_name w t ▸ amount_text e amount

-- the lines of a thing under the entries of a list, without those whose amount is 0
abbrev pub amount_lines : WorldValue → BooksValue → Thing → List BooksEntry → List ℕ
amount_lines w books t = each_text (λ e. amount_line w t e (amount_in books e t))

-- the line with how much of a thing all units and regions hold, with the stocks of markets
unfoldable pub total_line : WorldValue → CampaignValue → Thing → List ℕ
total_line w c t = thing_name w t ▸ codes " total " ▸ decimal (total c t) ▸ codes "\n"

-- all lines of a thing: one for each entry whose amount isn't 0, in the order of the entries' numbers, and its total
unfoldable pub thing_part : WorldValue → CampaignValue → Thing → List ℕ
thing_part w c t = amount_lines w c.books t all_entries ▸ total_line w c t

-- the lines of the first n items of the world, in its order
abbrev pub item_parts : WorldValue → CampaignValue → ℕ → List ℕ
item_parts w c zero = []
item_parts w c (suc n) = item_parts w c n ▸ thing_part w c (Item n)

-- the text of the books: the lines of money, of people, and of each item, in the order of the world
unfoldable pub books_of : WorldValue → CampaignValue → List ℕ
books_of w c = thing_part w c Money ▸ thing_part w c People ▸ item_parts w c (length w.items)

-- the campaign's books have an amount of this thing: its number is below their count of things
abbrev pub IsThing : CampaignValue → Thing → Type 0
IsThing c t = thing_index t < c.books.things
