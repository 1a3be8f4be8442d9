-- What change marks say of a campaign before and after some changes: all that is not marked is unchanged, but for what
-- `Covers` leaves out. A unit's goods are its items and days of study.
use Rattle.std.specs.Prelude.{◌≡◌, ℕ, List, true, false, Option, Some, None, option_map}
use Rattle.std.specs.Ordering.{nat_cmp}
use Rattle.std.specs.FinMap.{FinMap, get, empty}
use Rattle.std.specs.FinSet.{FinSet, contains}
use Rattle.atl_records.specs.declared.books.BooksEntry.{BooksEntry}
use Rattle.atl_records.specs.declared.books.Thing.{Thing}
use Rattle.atl_records.specs.declared.records.Region.{Region}
use Rattle.atl_records.specs.declared.records.Unit.{Unit}
use Rattle.atl_records.specs.Books.{amount_in, amount_number}
use Rattle.atl_campaign.specs.Marks.{Marks, MarkedThings, is_thing_marked}
use Rattle.atl_campaign.specs.Campaign.{CampaignValue, MarkedCampaign}
use Rattle.atl_campaign.specs.Stocks.{stock_of}

-- the maps `before` and `after` have the same value, or both none, under each number not in the dirty set `marks`
abbrev pub SameBut : {V : Type 0} → FinSet nat_cmp → FinMap nat_cmp V → FinMap nat_cmp V → Type 0
SameBut marks before after = (n : ℕ) → contains marks n ≡ false → get after n ≡ get before n

-- a region without its stocks
abbrev pub unstocked : Region → Region
unstocked r = record r { stocks = empty }

-- a unit without its goods
abbrev pub without_goods : Unit → Unit
without_goods u = record u { holding = record u.holding { items = empty; days = empty } }

-- the amounts of a unit's items, by the items' numbers; no amounts where None is given for the unit
abbrev pub items_under : Option Unit → FinMap nat_cmp ℕ
items_under None = empty
items_under (Some u) = u.holding.items

-- a unit's days of study, by the skills' numbers; no days where None is given for the unit
abbrev pub days_under : Option Unit → FinMap nat_cmp ℕ
days_under None = empty
days_under (Some u) = u.holding.days

-- Of each item, or each skill (`under` picks which), that is not marked, each unit has as much in `before` as in
-- `after`, or it is listed in neither. A unit that isn't there lists nothing. `goods` has the units all of whose goods
-- are marked, `things` the single marks.
abbrev pub SameThings : FinSet nat_cmp → MarkedThings → (Option Unit → FinMap nat_cmp ℕ) → FinMap nat_cmp Unit
    → FinMap nat_cmp Unit → Type 0
SameThings goods things under before after =
    (n thing : ℕ) → is_thing_marked goods things n thing ≡ false
    → get (under (get after n)) thing ≡ get (under (get before n)) thing

-- what the campaign row says of a campaign: its month, its pass text and its next numbers
abbrev pub said_by_campaign_row : CampaignValue → ℕ × (List ℕ × (ℕ × (ℕ × ℕ)))
said_by_campaign_row c = (c.month, (c.pass, (c.next_faction, (c.next_unit, c.next_structure))))

-- All that is not marked in the marks m is the same in the campaigns `before` and `after`. Nothing is said of how many
-- things the books have, nor of whether a stock of 0, or an amount of 0 of the books, is listed.
pub record Covers (m : Marks) (before after : CampaignValue) : Type 0 where
  pub factions : SameBut m.factions before.factions after.factions
  -- A region whose row is not marked is the same in both campaigns but for its stocks, or is in neither.
  pub regions :
      (n : ℕ) → contains m.regions n ≡ false
      → option_map unstocked (get after.regions n) ≡ option_map unstocked (get before.regions n)
  -- A stock that is not marked is the same in both campaigns; one that isn't listed, or of no region, counts as 0.
  pub stocks :
      (n item : ℕ) → is_thing_marked m.stocks m.stock_items n item ≡ false → stock_of after n item ≡ stock_of before n item
  pub structures : SameBut m.structures before.structures after.structures
  pub mail : SameBut m.mail before.mail after.mail
  pub reports : SameBut m.reports before.reports after.reports
  -- A unit whose row is not marked is the same in the campaigns before and after but for its goods, or is in neither.
  pub units : (n : ℕ) → contains m.rows n ≡ false → option_map without_goods (get after.units n) ≡ option_map without_goods (get before.units n)
  -- what a unit has of an item that is not marked is the same in the campaigns before and after, or listed in neither
  pub items : SameThings m.goods m.items items_under before.units after.units
  -- a unit's days of a skill that is not marked are the same in the campaigns before and after, or listed in neither
  pub days : SameThings m.goods m.skills days_under before.units after.units
  -- An amount of the books that is not marked is the same in both; one that isn't listed counts as 0.
  pub books :
      (e : BooksEntry) (t : Thing) → contains m.books (amount_number e t) ≡ false
      → amount_in after.books e t ≡ amount_in before.books e t
  -- the month, the pass text and the next numbers are the same in both if the campaign row is not marked
  pub row : m.row ≡ false → said_by_campaign_row after ≡ said_by_campaign_row before

-- each number in the first dirty set is in the second: what was marked before some changes is marked after them
abbrev pub StaysMarked : FinSet nat_cmp → FinSet nat_cmp → Type 0
StaysMarked before after = (n : ℕ) → contains before n ≡ true → contains after n ≡ true

-- Each item, skill or stock that is marked before some changes is marked after them. It is marked by itself (`things`,
-- after them `things_after`) or with all of its unit or region (`goods`, after them `goods_after`).
abbrev pub ThingsStayMarked : (goods : FinSet nat_cmp) (things : MarkedThings)
    (goods_after : FinSet nat_cmp) (things_after : MarkedThings) → Type 0
ThingsStayMarked goods things goods_after things_after =
    (n thing : ℕ) → is_thing_marked goods things n thing ≡ true → is_thing_marked goods_after things_after n thing ≡ true

-- no mark is lost: all that is marked in the marks `before` some changes is marked in the marks `after` them
pub record StayMarked (before after : Marks) : Type 0 where
  pub factions : StaysMarked before.factions after.factions
  pub regions : StaysMarked before.regions after.regions
  pub markets : StaysMarked before.markets after.markets
  pub stocks : ThingsStayMarked before.stocks before.stock_items after.stocks after.stock_items
  pub structures : StaysMarked before.structures after.structures
  pub mail : StaysMarked before.mail after.mail
  pub reports : StaysMarked before.reports after.reports
  pub units : StaysMarked before.units after.units
  pub rows : StaysMarked before.rows after.rows
  pub goods : StaysMarked before.goods after.goods
  pub items : ThingsStayMarked before.goods before.items after.goods after.items
  pub skills : ThingsStayMarked before.goods before.skills after.goods after.skills
  pub books : StaysMarked before.books after.books
  pub row : before.row ≡ true → after.row ≡ true

-- from one marked campaign to another no mark is lost, and all that changed is marked. How many things the books have,
-- and whether a 0 is listed as a stock or an amount of the books, needs no mark.
pub record MarksChanges (before after : MarkedCampaign) : Type 0 where
  pub stay : StayMarked before.marks after.marks
  pub covers : Covers after.marks before.value after.value
