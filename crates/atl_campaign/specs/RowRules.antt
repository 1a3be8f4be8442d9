-- The rules that are about rows, and not about the campaign read from them: rules 1 to 3, and parts of rules 4 and 11.
-- Not among them are the world text of rule 1, and of rule 2 the types of values and UTF-8.
-- See docs/FORMATS.md, "Rules of the tables". A name as `faction` is that of a table; the table `has` has the items and
-- days of study of units. A number that refers to something, or is looked up, is read by `as_u32` (of a kind `as_u16`):
-- one that doesn't fit counts as the largest. Keys are compared as they are stored. The campaign row is the first, or
-- `no_campaign_row` where there is none.
use Rattle.std.specs.Prelude.{◌+◌, ◌*◌, ◌==◌, ℕ, ℤ, pos, Bool, false, true, not, ◌&&◌, ◌||◌, nat_le, nat_lt, nat_abs, is_some, IsTrue, List, [], ◌∷◌, length, map}
use Rattle.std.specs.List.{list_all, IsDistinct}
use Rattle.std.specs.declared.cmp.Ordering.{Ordering}
use Rattle.std.specs.Ordering.{int_cmp, eq_by_cmp, ordering_then, nat_cmp}
use Rattle.std.specs.Cmp.Lexicographic.{slice_cmp}
use Rattle.atl_world.specs.Formats.{format_number}
use Rattle.atl_world.specs.Limits.{most_amount, most_regions}
use Rattle.atl_world.specs.Names.{name_ok, pass_ok}
use Rattle.atl_world.specs.Worlds.{WorldValue}
use Rattle.atl_world.specs.ByNumber.{market_of, size_of}
use Rattle.atl_world.specs.declared.format.Format.{Format}
use Rattle.atl_world.specs.declared.format.Format.TheVariants.{First, Second}
use Rattle.atl_words.specs.Limits.{last_faction}
use Rattle.atl_records.specs.Limits.{entries_in, holding_limit, last_month, last_unit, most_in_joining, most_in_month, most_structures, most_units}
use Rattle.atl_rows.specs.declared.parts.Parts.{Parts}
use Rattle.atl_rows.specs.declared.parts.StoredCampaignRow.{StoredCampaignRow}
use Rattle.atl_rows.specs.declared.parts.StoredFaction.{StoredFaction}
use Rattle.atl_rows.specs.declared.parts.StoredRegion.{StoredRegion}
use Rattle.atl_rows.specs.declared.parts.StoredUnit.{StoredUnit}
use Rattle.atl_rows.specs.declared.parts.StoredHas.{StoredHas}
use Rattle.atl_rows.specs.declared.parts.StoredStructure.{StoredStructure}
use Rattle.atl_rows.specs.declared.parts.StoredMail.{StoredMail}
use Rattle.atl_rows.specs.declared.parts.StoredReport.{StoredReport}
use Rattle.atl_rows.specs.declared.parts.StoredBooks.{StoredBooks}
use Rattle.atl_rows.specs.declared.parts.StoredMarket.{StoredMarket}
use Rattle.atl_campaign.specs.FromRows.{as_u32, as_u16, campaign_row_of}
use Rattle.atl_campaign.specs.Founding.{thing_count}
use Rattle.atl_campaign.specs.Campaign.{CampaignValue}
pub use Rattle.atl_rows.specs.RowValues.{is_from}
pub use Rattle.atl_campaign.specs.UnitRows.{unit_in_range}
use Rattle.std.specs.FinMap.{get}
use Rattle.atl_campaign.specs.Rows.{is_zero}
use Rattle.atl_campaign.specs.Stocks.{stock_limit}

-- whether there is exactly one campaign row, with the id 1 and the number of the given format
abbrev pub is_one_campaign_row : Format → List StoredCampaignRow → Bool
is_one_campaign_row f [] = false
is_one_campaign_row f (h ∷ []) = is_from 1 1 h.id && is_from (format_number f) (format_number f) h.format
is_one_campaign_row f (h ∷ other ∷ rows) = false

-- whether a format may have the given rows of `market`: the first none, the second any
abbrev pub are_of_format : Format → List StoredMarket → Bool
are_of_format First rows = length rows == 0
are_of_format Second rows = true

-- whether a number is from -bound to bound
abbrev pub is_within : ℕ → ℤ → Bool
is_within bound z = nat_le (nat_abs z) bound

-- whether the campaign row's month is 0 to 9,999, and its next numbers of a faction, a unit and a structure are from 1
-- to 10,000, to 1,000,000,000 and to 10,001
abbrev pub campaign_row_in_range : StoredCampaignRow → Bool
campaign_row_in_range h =
    ((is_from 0 last_month h.month && is_from 1 (last_faction + 1) h.next_faction)
    && is_from 1 (last_unit + 1) h.next_unit)
    && is_from 1 (most_structures + 1) h.next_structure

-- whether the number of a row of `faction` is 1 to 9,999, and its flag `gone` 0 or 1
abbrev pub faction_in_range : StoredFaction → Bool
faction_in_range r = is_from 1 last_faction r.number && is_from 0 1 r.gone

-- whether the peasants and the money of a row of `region` are each 0 to 999,999,999
abbrev pub region_in_range : StoredRegion → Bool
region_in_range r = is_from 0 most_amount r.peasants && is_from 0 most_amount r.money

-- whether a row of `has` is of a skill (sort 1), with any amount of days, or of 1 to 999,999,999 of an item (sort 0)
abbrev pub has_in_range : StoredHas → Bool
has_in_range r = is_from 1 1 r.sort || (is_from 0 0 r.sort && is_from 1 holding_limit r.amount)

-- Whether the number of a row of `structure` is 1 to 10,000, and how much of it is done 1 to its kind's size. A kind
-- that the world doesn't have counts as one of size 999,999.
abbrev pub structure_in_range : WorldValue → StoredStructure → Bool
structure_in_range w r = is_from 1 most_structures r.number && is_from 1 (size_of w (as_u16 r.kind)) r.done

-- How large an amount of the books may be, without its sign: 2*10^14*(month + 1) + 10^9*factions. The month is that of
-- the campaign row (`as_u32`), and `factions` how many rows of `faction` there are.
abbrev pub books_bound : Parts → ℕ
books_bound p = most_in_month * (as_u32 (campaign_row_of p).month + 1) + most_in_joining * length p.factions

-- whether the amount of a row of `books` is not 0, and without its sign at most `bound`
abbrev pub books_in_range : ℕ → StoredBooks → Bool
books_in_range bound r = not (is_zero r.amount) && is_within bound r.amount

-- whether the stock of a row of `market` is from 1 to its market's limit, or to 999,999,999 where there is no market
abbrev pub market_in_range : WorldValue → StoredMarket → Bool
market_in_range w r = is_from 1 (stock_limit w (as_u32 r.region) (as_u32 r.item)) r.stock

-- the key of a row as three numbers; those that its table's key doesn't have are 0
abbrev pub Key : Type 0
Key = ℤ × ℤ × ℤ

-- the order of keys: by the first number, then by the second, then by the third
abbrev pub key_cmp : Key → Key → Ordering
key_cmp a b = ordering_then (ordering_then (int_cmp a.0 b.0) (int_cmp a.1 b.1)) (int_cmp a.2 b.2)

-- the key whose first number is n, and whose others are 0, for tables whose key is one number
abbrev pub one_key : ℤ → Key
one_key n = (n, pos 0, pos 0)

-- the key of a row of `faction`: its number
abbrev pub faction_key : StoredFaction → Key
faction_key r = one_key r.number

-- the key of a row of `region`: its number
abbrev pub region_key : StoredRegion → Key
region_key r = one_key r.number

-- the key of a row of `unit`: its number
abbrev pub unit_key : StoredUnit → Key
unit_key r = one_key r.number

-- the key of a row of `has`: its unit, its sort (0 items, 1 days), and its thing, which is an item or a skill
abbrev pub has_key : StoredHas → Key
has_key r = (r.unit, r.sort, r.thing)

-- the key of a row of `structure`: its number
abbrev pub structure_key : StoredStructure → Key
structure_key r = one_key r.number

-- the key of a row of `mail`: its faction
abbrev pub mail_key : StoredMail → Key
mail_key r = one_key r.faction

-- the key of a row of `report`: its faction
abbrev pub report_key : StoredReport → Key
report_key r = one_key r.faction

-- the key of a row of `books`: its entry and thing
abbrev pub books_key : StoredBooks → Key
books_key r = (r.entry, r.thing, pos 0)

-- the key of a row of `market`: its region and item
abbrev pub market_key : StoredMarket → Key
market_key r = (r.region, r.item, pos 0)

-- no two rows of a table have the same key, as the function `key` gives it
abbrev pub HaveDistinctKeys : {R : Type 0} → (R → Key) → List R → Type 0
HaveDistinctKeys key rows = IsDistinct (eq_by_cmp key_cmp) (map key rows)

-- no two rows of a table have the same key, in each table but `campaign`
pub record HaveDistinctKeysByTable (p : Parts) : Type 0 where
  pub factions : HaveDistinctKeys faction_key p.factions
  pub regions : HaveDistinctKeys region_key p.regions
  pub units : HaveDistinctKeys unit_key p.units
  pub has : HaveDistinctKeys has_key p.has
  pub structures : HaveDistinctKeys structure_key p.structures
  pub mail : HaveDistinctKeys mail_key p.mail
  pub reports : HaveDistinctKeys report_key p.reports
  pub books : HaveDistinctKeys books_key p.books
  pub markets : HaveDistinctKeys market_key p.markets

-- whether there are at most 9,999 factions, 10,000 regions, 100,000 units and 10,000 structures
abbrev pub are_few : Parts → Bool
are_few p =
    ((nat_le (length p.factions) last_faction && nat_le (length p.regions) most_regions)
    && nat_le (length p.units) most_units)
    && nat_le (length p.structures) most_structures

-- whether each row of `faction`, `region`, `unit` and `has` is in its ranges
abbrev pub first_tables_in_range : Parts → Bool
first_tables_in_range p =
    ((list_all faction_in_range p.factions && list_all region_in_range p.regions) && list_all unit_in_range p.units)
    && list_all has_in_range p.has

-- whether the campaign row and all rows of the other tables, but for `mail` and `report`, are in their ranges
abbrev pub numbers_in_range : WorldValue → Parts → Bool
numbers_in_range w p =
    (((campaign_row_in_range (campaign_row_of p) && first_tables_in_range p)
    && list_all (structure_in_range w) p.structures)
    && list_all (books_in_range (books_bound p)) p.books)
    && list_all (market_in_range w) p.markets

-- of rule 2: no two rows of a table but `campaign` have the same key, there are not too many factions, regions, units
-- and structures, and each number that has a range is in it
pub record AreRowsInRange (w : WorldValue) (p : Parts) : Type 0 where
  pub keys : HaveDistinctKeysByTable p
  pub few : IsTrue (are_few p)
  pub numbers : IsTrue (numbers_in_range w p)

-- whether both names and the pass text of a row of `faction` keep their rules
abbrev pub faction_named : StoredFaction → Bool
faction_named r = (name_ok r.joined_as && name_ok r.name) && pass_ok r.pass

-- whether each name of the rows keeps its rule, and each pass text of factions and of the campaign row
abbrev pub are_named : Parts → Bool
are_named p =
    ((pass_ok (campaign_row_of p).pass && list_all faction_named p.factions) && list_all (λ r. name_ok r.name) p.units)
    && list_all (λ r. name_ok r.name) p.structures

-- the names that factions joined under are distinct in the given rows of `faction`
abbrev pub AreJoinedNamesDistinct : List StoredFaction → Type 0
AreJoinedNamesDistinct rows = IsDistinct (eq_by_cmp (slice_cmp nat_cmp)) (map (λ r. r.joined_as) rows)

-- rule 3: names and pass texts keep their rules, and no two factions joined under the same name
pub record AreRowsNamed (p : Parts) : Type 0 where
  pub texts : IsTrue (are_named p)
  pub joined : AreJoinedNamesDistinct p.factions

-- whether a row of `has` is of a unit that the campaign has
abbrev pub is_of_unit : CampaignValue → StoredHas → Bool
is_of_unit c r = is_some (get c.units (as_u32 r.unit))

-- whether a row of `market` is of a market of the world
abbrev pub is_of_market : WorldValue → StoredMarket → Bool
is_of_market w r = is_some (market_of w (as_u32 r.region) (as_u32 r.item))

-- whether the books of a format have an entry of this number: 1 to 13 in the first format, 1 to 16 in the second
abbrev pub is_entry_in : Format → ℕ → Bool
is_entry_in f n = nat_le 1 n && nat_le n (entries_in f)

-- whether a row of `books` is of an entry of the format and of a thing of the world
abbrev pub is_booked : Format → WorldValue → StoredBooks → Bool
is_booked f w r = is_entry_in f (as_u32 r.entry) && nat_lt (as_u32 r.thing) (thing_count w)
