-- The rules of a campaign, and which of them hold when: between commands (IsGood), after a join whose report isn't
-- stored yet (IsSound), and within a month (IsSteady). Up to the phase RECRUIT it is IsEarly too.
-- See docs/FORMATS.md, "Rules of the tables".
use Rattle.std.specs.Prelude.{◌≡◌, ◌≢◌, ◌≤◌, ◌<◌, ◌+◌, ◌*◌, ◌&&◌, ◌↔◌, ℕ, Bool, List, [], IsTrue, true, false, nat_lt, length, Some, None, IsSome}
use Rattle.std.specs.Ordering.{nat_cmp}
use Rattle.std.specs.FinMap.{FinMap, empty, get, len}
use Rattle.atl_world.specs.ByNumber as of_world
use Rattle.atl_world.specs.ByNumber.{is_land_at, market_of, size_of}
use Rattle.atl_world.specs.Limits.{most_amount, most_regions}
use Rattle.atl_world.specs.Names.{name_ok, pass_ok}
use Rattle.atl_world.specs.Worlds.{WorldValue}
use Rattle.atl_words.specs.Limits.{last_faction}
use Rattle.atl_words.specs.Header.{IsMailingOf}
use Rattle.atl_records.specs.Limits.{last_month, last_unit, most_days, most_in_joining, most_in_month, most_structures, most_units}
use Rattle.atl_records.specs.declared.books.BooksEntry.{BooksEntry}
use Rattle.atl_records.specs.declared.books.Thing.{Thing}
use Rattle.atl_records.specs.declared.records.Faction.{Faction}
use Rattle.atl_records.specs.declared.records.Region.{Region}
use Rattle.atl_records.specs.declared.records.Structure.{Structure}
use Rattle.atl_records.specs.declared.records.Unit.{Unit}
use Rattle.atl_records.specs.Books.{amount_in, AreBooks, IsWithin}
use Rattle.atl_campaign.specs.Founding.{thing_count}
use Rattle.atl_records.specs.Holdings.{IsHolding}
use Rattle.atl_campaign.specs.Campaign.{CampaignValue, numbers_of_faction}
use Rattle.atl_campaign.specs.Stocks.{stock_limit}
use Rattle.atl_campaign.specs.Totals.{Balances}
use Rattle.atl_world.specs.Every.{Every, HasValue}

-- there is a faction n, and it is not gone
abbrev pub IsActive : CampaignValue → ℕ → Type 0
IsActive c n = (f : Faction) × (get c.factions n ≡ Some f) × (f.gone ≡ false)

-- ---- of numbers: each is in its range, and there are not too many things

-- how large an amount of the books may be, without its sign: 2*10^14*(month last closed + 1) + 10^9*(count of factions)
abbrev pub amount_bound : CampaignValue → ℕ
amount_bound c = most_in_month * (c.month + 1) + most_in_joining * len c.factions

-- each stock that is listed of region n is from 1 to its market's limit, or to 999,999,999 without a market
abbrev pub AreStocks : WorldValue → ℕ → FinMap nat_cmp ℕ → Type 0
AreStocks w n stocks = Every (λ i amount. (1 ≤ amount) × (amount ≤ stock_limit w n i)) stocks

-- region n has at most 999,999,999 peasants, at most 999,999,999 money, and listed stocks in their ranges (AreStocks)
pub record IsRegion (w : WorldValue) (n : ℕ) (r : Region) : Type 0 where
  pub peasants : r.peasants ≤ most_amount
  pub money : r.money ≤ most_amount
  pub stocks : AreStocks w n r.stocks

-- there are not too many factions, regions, units and structures, and numbers are in range; a unit may have no men
pub record AreInRange (w : WorldValue) (c : CampaignValue) : Type 0 where
  -- the month last closed is at most 9,999
  pub month : c.month ≤ last_month
  -- there are at most 9,999 factions
  pub few_factions : len c.factions ≤ last_faction
  -- there are at most 10,000 regions
  pub few_regions : len c.regions ≤ most_regions
  -- there are at most 100,000 units
  pub few_units : len c.units ≤ most_units
  -- there are at most 10,000 structures
  pub few_structures : len c.structures ≤ most_structures
  -- the next unit number is at least 1
  pub next_unit_least : 1 ≤ c.next_unit
  -- the next unit number is at most one above the last that a unit may have
  pub next_unit_most : c.next_unit ≤ last_unit + 1
  -- each faction is stored under the number that the faction has itself
  pub factions : Every (λ n f. f.number ≡ n) c.factions
  -- the peasants, the money and the stocks of each region are in their ranges
  pub regions : Every (λ n r. IsRegion w n r) c.regions
  -- the number of each unit is at least 1, and its men, money and items are in their ranges (`IsHolding`)
  pub units : Every (λ n u. (1 ≤ n) × IsHolding u.holding) c.units
  -- of each structure at least 1 is done, and at most its kind's size, or 999,999 where the world has no such kind
  pub structures : Every (λ n s. (1 ≤ s.done) × (s.done ≤ size_of w s.kind)) c.structures
  -- the books have as many things as the world, and each amount they list is of one of these things and not 0
  pub books : AreBooks (thing_count w) c.books

-- each amount of the books, without its sign, is at most `amount_bound`
abbrev pub AreAmountsWithin : CampaignValue → Type 0
AreAmountsWithin c = (e : BooksEntry) (t : Thing) → IsWithin (amount_bound c) (amount_in c.books e t)

-- each unit has at least one man
abbrev pub HaveMen : CampaignValue → Type 0
HaveMen c = Every (λ n u. 1 ≤ u.holding.men) c.units

-- ---- of names

-- names and pass texts keep their rules, and no two factions joined under the same name
pub record AreNamed (c : CampaignValue) : Type 0 where
  -- the moderator's pass text keeps the rule of pass texts
  pub pass : IsTrue (pass_ok c.pass)
  -- both names and the pass text of each faction keep their rules
  pub factions : Every (λ n f. IsTrue (name_ok f.joined_as) × IsTrue (name_ok f.name) × IsTrue (pass_ok f.pass)) c.factions
  -- no two factions joined under the same name
  pub joined : Every (λ n f. Every (λ m g. f.joined_as ≡ g.joined_as → n ≡ m) c.factions) c.factions
  -- the name of each unit keeps the rule of names
  pub units : Every (λ n u. IsTrue (name_ok u.holding.name)) c.units
  -- the name of each structure keeps the rule of names
  pub structures : Every (λ n s. IsTrue (name_ok s.name)) c.structures

-- ---- of what is named by its number: all of it exists

-- all that a unit names by number exists: its faction, region and structure are among the given ones, its items and
-- skills in the world. The structure is in the unit's region; 0 is no structure.
pub record IsPlacedAmong (w : WorldValue) (factions : FinMap nat_cmp Faction) (regions : FinMap nat_cmp Region)
    (structures : FinMap nat_cmp Structure) (u : Unit) : Type 0 where
  -- the unit's faction exists
  pub faction : HasValue factions u.faction
  -- the unit's region exists
  pub region : HasValue regions u.region
  -- the structure that the unit is inside, unless 0 (none), exists and is in the unit's region
  pub structure : u.structure ≢ 0 → (s : Structure) × (get structures u.structure ≡ Some s) × (s.region ≡ u.region)
  -- each item that is listed of the unit exists in the world
  pub items : Every (λ i amount. i < length w.items) u.holding.items
  -- each skill that is listed of the unit exists in the world
  pub skills : Every (λ s days. s < length w.skills) u.holding.days

-- all that a unit names by number exists: its faction, region and structure in the campaign, its items and skills in
-- the world. The structure is in the unit's region; 0 is no structure.
abbrev pub IsPlaced : WorldValue → CampaignValue → Unit → Type 0
IsPlaced w c u = IsPlacedAmong w c.factions c.regions c.structures u

-- all that a structure names by number exists: its kind in the world, its region among the given ones, and its owner,
-- unless 0 (nobody), among the given units
pub record IsBuiltAmong (w : WorldValue) (regions : FinMap nat_cmp Region) (units : FinMap nat_cmp Unit)
    (s : Structure) : Type 0 where
  -- the structure's kind exists in the world
  pub kind : s.kind < length w.kinds
  -- the structure's region exists
  pub region : HasValue regions s.region
  -- the structure's owner, unless 0 (nobody), is a unit that exists
  pub owner : s.owner ≢ 0 → HasValue units s.owner

-- all that a structure names by number exists: its kind in the world, its region in the campaign, and its owner,
-- unless 0 (nobody), among the campaign's units
abbrev pub IsBuilt : WorldValue → CampaignValue → Structure → Type 0
IsBuilt w c s = IsBuiltAmong w c.regions c.units s

-- each item whose stock is listed of region n has a market there in the world
abbrev pub AreOfMarkets : WorldValue → ℕ → FinMap nat_cmp ℕ → Type 0
AreOfMarkets w n stocks = Every (λ i amount. IsSome (market_of w n i)) stocks

-- all mail (`sent`) and all reports (`reported`) are of the given factions
pub record AreOfFactions (factions : FinMap nat_cmp Faction) (sent reported : FinMap nat_cmp (List ℕ)) : Type 0 where
  -- each mail is of a faction that exists
  pub mail : Every (λ n text. HasValue factions n) sent
  -- each report is of a faction that exists
  pub reports : Every (λ n text. HasValue factions n) reported

-- all mail and reports of the campaign are of factions that exist
abbrev pub ArePosted : CampaignValue → Type 0
ArePosted c = AreOfFactions c.factions c.mail c.reports

-- the campaign's regions are the world's, and everything that is named by a number exists
pub record AreKnown (w : WorldValue) (c : CampaignValue) : Type 0 where
  -- the numbers of the campaign's regions are those of the world's regions
  pub regions : (n : ℕ) → HasValue c.regions n ↔ HasValue w.regions n
  -- each stock that is listed of a region is of an item that has a market there in the world
  pub markets : Every (λ n r. AreOfMarkets w n r.stocks) c.regions
  -- the faction, region, items and skills of each unit exist; its structure, unless that is 0 (none), exists and is in
  -- the unit's region
  pub units : Every (λ n u. IsPlaced w c u) c.units
  -- the kind and the region of each structure exist, and so does its owner, unless that is 0 (nobody)
  pub structures : Every (λ n s. IsBuilt w c s) c.structures
  -- all mail and all reports are of factions that exist
  pub posts : ArePosted c

-- ---- of the numbers that come next

-- the numbers of the map are exactly those from 1 to `next - 1`
pub record IsNumbered {V : Type 0} (m : FinMap nat_cmp V) (next : ℕ) : Type 0 where
  -- the map has nothing under the number 0
  pub first : get m 0 ≡ None
  -- `next` is one above how many numbers have a value in the map
  pub count : next ≡ len m + 1
  -- the map has nothing under `next` or any number above it
  pub free : (n : ℕ) → next ≤ n → get m n ≡ None

-- factions and structures are numbered from 1 without a gap, and no unit has the next unit number or a greater one
pub record AreNumbered (c : CampaignValue) : Type 0 where
  -- the numbers of the factions are exactly those from 1 to one below the next faction number
  pub factions : IsNumbered c.factions c.next_faction
  -- the numbers of the structures are exactly those from 1 to one below the next structure number
  pub structures : IsNumbered c.structures c.next_structure
  -- no unit has the next unit number or a greater one
  pub units : (n : ℕ) → c.next_unit ≤ n → get c.units n ≡ None

-- ---- of days: 1 to 450 for each man

-- each skill that is listed of a unit has at least 1 day, and at most 450 for each of its men
abbrev pub AreDays : CampaignValue → Type 0
AreDays c = Every (λ n u. Every (λ s days. (1 ≤ days) × (days ≤ most_days * u.holding.men)) u.holding.days) c.units

-- ---- of factions that are gone: they have no unit, and no other faction is without

-- each faction that is gone has no unit
abbrev pub GoneHaveNone : CampaignValue → Type 0
GoneHaveNone c = Every (λ n f. f.gone ≡ true → numbers_of_faction n c.units ≡ []) c.factions

-- each faction without units is gone
abbrev pub UnitlessAreGone : CampaignValue → Type 0
UnitlessAreGone c = Every (λ n f. numbers_of_faction n c.units ≡ [] → f.gone ≡ true) c.factions

-- ---- of owners

-- the owner of structure n is one of the given units inside the structure, or 0 (nobody) where none of them is inside
pub record IsOwnedAmong (units : FinMap nat_cmp Unit) (n : ℕ) (s : Structure) : Type 0 where
  -- if the structure has an owner, this is a unit that exists and is inside the structure
  pub owned : s.owner ≢ 0 → (u : Unit) × (get units s.owner ≡ Some u) × (u.structure ≡ n)
  -- if the structure has no owner, no unit is inside it
  pub ownerless : s.owner ≡ 0 → Every (λ m u. u.structure ≢ n) units

-- the owner of structure n is one of the campaign's units inside the structure, or 0 (nobody) where no unit is inside
abbrev pub IsOwned : CampaignValue → ℕ → Structure → Type 0
IsOwned c n s = IsOwnedAmong c.units n s

-- each structure is owned by a unit inside it, or by nobody where no unit is inside
abbrev pub AreOwned : CampaignValue → Type 0
AreOwned c = Every (λ n s. IsOwned c n s) c.structures

-- ---- of water: a unit is inside a ship there, and a structure is a complete ship

-- whether the kind of a structure is a ship; false where the world has no such kind
abbrev pub is_ship : WorldValue → Structure → Bool
is_ship w s = of_world.is_ship w s.kind

-- the structure that a unit is inside is there, and is a ship
abbrev pub IsAboard : WorldValue → CampaignValue → Unit → Type 0
IsAboard w c u = (s : Structure) × (get c.structures u.structure ≡ Some s) × (is_ship w s ≡ true)

-- Each unit on water is inside a ship, and each structure on water is a complete ship. A region that the world doesn't
-- have, or whose terrain it doesn't have, counts as water here.
pub record AreAfloat (w : WorldValue) (c : CampaignValue) : Type 0 where
  -- each unit in a region on water is inside a ship
  pub units : Every (λ n u. is_land_at w u.region ≡ false → IsAboard w c u) c.units
  -- each structure in a region on water is a ship, and complete
  pub structures : Every (λ n s. is_land_at w s.region ≡ false → (is_ship w s ≡ true) × (s.done ≡ size_of w s.kind)) c.structures

-- ---- of guards

-- whether a unit guards: its guard flag is set, and it has men
abbrev pub guards : Unit → Bool
guards u = u.holding.guard && nat_lt 0 u.holding.men

-- in each region, all units that pass the test, which says who counts as a guard, are of one faction
abbrev pub AreOfOneFaction : (Unit → Bool) → CampaignValue → Type 0
AreOfOneFaction test c =
    Every (λ n u. Every (λ m v. test u ≡ true → test v ≡ true → u.region ≡ v.region → u.faction ≡ v.faction) c.units) c.units

-- ---- of mail and reports

-- each mail is of a faction that is there and not gone, and is a mailing of it: it has at most 65,536 bytes, and its
-- header has the faction's number
abbrev pub HasValidMail : CampaignValue → Type 0
HasValidMail c = Every (λ n text. IsMailingOf n text × IsActive c n) c.mail

-- each faction has a report
abbrev pub AreReported : CampaignValue → Type 0
AreReported c = Every (λ n f. HasValue c.reports n) c.factions

-- ---- of stocks

-- No region has anything in stock. This is no rule of campaigns: only a campaign of the first format has to be so, as
-- that has no table of markets.
abbrev pub HasNoStocks : CampaignValue → Type 0
HasNoStocks c = Every (λ n r. r.stocks ≡ empty) c.regions

-- ---- the campaigns

-- a campaign within a month: the rules on numbers, names, what is named by number, next numbers, days, owners, water
-- and guards hold, and gone factions have no units. Unlike in a good campaign, a unit may have no men, and a faction
-- without units needn't be gone yet. Nor need the books balance or be within their bound, mail be valid, or factions
-- have reports.
pub record IsSteady (w : WorldValue) (c : CampaignValue) : Type 0 where
  -- there are not too many factions, regions, units and structures, and all numbers are in their ranges
  pub numbers : AreInRange w c
  -- names and pass texts keep their rules, and no two factions joined under the same name
  pub names : AreNamed c
  -- the regions are the world's, and everything that is named by a number exists
  pub known : AreKnown w c
  -- factions and structures are numbered without a gap, and the next unit number is above all units' numbers
  pub next : AreNumbered c
  -- each skill that is listed of a unit has at least 1 day, and at most 450 for each of the unit's men
  pub days : AreDays c
  -- each faction that is gone has no unit
  pub gone : GoneHaveNone c
  -- each structure is owned by a unit inside it, or by nobody where no unit is inside
  pub owners : AreOwned c
  -- each unit on water is inside a ship, and each structure on water is a complete ship
  pub water : AreAfloat w c
  -- all units of a region that guard, which takes the flag and men, are of one faction
  pub guarded : AreOfOneFaction guards c

-- a steady campaign in which all guard flags set in a region are of one faction, also those of units without men; the
-- phases up to RECRUIT need and leave it so
pub record IsEarly (w : WorldValue) (c : CampaignValue) : Type 0 where
  pub steady : IsSteady w c
  -- all units of a region whose guard flags are set, with men or without, are of one faction
  pub flags : AreOfOneFaction (λ u. u.holding.guard) c

-- a campaign that keeps all rules of a good one, but that factions may lack reports, as one that has just joined does
pub record IsSound (w : WorldValue) (c : CampaignValue) : Type 0 where
  pub steady : IsSteady w c
  -- each unit has at least one man
  pub men : HaveMen c
  -- each amount of the books, without its sign, is at most `amount_bound`
  pub amounts : AreAmountsWithin c
  -- each faction without units is gone
  pub gone : UnitlessAreGone c
  -- the books of the campaign balance
  pub balances : Balances c
  -- each mail is of a faction that is there and not gone, and is a mailing of it (`IsMailingOf`)
  pub mail : HasValidMail c

-- a good campaign, one that keeps all rules, as it is between commands: a sound one in which each faction has a report
pub record IsGood (w : WorldValue) (c : CampaignValue) : Type 0 where
  pub sound : IsSound w c
  pub reported : AreReported c
