-- What a join changes in a campaign, and when it is refused. See docs/RULES.md, "Joining".
use Rattle.std.specs.Prelude.{◌≡◌, ◌+◌, ◌%◌, ◌||◌, ◌++◌, List, ℕ, pos, Bool, false, nat_le, nat_lt, nat_eq, codes, length, slice_index, if◌then◌else◌, Result, Ok, Err}
use Rattle.std.specs.List.{list_any}
use Rattle.std.specs.Fmt.{decimal}
use Rattle.std.specs.Cmp.Lexicographic.{pointwise}
use Rattle.std.specs.FinMap.{insert, entries, len, empty}
use Rattle.atl_world.specs.Worlds.{WorldValue, land_of}
use Rattle.atl_words.specs.Limits.{last_faction}
use Rattle.atl_records.specs.Limits.{most_units, last_unit}
use Rattle.atl_records.specs.declared.books.BooksEntry.TheVariants.{Joining}
use Rattle.atl_records.specs.declared.books.Thing.TheVariants.{Money, People}
use Rattle.atl_records.specs.declared.records.Faction.{Faction}
use Rattle.atl_records.specs.declared.records.Unit.{Unit}
use Rattle.atl_records.specs.declared.records.JoinFault.{JoinFault}
use Rattle.atl_records.specs.declared.records.JoinFault.TheVariants.{NameTaken, Full, Memory}
use Rattle.atl_records.specs.Books.{after_booking}
use Rattle.atl_campaign.specs.Campaign.{CampaignValue}

-- whether a faction, gone or not, joined under exactly this name
abbrev pub name_taken : CampaignValue → List ℕ → Bool
name_taken c name = list_any (λ e. pointwise nat_eq e.1.joined_as name) (entries c.factions)

-- whether at least 9,999 factions have joined, there are at least 100,000 units, or the next unit number is above
-- 999,999,999
abbrev pub is_full : CampaignValue → Bool
is_full c = (nat_le last_faction (len c.factions) || nat_le most_units (len c.units)) || nat_lt last_unit c.next_unit

-- The number of the region where a faction begins: the land region at index `word` modulo the count of land regions.
-- `word` is a word of the dice. Land regions are in the order of their numbers, from index 0; each world has one.
abbrev pub home_of : WorldValue → ℕ → ℕ
home_of w word = slice_index (land_of w) (word % length (land_of w))

-- a faction as it joins, with the given number, name and pass text: not gone, and joined under that name
abbrev pub new_faction : ℕ → List ℕ → List ℕ → Faction
new_faction number name pass = record { number = number; joined_as = name; name = name; pass = pass; gone = false }

-- the unit of a faction that joins c: one man with the start money, no items or days of study, and the name `Unit` with
-- the next unit number. It is of the faction with the next number, in the land region that `word`, a word of the dice,
-- picks (`home_of`), and inside no structure. Its guard flag is clear.
abbrev pub first_unit : WorldValue → ℕ → CampaignValue → Unit
first_unit w word c = record {
  faction = c.next_faction;
  region = home_of w word;
  structure = 0;
  holding = record {
    name = codes "Unit " ++ decimal c.next_unit;
    men = 1;
    money = w.rules.start_money;
    guard = false;
    items = empty;
    days = empty;
  };
}

-- the campaign with a faction of the given name and pass text, and its unit, put under the next numbers, which rise by
-- one. The start money and one man are booked under Joining. The word of the dice, a number, picks where the unit is.
unfoldable pub after_join : WorldValue → List ℕ → List ℕ → ℕ → CampaignValue → CampaignValue
after_join w name pass word c = record c {
  next_faction = c.next_faction + 1;
  next_unit = c.next_unit + 1;
  factions = insert c.factions c.next_faction (new_faction c.next_faction name pass);
  units = insert c.units c.next_unit (first_unit w word c);
  books = after_booking (after_booking c.books Joining Money (pos w.rules.start_money)) Joining People (pos 1);
}

-- What a join with a name, a pass text and a word of the dice gives: NameTaken if the name is taken, or else Full if
-- the campaign is full. Else it gives the new campaign with the numbers of the faction and its unit.
unfoldable pub join_of : WorldValue → List ℕ → List ℕ → ℕ → CampaignValue → Result (CampaignValue × (ℕ × ℕ)) JoinFault
join_of w name pass word c =
    if name_taken c name then Err NameTaken
    else (if is_full c then Err Full
    else Ok (after_join w name pass word c, (c.next_faction, c.next_unit)))

-- what `join`, with a name, a pass text and a word of the dice, may answer: what the definition `join_of` gives, or
-- Memory. `numbers` are those of the faction and its unit. `old` is the campaign before the call, and `new` that after
-- it, which after NameTaken, Full or Memory is the same.
abbrev pub Joins : WorldValue → List ℕ → List ℕ → ℕ → CampaignValue → Result (ℕ × ℕ) JoinFault → CampaignValue → Type 0
Joins w name pass word old (Ok numbers) new = join_of w name pass word old ≡ Ok (new, numbers)
Joins w name pass word old (Err NameTaken) new = (join_of w name pass word old ≡ Err NameTaken) × (new ≡ old)
Joins w name pass word old (Err Full) new = (join_of w name pass word old ≡ Err Full) × (new ≡ old)
Joins w name pass word old (Err Memory) new = new ≡ old
