-- What is marked, as rows to be written, after each change of a campaign.
-- c is the campaign before the change, with its marks, and n the number of what changes. A result that is a campaign is
-- the one after the change. A unit's goods are its items and days of study. Structure 0 is none. A unit that lists an
-- item with 0 pieces counts as having another amount than any new one (`has_amount`). Where a stock is marked, its
-- region is put in `markets`.
use Rattle.std.specs.Prelude.{◌≡◌, ◌⊎◌, ◌==◌, ℕ, Bool, true, Option, Some, None, if◌then◌else◌}
use Rattle.std.specs.FinMap.{get, remove, keys}
use Rattle.std.specs.FinSet.{FinSet, insert, union, from_list}
use Rattle.std.specs.Ordering.{nat_cmp}
use Rattle.atl_world.specs.Tracking.{marked_with}
use Rattle.atl_records.specs.declared.books.BooksEntry.TheVariants.{Joining}
use Rattle.atl_records.specs.declared.books.Thing.TheVariants.{Money, People}
use Rattle.atl_records.specs.declared.books.BooksEntry.{BooksEntry}
use Rattle.atl_records.specs.declared.books.Thing.{Thing}
use Rattle.atl_records.specs.declared.records.Region.{Region}
use Rattle.atl_records.specs.declared.records.Unit.{Unit}
use Rattle.atl_campaign.specs.Marks.{Marks, amount_marked, thing_marked}
use Rattle.atl_campaign.specs.Owners.{heir, is_owned_by, with_position}
use Rattle.atl_campaign.specs.Campaign.{MarkedCampaign, with_owner}
use Rattle.atl_campaign.specs.Regions.{MarkedRegions, region_to_restock, region_to_set}
use Rattle.atl_campaign.specs.Roster.{Roster, unit_to_supply}

-- the marks of a campaign, put together from those of its factions, regions, units and so on; `row` says whether the
-- campaign row is marked
abbrev pub marks_of_parts : (factions : FinSet nat_cmp) → MarkedRegions → Roster
    → (structures mail reports books : FinSet nat_cmp) → Bool → Marks
marks_of_parts factions regions units structures mail reports books row = record {
  factions = factions;
  regions = regions.rows;
  markets = regions.markets;
  stocks = regions.stocks;
  stock_items = regions.items;
  units = units.marks;
  rows = units.rows;
  goods = units.goods;
  items = units.items;
  skills = units.skills;
  structures = structures;
  mail = mail;
  reports = reports;
  books = books;
  row = row;
}

-- the marks m with unit n, its row and all its goods marked too; unchanged if the unit given is None
abbrev pub whole_marked : Marks → ℕ → Option Unit → Marks
whole_marked m n u = record m { units = marked_with m.units n u; rows = marked_with m.rows n u; goods = marked_with m.goods n u }

-- the marks after unit n was lent or removed: it, its row and all its goods are marked too, if it was there
abbrev pub mark_unit : MarkedCampaign → ℕ → Marks
mark_unit c n = whole_marked c.marks n (get c.value.units n)

-- the marks after unit n was added: it, its row and all its goods are marked too
abbrev pub mark_unit_added : MarkedCampaign → ℕ → Marks
mark_unit_added c n =
    record c.marks { units = insert c.marks.units n; rows = insert c.marks.rows n; goods = insert c.marks.goods n }

-- the marks after a unit was added under the next unit number: it, its row, goods and the campaign row are marked too
abbrev pub mark_unit_begun : MarkedCampaign → Marks
mark_unit_begun c = record (mark_unit_added c c.value.next_unit) { row = true }

-- the marks after the row of unit n changed, if it is there: it and its row are marked too, and none of its goods
abbrev pub mark_unit_row : MarkedCampaign → ℕ → Marks
mark_unit_row c n = record c.marks {
  units = marked_with c.marks.units n (get c.value.units n);
  rows = marked_with c.marks.rows n (get c.value.units n);
}

-- the marks after unit n's amount of an item was set to `amount`. If the unit is there and had another amount of it,
-- the unit and that item are marked too, not its row.
abbrev pub mark_item : MarkedCampaign → (unit item : ℕ) → ℕ → Marks
mark_item c n item amount =
    let unit = unit_to_supply c.value.units n item amount in
    record c.marks { units = marked_with c.marks.units n unit; items = thing_marked c.marks.items n item unit }

-- the marks after unit n's days of a skill were set: if the unit is there, it and the skill are marked too, not its row
abbrev pub mark_skill : MarkedCampaign → ℕ → ℕ → Marks
mark_skill c n skill = record c.marks {
  units = marked_with c.marks.units n (get c.value.units n);
  skills = thing_marked c.marks.skills n skill (get c.value.units n);
}

-- the campaign with unit n and an item marked, if n is there with another amount of it than `amount`; else unchanged
abbrev pub item_marked : MarkedCampaign → (unit item : ℕ) → ℕ → MarkedCampaign
item_marked c n item amount = record c { marks = mark_item c n item amount }

-- the campaign with unit n and one of its skills marked, if there is such a unit, and nothing else changed
abbrev pub skill_marked : MarkedCampaign → ℕ → ℕ → MarkedCampaign
skill_marked c n skill = record c { marks = mark_skill c n skill }

-- the marks after faction n changed: it is marked too, if it is there
abbrev pub mark_faction : MarkedCampaign → ℕ → Marks
mark_faction c n = record c.marks { factions = marked_with c.marks.factions n (get c.value.factions n) }

-- The marks after a number of region n, which `of` reads, was set to x. If the region is there and had another number,
-- its row is marked too, and none of its stocks.
abbrev pub mark_region : (of : Region → ℕ) → MarkedCampaign → ℕ → ℕ → Marks
mark_region of c n x = record c.marks { regions = marked_with c.marks.regions n (region_to_set of c.value.regions n x) }

-- The marks after the peasants of a region, whose number is given first, were set to the last number. Its row is marked
-- too, if it is there and had others.
abbrev pub mark_peasants : MarkedCampaign → ℕ → ℕ → Marks
mark_peasants = mark_region (λ r. r.peasants)

-- The marks after the money of a region, whose number is given first, was set to the last number. Its row is marked
-- too, if it is there and had another amount.
abbrev pub mark_region_money : MarkedCampaign → ℕ → ℕ → Marks
mark_region_money = mark_region (λ r. r.money)

-- The marks after a stock of a region was set to `amount`. If the region is there and had another amount, that stock is
-- marked too, and no other stock.
abbrev pub mark_stock : MarkedCampaign → (region item : ℕ) → ℕ → Marks
mark_stock c n item amount =
    let region = region_to_restock c.value.regions n item amount in
    record c.marks {
      markets = marked_with c.marks.markets n region;
      stock_items = thing_marked c.marks.stock_items n item region;
    }

-- The marks after a stock of a region was set to `amount` without memory for a mark of its own. If the region is there
-- and had another amount, all its stocks are marked too.
abbrev pub mark_all_stocks : MarkedCampaign → (region item : ℕ) → ℕ → Marks
mark_all_stocks c n item amount =
    let region = region_to_restock c.value.regions n item amount in
    record c.marks { markets = marked_with c.marks.markets n region; stocks = marked_with c.marks.stocks n region }

-- m has the marks after the stock of an item in a region was set to `amount`. If the region is there and had another
-- amount, the stock alone is marked too (`mark_stock`), or all stocks of the region are (`mark_all_stocks`); else none.
abbrev pub MarksStock : MarkedCampaign → (region item : ℕ) → ℕ → Marks → Type 0
MarksStock c n item amount m = (m ≡ mark_stock c n item amount) ⊎ (m ≡ mark_all_stocks c n item amount)

-- the marks after structure n changed: it is marked too, if it is there
abbrev pub mark_structure : MarkedCampaign → ℕ → Marks
mark_structure c n = record c.marks { structures = marked_with c.marks.structures n (get c.value.structures n) }

-- the marks with the campaign row marked too
abbrev pub mark_campaign_row : MarkedCampaign → Marks
mark_campaign_row c = record c.marks { row = true }

-- the marks after a structure was added under the next structure number: it and the campaign row are marked too
abbrev pub mark_structure_begun : MarkedCampaign → Marks
mark_structure_begun c = record c.marks { structures = insert c.marks.structures c.value.next_structure; row = true }

-- the marks after something was booked: the amount of that entry and thing is marked too
abbrev pub mark_amount : MarkedCampaign → BooksEntry → Thing → Marks
mark_amount c e t = record c.marks { books = amount_marked c.marks.books e t }

-- the marks after all mail was removed: the mail of each faction that had some is marked too
abbrev pub mark_all_mail : MarkedCampaign → Marks
mark_all_mail c = record c.marks { mail = union c.marks.mail (from_list (keys c.value.mail)) }

-- the campaign with structure s, if it is there and its owner is `from`, given the owner `to`, and marked; else
-- unchanged. `from` and `to` may be 0, nobody.
abbrev pub handed_marked : MarkedCampaign → ℕ → ℕ → ℕ → MarkedCampaign
handed_marked c s from to =
    if is_owned_by (get c.value.structures s) from
    then record { value = with_owner c.value s to; marks = mark_structure c s }
    else c

-- the campaign with unit n, if it is there, put in region r and structure s, and n and its row marked; no owner changes
abbrev pub put_marked : MarkedCampaign → ℕ → ℕ → ℕ → MarkedCampaign
put_marked c n r s = record { value = with_position c.value n r s; marks = mark_unit_row c n }

-- `place_marked` once unit n is looked up (the last argument; None: it isn't there, and nothing changes). n is put in
-- region r and structure s (0: in none), and n and its row are marked. If that changes its structure, one that n owned
-- and leaves gets its next owner (`heir`), and one that n enters and nobody owns (owner 0) becomes n's. Each structure
-- that is handed over is marked.
abbrev pub place_marked_at : MarkedCampaign → ℕ → ℕ → ℕ → Option Unit → MarkedCampaign
place_marked_at c n r s None = c
place_marked_at c n r s (Some u) =
    if u.structure == s then put_marked c n r s
    else handed_marked (handed_marked (put_marked c n r s) u.structure n (heir c.value u.structure n)) s 0 n

-- the campaign with unit n, if it is there, put in region r and structure s (0: in none). A structure that n owned and
-- leaves goes to the lowest-numbered other unit inside, or to nobody; one that n enters and nobody owns becomes n's.
-- The unit, its row, and each structure that is handed over are marked.
unfoldable pub place_marked : MarkedCampaign → ℕ → ℕ → ℕ → MarkedCampaign
place_marked c n r s = place_marked_at c n r s (get c.value.units n)

-- the campaign without unit n, which, if it was there, is marked with its row and goods; no owner changes
abbrev pub taken_marked : MarkedCampaign → ℕ → MarkedCampaign
taken_marked c n = record { value = record c.value { units = remove c.value.units n }; marks = mark_unit c n }

-- `gone_marked` once unit n is looked up: n is removed, and it, its row and all its goods are marked. The structure
-- that it was inside, if n owned it, gets its next owner (`heir`) and a mark. Where n isn't there (None), nothing
-- changes.
abbrev pub gone_marked_at : MarkedCampaign → ℕ → Option Unit → MarkedCampaign
gone_marked_at c n None = c
gone_marked_at c n (Some u) = handed_marked (taken_marked c n) u.structure n (heir c.value u.structure n)

-- the campaign without unit n, if n is there, with n, its row and all its goods marked. The structure that n was
-- inside, if n owned it, goes to the lowest-numbered other unit inside, or to nobody, and is marked.
unfoldable pub gone_marked : MarkedCampaign → ℕ → MarkedCampaign
gone_marked c n = gone_marked_at c n (get c.value.units n)

-- the marks after a report of faction n was stored: the report of faction n is marked too
abbrev pub mark_report : MarkedCampaign → ℕ → Marks
mark_report c n = record c.marks { reports = insert c.marks.reports n }

-- the marks after a mailing of faction n was stored: the mail of faction n is marked too
abbrev pub mark_mail : MarkedCampaign → ℕ → Marks
mark_mail c n = record c.marks { mail = insert c.marks.mail n }

-- the marks after a join: the new faction, its unit with row and goods, the amounts of money and people under Joining,
-- and the campaign row are marked too
abbrev pub mark_join : MarkedCampaign → Marks
mark_join c = record c.marks {
  factions = insert c.marks.factions c.value.next_faction;
  units = insert c.marks.units c.value.next_unit;
  rows = insert c.marks.rows c.value.next_unit;
  goods = insert c.marks.goods c.value.next_unit;
  books = amount_marked (amount_marked c.marks.books Joining Money) Joining People;
  row = true;
}
