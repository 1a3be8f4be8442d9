-- The value of a campaign in contracts, and one definition for each change of it. See docs/FORMATS.md, "Tables".
use Rattle.std.specs.Prelude.{◌==◌, ◌+◌, not, if◌then◌else◌, List, [], ℕ, ℤ, Bool, true, refl}
use Rattle.std.specs.Ordering.{nat_cmp}
use Rattle.std.specs.Coded.{Coded, code_by, coded×, coded_ℕ, coded_list}
use Rattle.std.specs.FinMap.{FinMap, code, empty, insert}
use Rattle.atl_world.specs.Sums.{with_changed_value, numbers_where}
use Rattle.atl_records.specs.declared.records.Faction.{Faction}
use Rattle.atl_records.specs.declared.records.Region.{Region}
use Rattle.atl_records.specs.declared.records.Structure.{Structure}
use Rattle.atl_records.specs.declared.records.Unit.{Unit}
use Rattle.atl_records.specs.contracts.records.Faction as faction
use Rattle.atl_records.specs.contracts.records.Region as region
use Rattle.atl_records.specs.contracts.records.Structure as structure
use Rattle.atl_records.specs.contracts.records.Unit as unit
use Rattle.atl_records.specs.declared.books.BooksEntry.{BooksEntry}
use Rattle.atl_records.specs.declared.books.Thing.{Thing}
use Rattle.atl_records.specs.Books.{BooksValue, after_booking, books_code, no_amounts}
use Rattle.atl_records.specs.Holdings.{with_amount_of}
use Rattle.atl_campaign.specs.Marks.{Marks, marks_code, no_marks}

-- A campaign: its month, pass text and books, the numbers that the next faction, unit and structure get, and its
-- factions, regions, units, structures, mail and reports by number. Mail and reports are by their factions' numbers.
pub record CampaignValue : Type 0 where
  -- the number of the month last closed; 0 before the first
  pub month : ℕ
  -- the bytes of the moderator's pass text
  pub pass : List ℕ
  pub next_faction : ℕ
  pub next_unit : ℕ
  pub next_structure : ℕ
  -- the factions by their numbers, also those that are gone
  pub factions : FinMap nat_cmp Faction
  pub regions : FinMap nat_cmp Region
  pub units : FinMap nat_cmp Unit
  pub structures : FinMap nat_cmp Structure
  pub mail : FinMap nat_cmp (List ℕ)
  pub reports : FinMap nat_cmp (List ℕ)
  pub books : BooksValue

-- a campaign with its marks, which say what of it changed since it was last written
pub record MarkedCampaign : Type 0 where
  pub value : CampaignValue
  pub marks : Marks

-- for proofs alone: a campaign encoded as nested pairs of its fields, as the kit asks of a type that contracts see
abbrev pub campaign_code : Coded CampaignValue
campaign_code =
    code_by (ℕ × (List ℕ × (ℕ × (ℕ × (ℕ
    × (FinMap nat_cmp Faction × (FinMap nat_cmp Region × (FinMap nat_cmp Unit × (FinMap nat_cmp Structure
    × (FinMap nat_cmp (List ℕ) × (FinMap nat_cmp (List ℕ) × BooksValue)))))))))))
    (coded× coded_ℕ (coded× (coded_list coded_ℕ) (coded× coded_ℕ (coded× coded_ℕ (coded× coded_ℕ
    (coded× (code coded_ℕ faction.the_row.coded) (coded× (code coded_ℕ region.the_row.coded)
    (coded× (code coded_ℕ unit.the_row.coded) (coded× (code coded_ℕ structure.the_row.coded)
    (coded× (code coded_ℕ (coded_list coded_ℕ)) (coded× (code coded_ℕ (coded_list coded_ℕ)) books_code)))))))))))
    (λ s. (
      s.month,
      (
        s.pass,
        (
          s.next_faction,
          (
            s.next_unit,
            (
              s.next_structure,
              (s.factions, (s.regions, (s.units, (s.structures, (s.mail, (s.reports, s.books)))))),
            ),
          ),
        ),
      ),
    ))
    (λ p. record {
      month = p.0;
      pass = p.1.0;
      next_faction = p.1.1.0;
      next_unit = p.1.1.1.0;
      next_structure = p.1.1.1.1.0;
      factions = p.1.1.1.1.1.0;
      regions = p.1.1.1.1.1.1.0;
      units = p.1.1.1.1.1.1.1.0;
      structures = p.1.1.1.1.1.1.1.1.0;
      mail = p.1.1.1.1.1.1.1.1.1.0;
      reports = p.1.1.1.1.1.1.1.1.1.1.0;
      books = p.1.1.1.1.1.1.1.1.1.1.1;
    })
    (λ _. refl)

-- for proofs alone: a campaign with marks encoded as the pair of both, as the kit asks of a type that contracts see
abbrev pub marked_code : Coded MarkedCampaign
marked_code =
    code_by (CampaignValue × Marks) (coded× campaign_code marks_code)
    (λ m. (m.value, m.marks))
    (λ p. record { value = p.0; marks = p.1 })
    (λ _. refl)

-- a campaign without anything: month 0, an empty pass text, next numbers 1, no factions, regions, units, structures,
-- mail or reports, and books of no things
abbrev pub empty_campaign : CampaignValue
empty_campaign = record {
  month = 0;
  pass = [];
  next_faction = 1;
  next_unit = 1;
  next_structure = 1;
  factions = empty;
  regions = empty;
  units = empty;
  structures = empty;
  mail = empty;
  reports = empty;
  books = no_amounts 0;
}

-- the empty campaign, with nothing marked: what founding starts from, and what closing a month puts in the campaign's
-- place while the phases have the campaign
abbrev pub blank : MarkedCampaign
blank = record { value = empty_campaign; marks = no_marks }

-- the numbers of the factions that aren't gone, in rising order
abbrev pub active : CampaignValue → List ℕ
active c = numbers_where (λ f. not f.gone) c.factions

-- the numbers of the units in region r, in rising order
abbrev pub numbers_in_region : ℕ → FinMap nat_cmp Unit → List ℕ
numbers_in_region r units = numbers_where (λ u. u.region == r) units

-- the numbers of the units of faction f, in rising order
abbrev pub numbers_of_faction : ℕ → FinMap nat_cmp Unit → List ℕ
numbers_of_faction f units = numbers_where (λ u. u.faction == f) units

-- the numbers of the units inside structure s, in rising order; none for 0, which is no structure
abbrev pub numbers_inside : ℕ → FinMap nat_cmp Unit → List ℕ
numbers_inside s units = if s == 0 then [] else numbers_where (λ u. u.structure == s) units

-- ---- one change of the campaign

-- the campaign with faction n, if there is one, changed by the function f
abbrev pub faction_changed : (Faction → Faction) → CampaignValue → ℕ → CampaignValue
faction_changed f c n = record c { factions = with_changed_value f c.factions n }

-- the campaign with region n, if there is one, changed by the function f
abbrev pub region_changed : (Region → Region) → CampaignValue → ℕ → CampaignValue
region_changed f c n = record c { regions = with_changed_value f c.regions n }

-- the campaign with unit n, if there is one, changed by the function f
abbrev pub unit_changed : (Unit → Unit) → CampaignValue → ℕ → CampaignValue
unit_changed f c n = record c { units = with_changed_value f c.units n }

-- the campaign with structure n, if there is one, changed by the function f
abbrev pub structure_changed : (Structure → Structure) → CampaignValue → ℕ → CampaignValue
structure_changed f c n = record c { structures = with_changed_value f c.structures n }

-- the campaign in which faction n, if there is one, has the given name; the one that it joined under stays
abbrev pub with_faction_name : CampaignValue → ℕ → List ℕ → CampaignValue
with_faction_name c n name = faction_changed (λ f. record f { name = name }) c n

-- the campaign in which faction n, if there is one, has the flag `gone` set
abbrev pub with_gone : CampaignValue → ℕ → CampaignValue
with_gone c n = faction_changed (λ f. record f { gone = true }) c n

-- the campaign in which region n, if there is one, has the given number of peasants
abbrev pub with_peasants : CampaignValue → ℕ → ℕ → CampaignValue
with_peasants c n peasants = region_changed (λ r. record r { peasants = peasants }) c n

-- the campaign in which region n, if there is one, has the given money
abbrev pub with_region_money : CampaignValue → ℕ → ℕ → CampaignValue
with_region_money c n money = region_changed (λ r. record r { money = money }) c n

-- the campaign in which `region`, if it is there, has the given amount of `item` in stock; 0 of an item isn't listed
abbrev pub with_stock : CampaignValue → (region item : ℕ) → ℕ → CampaignValue
with_stock c n item amount = region_changed (λ r. record r { stocks = with_amount_of r.stocks item amount }) c n

-- the campaign in which unit n, if there is one, has the given name
abbrev pub with_unit_name : CampaignValue → ℕ → List ℕ → CampaignValue
with_unit_name c n name = unit_changed (λ u. record u { holding = record u.holding { name = name } }) c n

-- the campaign in which unit n, if there is one, has the given number of men
abbrev pub with_men : CampaignValue → ℕ → ℕ → CampaignValue
with_men c n men = unit_changed (λ u. record u { holding = record u.holding { men = men } }) c n

-- the campaign in which unit n, if there is one, has the given money
abbrev pub with_money : CampaignValue → ℕ → ℕ → CampaignValue
with_money c n money = unit_changed (λ u. record u { holding = record u.holding { money = money } }) c n

-- the campaign in which `unit`, if it is there, has the given amount of `item`; 0 of an item isn't listed
abbrev pub with_item : CampaignValue → (unit item : ℕ) → ℕ → CampaignValue
with_item c n item amount =
    unit_changed (λ u. record u { holding = record u.holding { items = with_amount_of u.holding.items item amount } }) c n

-- the campaign in which `unit`, if it is there, has the given days of `skill`, over all its men; 0 days aren't listed
abbrev pub with_skill : CampaignValue → (unit skill : ℕ) → ℕ → CampaignValue
with_skill c n skill days =
    unit_changed (λ u. record u { holding = record u.holding { days = with_amount_of u.holding.days skill days } }) c n

-- the campaign in which unit n, if there is one, has its guard flag set or cleared, as the given value says
abbrev pub with_guard : CampaignValue → ℕ → Bool → CampaignValue
with_guard c n guard = unit_changed (λ u. record u { holding = record u.holding { guard = guard } }) c n

-- the campaign in which as much of structure n, if there is one, is done as the given number says
abbrev pub with_done : CampaignValue → ℕ → ℕ → CampaignValue
with_done c n done = structure_changed (λ s. record s { done = done }) c n

-- the campaign in which structure n, if there is one, has the given name
abbrev pub with_structure_name : CampaignValue → ℕ → List ℕ → CampaignValue
with_structure_name c n name = structure_changed (λ s. record s { name = name }) c n

-- the campaign in which structure n, if there is one, is in the given region
abbrev pub with_structure_region : CampaignValue → ℕ → ℕ → CampaignValue
with_structure_region c n region = structure_changed (λ s. record s { region = region }) c n

-- the campaign in which structure n, if there is one, has the given owner: a unit's number, or 0 for nobody
abbrev pub with_owner : CampaignValue → ℕ → ℕ → CampaignValue
with_owner c n owner = structure_changed (λ s. record s { owner = owner }) c n

-- the campaign with n as the month last closed
abbrev pub with_month : CampaignValue → ℕ → CampaignValue
with_month c n = record c { month = n }

-- the campaign with n, of either sign, added to what is booked of thing t under entry e; a sum of 0 isn't listed
abbrev pub with_booking : CampaignValue → BooksEntry → Thing → ℤ → CampaignValue
with_booking c e t n = record c { books = after_booking c.books e t n }

-- the campaign without mail
abbrev pub without_mail : CampaignValue → CampaignValue
without_mail c = record c { mail = empty }

-- the campaign with a structure put under the next structure number, in place of any there; the number rises by one
abbrev pub with_structure_begun : CampaignValue → Structure → CampaignValue
with_structure_begun c s = record c { next_structure = c.next_structure + 1; structures = insert c.structures c.next_structure s }

-- the campaign with unit u put under number n, in place of the unit that has it, if any
abbrev pub with_unit : CampaignValue → ℕ → Unit → CampaignValue
with_unit c n u = record c { units = insert c.units n u }

-- the campaign with a unit put under the next unit number, in place of one that has it, if any; the number rises by one
abbrev pub with_unit_begun : CampaignValue → Unit → CampaignValue
with_unit_begun c u = record c { next_unit = c.next_unit + 1; units = insert c.units c.next_unit u }

-- the campaign with the given text stored as the report of faction n, instead of an older one, if any
abbrev pub with_report : CampaignValue → ℕ → List ℕ → CampaignValue
with_report c n text = record c { reports = insert c.reports n text }

-- the campaign with the given text kept as the mailing of faction n, instead of an older one, if any
abbrev pub with_mail : CampaignValue → ℕ → List ℕ → CampaignValue
with_mail c n text = record c { mail = insert c.mail n text }
