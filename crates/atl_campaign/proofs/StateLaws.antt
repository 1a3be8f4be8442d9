-- A law of the values of campaigns: two are equal if each field of one is equal to that of the other.
use Rattle.std.proofs.Common.{◌≡◌}
use Rattle.atl_campaign.specs.Campaign.{CampaignValue}

pub same_state : (c d : CampaignValue) → c.month ≡ d.month → c.pass ≡ d.pass → c.next_faction ≡ d.next_faction
    → c.next_unit ≡ d.next_unit → c.next_structure ≡ d.next_structure
    → c.factions ≡ d.factions → c.regions ≡ d.regions → c.units ≡ d.units → c.structures ≡ d.structures
    → c.mail ≡ d.mail → c.reports ≡ d.reports → c.books ≡ d.books → c ≡ d
same_state c d month pass next_faction next_unit next_structure factions regions units structures mail reports books i =
    record {
      month = month i;
      pass = pass i;
      next_faction = next_faction i;
      next_unit = next_unit i;
      next_structure = next_structure i;
      factions = factions i;
      regions = regions i;
      units = units i;
      structures = structures i;
      mail = mail i;
      reports = reports i;
      books = books i;
    }
