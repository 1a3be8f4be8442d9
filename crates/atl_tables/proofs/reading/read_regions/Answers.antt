use Rattle.std.proofs.Common.{◌≡◌, List, map, subst, sym}
use Rattle.std.specs.List.{All}
use Rattle.std.proofs.lemmas.List.Elements.{All-map, All-weaker, All-nil}
use Rattle.atl_tables.specs.Drafts.{IsMarketDraft, IsOldRegion, IsRegionDraft}
use Rattle.atl_tables.specs.RegionTable.{as_draft}
use Rattle.atl_tables.specs.declared.region_table.OldRegion.{OldRegion}
use Rattle.atl_tables.specs.declared.region_table.RegionDraft.{RegionDraft}
use Rattle.atl_tables.proofs.reading.read_regions.Goals as goal

drafts_sound : (regions : List OldRegion) (drafts : List RegionDraft) → All IsOldRegion regions
    → drafts ≡ map as_draft regions → All IsRegionDraft drafts
drafts_sound regions drafts sound made =
    subst (All IsRegionDraft) (sym made) (All-map IsRegionDraft as_draft regions (All-weaker IsOldRegion (λ r. IsRegionDraft (as_draft r)) (λ r h. record { basics = h.basics; markets = All-nil IsMarketDraft }) regions sound))

pub returns-in_ok-without_markets-in-First-clause-sound : goal.returns-in_ok-without_markets-in-First-clause-sound
returns-in_ok-without_markets-in-First-clause-sound c =
    drafts_sound c.in_ok-regions-in-First.regions _ c.in_ok-regions-in-First.ensures.sound
    c.in_ok-without_markets-in-First.ensures
