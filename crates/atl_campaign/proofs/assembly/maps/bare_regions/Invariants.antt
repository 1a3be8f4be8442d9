use Rattle.std.proofs.Common.{◌≡◌, drop}
use Rattle.atl_campaign.specs.Assembling.{bare_region}
use Rattle.atl_campaign.specs.FromRows.{as_u32, by_number, put_rows}
use Rattle.atl_campaign.proofs.assembly.maps.bare_regions.Given as goal

abbrev pub invariant-loop-row : goal.invariant-loop-row
invariant-loop-row l =
    put_rows (λ r. as_u32 r.number) bare_region (drop l.row-index l.rows) l.regions ≡ by_number (λ r. as_u32 r.number)
    bare_region l.rows
