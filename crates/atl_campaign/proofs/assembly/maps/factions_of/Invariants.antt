use Rattle.std.proofs.Common.{◌≡◌, drop}
use Rattle.atl_campaign.specs.FromRows.{as_u32, by_number, put_rows, faction_of}
use Rattle.atl_campaign.proofs.assembly.maps.factions_of.Given as goal

abbrev pub invariant-loop-row : goal.invariant-loop-row
invariant-loop-row l =
    put_rows (λ r. as_u32 r.number) faction_of (drop l.row-index l.rows) l.factions ≡ by_number (λ r. as_u32 r.number)
    faction_of l.rows
