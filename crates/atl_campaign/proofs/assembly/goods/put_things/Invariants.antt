use Rattle.std.proofs.Common.{◌≡◌, drop}
use Rattle.atl_campaign.specs.Assembling.{with_rows_added, with_has_row}
use Rattle.atl_campaign.specs.FromRows.{as_u32}
use Rattle.atl_campaign.proofs.assembly.goods.put_things.Given as goal

-- the units so far, with the amounts of the rows left put in, are the units at the start with those of all rows
abbrev pub invariant-loop-row : goal.invariant-loop-row
invariant-loop-row l =
    with_rows_added (λ r. as_u32 r.unit) with_has_row (drop l.row-index l.rows) l.units ≡ with_rows_added
    (λ r. as_u32 r.unit) with_has_row l.rows l.fn.units
