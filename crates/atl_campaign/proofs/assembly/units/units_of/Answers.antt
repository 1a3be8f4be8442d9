use Rattle.std.proofs.Common.{ap, ◌∙◌}
use Rattle.atl_campaign.specs.Assembling.{with_rows_added, with_has_row}
use Rattle.atl_campaign.specs.FromRows.{as_u32}
use Rattle.atl_campaign.proofs.AddedRowLaws.{units_with_rows}
use Rattle.atl_campaign.proofs.assembly.units.units_of.Goals as goal

pub returns : goal.returns
returns c =
    c.in_ok-put_things.ensures
    ∙ ap (with_rows_added (λ r. as_u32 r.unit) with_has_row c.args.has.now) c.in_ok-units.ensures
    ∙ units_with_rows c.args.has.now c.args.rows
