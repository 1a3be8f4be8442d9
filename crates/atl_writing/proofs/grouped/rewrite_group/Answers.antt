use Rattle.std.proofs.Common.{sym, Some, ◌≡◌}
use Rattle.std.specs.FinMap.{get}
use Rattle.atl_descriptions.specs.Tables.{table_of}
use Rattle.atl_writing.specs.OwnStatements.{changes_row, drops_group}
use Rattle.atl_writing.proofs.GroupRowLaws.{lines_done, bare_done, puts_wanted}
use Rattle.atl_sql.proofs.WriteLaws.{two_steps, stops, weaker, among_only, among_each}
use Rattle.atl_writing.proofs.grouped.rewrite_group.Goals as goal

pub returns-in_err-drop_rows : goal.returns-in_err-drop_rows
returns-in_err-drop_rows g c =
    stops g.S.Store
    (among_only g.S.Store _ _ (drops_group g.V.Grouped.part g.V.Grouped.is_grouped) c.in_err-drop_rows.ensures)
    c.from_residual.ensures

pub returns-in-Some : goal.returns-in-Some
returns-in-Some g c =
    let values = g.V.NumberedRow.values c.args.campaign.now.value in
    let wanted = g.V.Grouped.wanted c.args.campaign.now.value in
    let value = c.in-Some.value.now in
    let got : get values c.args.number ≡ Some value = sym c.in-Some.ensures in
    two_steps g.S.Store (lines_done g.V.Grouped.lines g.V.Grouped.more values wanted c.requires (table_of g.V.Grouped.part) c.args.number value got)
    (among_only g.S.Store _ _ (drops_group g.V.Grouped.part g.V.Grouped.is_grouped) c.in_ok-drop_rows.ensures)
    (among_each g.S.Store _ _ (λ row there. changes_row (puts_wanted g.V.Grouped.part g.V.Grouped.more g.V.Grouped.is_key g.V.Grouped.wanted g.V.Grouped.are_rows c.args.campaign.now.value row (c.requires.wanted c.args.number value got row there))) c.put_rows.ensures)

pub returns-in-None : goal.returns-in-None
returns-in-None g c =
    let values = g.V.NumberedRow.values c.args.campaign.now.value in
    let wanted = g.V.Grouped.wanted c.args.campaign.now.value in
    weaker g.S.Store (bare_done g.V.Grouped.lines g.V.Grouped.more values wanted c.requires (table_of g.V.Grouped.part) c.args.number (sym c.in-None.ensures))
    (among_only g.S.Store _ _ (drops_group g.V.Grouped.part g.V.Grouped.is_grouped) c.in_ok-drop_rows.ensures)
