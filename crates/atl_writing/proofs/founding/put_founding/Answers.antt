use Rattle.std.proofs.Common.{[], ◌∷◌, refl}
use Rattle.atl_descriptions.specs.Tables.{Own, written_parts}
use Rattle.atl_writing.specs.Filling.{Fills}
use Rattle.atl_writing.specs.OwnStatements.{founds_tables, founds_head, founds_row}
use Rattle.atl_writing.proofs.FillLaws.{own_filled, own_then_filled, founding_done}
use Rattle.atl_writing.proofs.TurnLaws.{in_turn_changed}
use Rattle.atl_writing.proofs.WholeLaws.{done_as, then_done}
use Rattle.atl_sql.proofs.WriteLaws.{writes_among_more, among_only, two_steps, stops, stops_second}
use Rattle.atl_writing.proofs.founding.put_founding.Goals as goal

pub returns : goal.returns
returns g c =
    let campaign = c.args.campaign.now.value in
    let text = c.args.text.now in
    two_steps g.S.Store (founding_done campaign text (Own ∷ written_parts) refl) (writes_among_more g.S.Store (λ _ _. founds_tables) c.in_ok-create_tables.ensures)
    (then_done g.S.Store (own_then_filled campaign text (Own ∷ []) written_parts refl)
    (done_as g.S.Store (own_filled campaign text) (among_only g.S.Store _ _ founds_head c.in_ok-put_campaign_row.ensures))
    (done_as g.S.Store (in_turn_changed (Fills campaign) written_parts refl) (writes_among_more g.S.Store (λ _ _. founds_row) c.fill.ensures)))

pub returns-in_err-create_tables : goal.returns-in_err-create_tables
returns-in_err-create_tables g c =
    stops g.S.Store (writes_among_more g.S.Store (λ _ _. founds_tables) c.in_err-create_tables.ensures)
    c.from_residual.ensures

pub returns-in_err-put_campaign_row : goal.returns-in_err-put_campaign_row
returns-in_err-put_campaign_row g c =
    stops_second g.S.Store (writes_among_more g.S.Store (λ _ _. founds_tables) c.in_ok-create_tables.ensures) (among_only g.S.Store _ _ founds_head c.in_err-put_campaign_row.ensures) c.from_residual-in_err-put_campaign_row.ensures
