use Rattle.atl_descriptions.specs.Tables.{Goods}
use Rattle.atl_writing.specs.Rows.{HasRowsOf}
use Rattle.atl_writing.specs.GroupedRows.{unit_goods_lines}
use Rattle.atl_writing.specs.Filling.{FillsPart}
use Rattle.atl_writing.specs.OwnStatements.{puts_row}
use Rattle.atl_writing.proofs.FillLaws.{groups_fill}
use Rattle.atl_writing.proofs.GroupRowLaws.{groups_rows}
use Rattle.atl_writing.proofs.HasTableLaws.{goods_grouped}
use Rattle.atl_writing.proofs.TurnLaws.{in_turn_one}
use Rattle.atl_writing.proofs.WholeLaws.{done_as}
use Rattle.atl_sql.proofs.WriteLaws.{among_each}
use Rattle.atl_writing.proofs.write_parts.UnitGoodsWrittenPart.fill.Goals as goal

pub returns : goal.returns
returns g c =
    let campaign = c.args.campaign.now.value in
    let units = campaign.units in
    done_as g.S.Store (λ old new did. in_turn_one (FillsPart campaign) Goods old new (groups_fill campaign Goods unit_goods_lines 2 units (λ own. goods_grouped units) _ c.units.ensures old new did))
    (among_each g.S.Store _ _ (λ row there. puts_row Goods (λ own. groups_rows unit_goods_lines 2 units (HasRowsOf units) (goods_grouped units) _ c.units.ensures row there)) c.put_all_goods.ensures)
