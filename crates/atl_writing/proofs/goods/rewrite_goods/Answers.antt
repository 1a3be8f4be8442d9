use Rattle.atl_sql.specs.declared.rows.has.ThingKind.TheVariants.{Item, Skill}
use Rattle.atl_descriptions.specs.Tables.{has_table}
use Rattle.atl_writing.specs.Rows.{HasRowsOf}
use Rattle.atl_writing.specs.Marked.{begins_marked, has_thing, unit_and_thing_pass}
use Rattle.atl_writing.proofs.HasTableLaws.{goods_grouped}
use Rattle.atl_writing.proofs.RewriteLaws.{both_rewritten}
use Rattle.atl_writing.proofs.ThingLaws.{finds_things}
use Rattle.atl_writing.proofs.WholeLaws.{then_done}
use Rattle.atl_sql.proofs.WriteLaws.{stops, stops_second}
use Rattle.atl_writing.proofs.goods.rewrite_goods.Goals as goal

pub rewrite_marked_groups-requires : goal.rewrite_marked_groups-requires
rewrite_marked_groups-requires g c = goods_grouped c.args.campaign.now.value.units

pub rewrite_singles-requires : goal.rewrite_singles-requires
rewrite_singles-requires g c = finds_things Item

pub rewrite_singles-requires-2 : goal.rewrite_singles-requires-2
rewrite_singles-requires-2 g c = finds_things Skill

pub returns : goal.returns
returns g c =
    let marks = c.args.campaign.now.marks in
    let both = both_rewritten has_table (HasRowsOf c.args.campaign.now.value.units) in
    then_done g.S.Store (both _ (unit_and_thing_pass Skill (has_thing marks.skills))) (then_done g.S.Store (both (begins_marked marks.goods) (unit_and_thing_pass Item (has_thing marks.items))) c.in_ok-rewrite_marked_groups.ensures c.in_ok-rewrite_singles.ensures)
    c.rewrite_singles-2.ensures

pub returns-in_err-rewrite_marked_groups : goal.returns-in_err-rewrite_marked_groups
returns-in_err-rewrite_marked_groups g c =
    stops g.S.Store c.in_err-rewrite_marked_groups.ensures c.from_residual.ensures

pub returns-in_err-rewrite_singles : goal.returns-in_err-rewrite_singles
returns-in_err-rewrite_singles g c =
    stops_second g.S.Store c.in_ok-rewrite_marked_groups.ensures c.in_err-rewrite_singles.ensures
    c.from_residual-in_err-rewrite_singles.ensures
