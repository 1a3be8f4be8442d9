use Rattle.std.proofs.Common.{ap}
use Rattle.atl_descriptions.specs.Tables.{has_table}
use Rattle.atl_writing.specs.GroupedRows.{goods_lines, all_goods_lines}
use Rattle.atl_sql.proofs.PuttingLaws.{putting_begins, putting_more, putting_failed, putting_ends}
use Rattle.atl_writing.proofs.goods.put_all_goods.Goals as goal

pub loop-number-init : goal.loop-number-init
loop-number-init g c =
    putting_begins g.S.Store has_table 3 _ _ (ap all_goods_lines c.into_iter-number-iterator.ensures.into_iter_gives)

pub loop-number-preserved : goal.loop-number-preserved
loop-number-preserved g c =
    let goods = goods_lines c.in-Some.number c.in-Some.unit.now.holding in
    putting_more g.S.Store has_table 3 goods (all_goods_lines c.next.new.self) _ _ (ap all_goods_lines c.in-Some.ensures.steps) c.loop-number.invariant c.in_ok-put_goods.ensures

pub returns-in_err-put_goods : goal.returns-in_err-put_goods
returns-in_err-put_goods g c =
    let goods = goods_lines c.in-Some.number c.in-Some.unit.now.holding in
    putting_failed g.S.Store has_table 3 goods (all_goods_lines c.next.new.self) _ _ (ap all_goods_lines c.in-Some.ensures.steps) c.loop-number.invariant c.in_err-put_goods.ensures c.from_residual.ensures

pub returns : goal.returns
returns g c =
    putting_ends g.S.Store has_table 3 _ _ (ap all_goods_lines c.in-None.ensures.steps.0) c.loop-number.invariant
