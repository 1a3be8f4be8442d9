use Rattle.std.proofs.Common.{ap}
use Rattle.std.specs.FinMap.{entries}
use Rattle.atl_descriptions.specs.Tables.{has_table}
use Rattle.atl_sql.specs.declared.rows.has.ThingKind.TheVariants.{Item, Skill}
use Rattle.atl_writing.specs.GroupedRows.{kind_lines}
use Rattle.atl_sql.proofs.PuttingLaws.{same_written, both_written, first_failed}
use Rattle.atl_writing.proofs.goods.put_goods.Goals as goal

pub returns : goal.returns
returns g c =
    let items = kind_lines c.args.unit Item in
    let days = kind_lines c.args.unit Skill in
    both_written g.S.Store has_table 3 (items (entries c.args.holding.now.items)) (days (entries c.args.holding.now.days))
    (same_written g.S.Store has_table 3 _ _ (ap items c.items.ensures) c.in_ok-put_amounts.ensures) (same_written g.S.Store has_table 3 _ _ (ap days c.days.ensures) c.put_amounts-2.ensures)

pub returns-in_err-put_amounts : goal.returns-in_err-put_amounts
returns-in_err-put_amounts g c =
    let items = kind_lines c.args.unit Item in
    first_failed g.S.Store has_table 3 (items (entries c.args.holding.now.items)) _ (same_written g.S.Store has_table 3 _ _ (ap items c.items.ensures) c.in_err-put_amounts.ensures) c.from_residual.ensures
