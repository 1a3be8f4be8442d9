use Rattle.std.proofs.Common.{rules}
use Rattle.atl_descriptions.specs.Tables.{unit_table}
use Rattle.atl_sql.proofs.WrittenLaws.{written_as}
use Rattle.atl_writing.specs.Rows.{row_of_unit}
use Rattle.atl_writing.proofs.numbered_rows.unit.UnitNumberedRow.put.Goals as goal

pub returns : goal.returns
returns g c =
    let u = c.args.self.now in
    let holding = record u.holding { name = c.as_str.result.now; men = c.men.result; money = c.money.result; guard = c.guard.result } in
    let put = written_as g.S.Store unit_table 1 _ (row_of_unit c.args.number (record u { holding = holding }))
    (search rules) c.put.ensures in
    rw (c.as_str.ensures, c.name.ensures, c.men.ensures.value, c.money.ensures.value, c.guard.ensures) at put
