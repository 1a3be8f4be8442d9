use Rattle.std.proofs.Common.{rules}
use Rattle.atl_descriptions.specs.Tables.{faction_table}
use Rattle.atl_sql.proofs.WrittenLaws.{written_as}
use Rattle.atl_writing.specs.Rows.{row_of_faction}
use Rattle.atl_writing.proofs.numbered_rows.faction.FactionNumberedRow.put.Goals as goal

pub returns : goal.returns
returns g c =
    let f = c.args.self.now in
    let stored = record f { joined_as = c.as_str.result.now; name = c.as_str-2.result.now; pass = c.as_str-3.result.now } in
    let put = written_as g.S.Store faction_table 1 _ (row_of_faction c.args.number stored) (search rules) c.put.ensures in
    rw (c.as_str.ensures, c.as_str-2.ensures, c.as_str-3.ensures) at put
