use Rattle.std.proofs.Common.{rules}
use Rattle.atl_descriptions.specs.Tables.{region_table}
use Rattle.atl_sql.proofs.WrittenLaws.{written_as}
use Rattle.atl_writing.specs.Rows.{row_of_region}
use Rattle.atl_writing.proofs.numbered_rows.region.RegionNumberedRow.put.Goals as goal

pub returns : goal.returns
returns g c =
    written_as g.S.Store region_table 1 _ (row_of_region c.args.number c.args.self.now) (search rules) c.put.ensures
