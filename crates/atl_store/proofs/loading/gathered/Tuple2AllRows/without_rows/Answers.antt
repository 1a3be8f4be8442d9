use Rattle.atl_store.proofs.GatherLaws.{both_none}
use Rattle.atl_store.proofs.loading.gathered.Tuple2AllRows.without_rows.Goals as goal

pub returns : goal.returns
returns g c = both_none (g.X.AllRows.rows c.without_rows.result) (g.Y.AllRows.rows c.without_rows-2.result) c.without_rows.ensures c.without_rows-2.ensures
