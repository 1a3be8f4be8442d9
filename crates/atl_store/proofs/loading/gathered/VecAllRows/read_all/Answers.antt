use Rattle.atl_descriptions.specs.PartSelects.{select_of_part}
use Rattle.atl_store.proofs.GatherLaws.{reads_one}
use Rattle.atl_store.proofs.loading.gathered.VecAllRows.read_all.Goals as goal

pub returns : goal.returns
returns g c = reads_one g.S.Store (select_of_part g.A.Stored.part).select g.A.Stored.forms g.A.Stored.shown g.A.Stored.part c.args.conn.now c.read.new.conn c.requires.settled c.requires.idle c.read.result c.read.ensures.select c.read.ensures.table c.rows_or_none.result c.rows_or_none.ensures
