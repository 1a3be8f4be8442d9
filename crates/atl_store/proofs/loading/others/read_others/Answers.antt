use Rattle.std.proofs.Common.{refl}
use Rattle.atl_store.proofs.GatherLaws.{reads_others}
use Rattle.atl_store.proofs.loading.others.read_others.Goals as goal

pub returns : goal.returns
returns g c =
    reads_others g.S.Store _ _ _ c.args.conn.now c.read_by.new.conn c.read_by.result c.args.format refl refl
    c.read_by.ensures
