use Rattle.std.proofs.Common.{sym, ap}
use Rattle.std.specs.Prelude.{is_some}
use Rattle.atl_world.proofs.TrackLaws.{fits-marked}
use Rattle.atl_world.proofs.marks.Marks.mark_present.Goals as goal

pub add-requires : goal.add-requires
add-requires g c =
    fits-marked c.args.values.now c.args.self.now.numbers c.args.self.now.room c.args.number
    (ap is_some (sym c.in-Some.ensures)) c.requires
