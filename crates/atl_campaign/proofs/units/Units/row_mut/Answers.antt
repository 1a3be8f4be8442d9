use Rattle.std.proofs.Common.{sym, ap}
use Rattle.std.specs.Prelude.{is_some}
use Rattle.atl_world.proofs.TrackLaws.{fits-marked}
use Rattle.atl_campaign.proofs.UnitLaws.{AreUnits-row}
use Rattle.atl_campaign.proofs.units.Units.row_mut.Goals as goal

pub add-requires : goal.add-requires
add-requires c =
    fits-marked c.self.inside.units c.self.inside.marks.numbers c.self.inside.marks.room c.args.number
    (ap is_some (sym c.in-Some.ensures)) c.self.invariant.marks_fit

pub add-requires-2 : goal.add-requires-2
add-requires-2 c =
    fits-marked c.self.inside.units c.self.inside.rows.numbers c.self.inside.rows.room c.args.number
    (ap is_some (sym c.in-Some.ensures)) c.self.invariant.rows_fit

pub invariant_of-self-lent : goal.invariant_of-self-lent
invariant_of-self-lent c w =
    rw (c.add.ensures, c.add-2.ensures)
    (AreUnits-row c.self.inside.units c.self.inside.marks c.self.inside.rows c.self.inside.goods c.self.inside.items c.self.inside.skills c.args.number c.in-Some-get_mut.unit.now w (sym c.in-Some-get_mut.ensures.value) c.self.invariant)
