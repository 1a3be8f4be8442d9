use Rattle.std.proofs.Common.{◌≡◌, true, inl, refl, sym, ap, ◌∙◌}
use Rattle.std.specs.Prelude.{is_some}
use Rattle.std.specs.FinMap.{get, insert}
use Rattle.std.specs.FinSet as set
use Rattle.atl_world.specs.MarkedMaps.{MarkedMapValue}
use Rattle.atl_world.specs.RoomySets.{RoomySet}
use Rattle.atl_world.specs.Tracking.{marked_with}
use Rattle.atl_world.proofs.TrackLaws.{Room-lent}
use Rattle.atl_world.proofs.marked_map.MarkedMap.get_mut.Goals as goal

pub invariant_of-self-lent : goal.invariant_of-self-lent
invariant_of-self-lent g c w =
    let values = c.self.inside.values in
    let marks = c.self.inside.marks in
    let there : is_some (get values c.args.number) ≡ true = ap is_some (sym c.in-Some.ensures.value) in
    rw c.mark_present.ensures (Room-lent values marks.numbers marks.room c.args.number (get values c.args.number) w refl there c.self.invariant)

pub returns-in-Some : goal.returns-in-Some
returns-in-Some g c =
    let n = c.args.number in
    let values = ap (λ (t : MarkedMapValue g.row.V.Denot). t.values) c.self.view_is in
    let marks : c.mark_present.new.self.numbers ≡ set.insert c.args.self.now.marks n =
    ap (λ (m : RoomySet). m.numbers) c.mark_present.ensures
    ∙ ap (marked_with c.self.inside.marks.numbers n) (sym c.in-Some.ensures.value)
    ∙ ap (λ (t : MarkedMapValue g.row.V.Denot). set.insert t.marks n) c.self.view_is in (
      λ i. inl (c.in-Some.value.ghost_name, λ w. record { values = insert (values i) n w; marks = marks i }),
      record { writes_back = tt; value = c.in-Some.ensures.value ∙ ap (λ (t : MarkedMapValue g.row.V.Denot). get t.values n) c.self.view_is },
    )
