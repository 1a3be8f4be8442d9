use Rattle.std.proofs.Common.{◌≡◌, None, sym, ap, ◌∙◌}
use Rattle.std.specs.FinMap.{FinMap, get}
use Rattle.std.specs.Ordering.{nat_cmp}
use Rattle.atl_world.proofs.TrackLaws.{fits-marked, remove_none}
use Rattle.atl_records.specs.declared.records.Unit.{Unit}
use Rattle.atl_campaign.specs.Roster.{Roster, without_unit_found}
use Rattle.atl_containers.proofs.IndexLaws.{not_some_is_none}
use Rattle.atl_campaign.proofs.UnitLaws.{AreUnits-gone}
use Rattle.atl_campaign.proofs.units.Units.remove.Goals as goal

pub add-requires : goal.add-requires
add-requires c =
    fits-marked c.self.inside.units c.self.inside.marks.numbers c.self.inside.marks.room c.args.number
    (sym c.if-remove.ensures.there) c.self.invariant.marks_fit

pub add-requires-then-remove : goal.add-requires-then-remove
add-requires-then-remove c =
    fits-marked c.self.inside.units c.self.inside.rows.numbers c.self.inside.rows.room c.args.number
    (sym c.if-remove.ensures.there) c.self.invariant.rows_fit

pub add-requires-then-remove-2 : goal.add-requires-then-remove-2
add-requires-then-remove-2 c =
    fits-marked c.self.inside.units c.self.inside.goods.numbers c.self.inside.goods.room c.args.number
    (sym c.if-remove.ensures.there) c.self.invariant.goods_fit

pub invariant_of-self : goal.invariant_of-self
invariant_of-self c =
    rw (c.if-remove.ensures.taken, c.add.ensures, c.add-then-remove.ensures, c.add-then-remove-2.ensures)
    (AreUnits-gone c.self.inside.units c.self.inside.marks c.self.inside.rows c.self.inside.goods c.self.inside.items c.self.inside.skills c.args.number (sym c.if-remove.ensures.there) c.self.invariant)

pub invariant_of-self-else-remove : goal.invariant_of-self-else-remove
invariant_of-self-else-remove c =
    let none = not_some_is_none (get c.self.inside.units c.args.number) (sym c.if-remove.ensures.there) in
    rw (c.if-remove.ensures.taken, remove_none c.self.inside.units c.args.number none) c.self.invariant

pub returns-else-remove : goal.returns-else-remove
returns-else-remove c =
    let units = c.self.inside.units in
    let n = c.args.number in
    let none = not_some_is_none (get units n) (sym c.if-remove.ensures.there) in
    let absent : get c.args.self.now.values n ≡ None = ap (λ (r : Roster). get r.values n) (sym c.self.view_is) ∙ none in
    ap (λ (left : FinMap nat_cmp Unit). record { values = left; marks = c.self.inside.marks.numbers; rows = c.self.inside.rows.numbers; goods = c.self.inside.goods.numbers; items = c.self.inside.items; skills = c.self.inside.skills }) (c.if-remove.ensures.taken ∙ remove_none units n none)
    ∙ c.self.view_is ∙ sym (ap (without_unit_found c.args.self.now n) absent)
