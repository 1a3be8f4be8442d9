use Rattle.std.proofs.Common.{◌≡◌, ◌∙◌, Some, sym, ap, refl, inl, inr}
use Rattle.std.specs.Prelude.{is_some}
use Rattle.std.specs.FinMap.{get, insert}
use Rattle.std.specs.FinSet as set
use Rattle.std.proofs.lemmas.Result.{on_err_weaker}
use Rattle.atl_world.specs.Groups.{group_of}
use Rattle.atl_world.proofs.SumLaws.{put_same, put_same_err}
use Rattle.atl_world.proofs.TrackLaws.{fits-marked}
use Rattle.atl_records.specs.Holdings.{HoldingValue}
use Rattle.atl_containers.proofs.SlotLaws.{on_err}
use Rattle.atl_campaign.specs.Marks.{with_thing}
use Rattle.atl_campaign.specs.Roster.{Roster}
use Rattle.atl_campaign.proofs.UnitLaws.{same_values, with_item_again, AreUnits-item}
use Rattle.atl_campaign.proofs.units.Units.set_item.Goals as goal

pub invariant_of-self-in_err-insert_under : goal.invariant_of-self-in_err-insert_under
invariant_of-self-in_err-insert_under c =
    rw (put_same c.self.inside.units c.args.number c.in-Some.unit.now c.in-Some.unit.now (sym c.in-Some.ensures.value) refl, c.in_err-insert_under.ensures.err) c.self.invariant

pub returns-in_err-insert_under-clause-err : goal.returns-in_err-insert_under-clause-err
returns-in_err-insert_under-clause-err c =
    on_err c.from_residual.result
    (inl (rw (put_same c.self.inside.units c.args.number c.in-Some.unit.now c.in-Some.unit.now (sym c.in-Some.ensures.value) refl, c.in_err-insert_under.ensures.err) c.self.view_is))

pub add-requires : goal.add-requires
add-requires c =
    fits-marked c.self.inside.units c.self.inside.marks.numbers c.self.inside.marks.room c.args.number
    (ap is_some (sym c.in-Some.ensures.value)) c.self.invariant.marks_fit

pub invariant_of-self-2 : goal.invariant_of-self-2
invariant_of-self-2 c =
    rw (c.in_ok-insert_under.ensures.ok, c.add.ensures)
    (AreUnits-item c.self.inside.units c.self.inside.marks c.self.inside.rows c.self.inside.goods c.self.inside.items c.self.inside.skills c.args.number c.in-Some.unit.now
    (record c.in-Some.unit.now { holding = c.set_amount.new.self }) (insert (group_of c.self.inside.items c.args.number) c.args.item tt) (sym c.in-Some.ensures.value) c.self.invariant)

pub returns-clause-err : goal.returns-clause-err
returns-clause-err c =
    let unit = c.in-Some.unit.now in
    let same = on_err_weaker c.set_amount.result (ap (λ (h : HoldingValue). record unit { holding = h })) c.set_amount.ensures.err in
    let units = put_same_err c.set_amount.result c.self.inside.units c.args.number unit (record unit { holding = c.set_amount.new.self }) (sym c.in-Some.ensures.value) same in
    let marks = set.insert c.self.inside.marks.numbers c.args.number in
    let marked = same_values (record { values = c.self.inside.units; marks = marks; rows = c.self.inside.rows.numbers; goods = c.self.inside.goods.numbers; items = with_thing c.self.inside.items c.args.number c.args.item; skills = c.self.inside.skills }) in
    on_err_weaker c.set_amount.result (λ e. inr (rw (← c.self.view_is, c.in_ok-insert_under.ensures.ok, c.add.ensures, ← c.in-Some.ensures.value, ← c.if-has_amount.ensures) (marked _ e))) units

pub invariant_of-self-then-has_amount : goal.invariant_of-self-then-has_amount
invariant_of-self-then-has_amount c =
    rw
    (put_same c.self.inside.units c.args.number c.in-Some.unit.now c.in-Some.unit.now (sym c.in-Some.ensures.value) refl)
    c.self.invariant

pub returns-then-has_amount-clause-ok : goal.returns-then-has_amount-clause-ok
returns-then-has_amount-clause-ok c =
    let unit = c.in-Some.unit.now in
    let there : get c.args.self.now.values c.args.number ≡ Some unit = ap (λ (r : Roster). get r.values c.args.number) (sym c.self.view_is) ∙ sym c.in-Some.ensures.value in
    rw (put_same c.self.inside.units c.args.number unit unit (sym c.in-Some.ensures.value) refl)
    (c.self.view_is ∙ sym (with_item_again c.args.self.now c.args.number c.args.item c.args.amount unit there (sym c.if-has_amount.ensures)))
