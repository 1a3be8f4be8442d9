use Rattle.std.proofs.Common.{◌==◌, true, false, sym, ap, ◌∙◌}
use Rattle.atl_world.proofs.EveryLaws.{other_number}
use Rattle.atl_instant.proofs.RegionGuardLaws.{found_fault_is}
use Rattle.atl_instant.proofs.guard.guard_fault.Goals as goal

pub returns-then-has_other_guard : goal.returns-then-has_other_guard
returns-then-has_other_guard c d are =
    let u = c.args.unit.now in
    let men = ap (λ n. n == 0) (sym c.men.ensures.value) ∙ other_number c.men.result 0 c.if-men-eq0.false in
    found_fault_is d c.args.holders.now are u false true men (sym c.has_other_guard.ensures ∙ c.if-has_other_guard.true)

pub returns : goal.returns
returns c d are =
    let u = c.args.unit.now in
    let men = ap (λ n. n == 0) (sym c.men.ensures.value) ∙ other_number c.men.result 0 c.if-men-eq0.false in
    found_fault_is d c.args.holders.now are u false false men (sym c.has_other_guard.ensures ∙ c.if-has_other_guard.false)
