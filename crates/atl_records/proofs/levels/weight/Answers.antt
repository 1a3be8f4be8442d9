use Rattle.std.proofs.Common.{◌≡◌, Some, None, ap, sym, arith}
use Rattle.std.proofs.lemmas.Grind.{common_steps}
use Rattle.std.proofs.lemmas.Option.{gets}
use Rattle.std.specs.List.{slice_get}
use Rattle.std.specs.Option.{option_map_or}
use Rattle.atl_world.specs.declared.world.Item.{Item}
use Rattle.atl_records.proofs.levels.weight.Goals as goal

pub returns-in-Some-clause-small : goal.returns-in-Some-clause-small
returns-in-Some-clause-small c =
    let is : slice_get c.items.result.now c.args.item ≡ Some c.in-Some.found.now = grind (arith, common_steps, gets) in
    (c.items.ensures.world.items c.args.item c.in-Some.found.now (rw c.items.ensures.value at is)).weight

pub returns-in-None-clause-value : goal.returns-in-None-clause-value
returns-in-None-clause-value c =
    let none : slice_get c.items.result.now c.args.item ≡ None = grind (arith, common_steps, gets) in
    sym (ap (λ o. option_map_or (λ (x : Item). x.weight) o 0) (rw c.items.ensures.value at none))
