use Rattle.std.proofs.Common.{◌≡◌, None, sym, ap, ◌∙◌}
use Rattle.std.specs.FinMap.{get}
use Rattle.std.specs.Option.{option_copied_mut}
use Rattle.atl_lists.proofs.ListLaws.{none_taken}
use Rattle.atl_lists.proofs.lists.unlist_number.Goals as goal

-- where there is no list under the key, no number is in it, so unlist_number has nothing to take out
pub returns-in_default : goal.returns-in_default
returns-in_default c =
    let none : get c.args.lists.now c.args.key ≡ None = sym c.get_mut.ensures.value ∙ ap option_copied_mut c.in_default.is in
    none_taken c.args.lists.now c.args.key c.args.number none
