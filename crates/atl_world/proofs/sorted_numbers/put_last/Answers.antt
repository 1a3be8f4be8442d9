use Rattle.std.proofs.Common.{ap, ◌∙◌}
use Rattle.std.specs.List.{insert}
use Rattle.std.proofs.lemmas.List.Edits.{insert_end}
use Rattle.atl_world.proofs.sorted_numbers.put_last.Goals as goal

pub returns-clause-items : goal.returns-clause-items
returns-clause-items c =
    let numbers = c.args.numbers.now in
    c.put_at.ensures.items ∙ ap (λ i. insert numbers.items i c.args.number) (c.len-end.ensures ∙ numbers.ok.0)
    ∙ insert_end numbers.items c.args.number
