use Rattle.std.proofs.Common.{ap, ◌∙◌}
use Rattle.std.specs.FinMap.{insert}
use Rattle.atl_world.proofs.Maps.{insert_by_entries}
use Rattle.atl_world.proofs.numbered.Numbered.insert.Goals as goal

pub returns-clause-ok : goal.returns-clause-ok
returns-clause-ok g c =
    insert_by_entries c.self.inside.entries.entries c.insert.new.self.entries c.args.number c.args.value
    c.in_ok-insert.ensures.updates.0
    ∙ ap (λ m. insert m c.args.number c.args.value) c.self.view_is
