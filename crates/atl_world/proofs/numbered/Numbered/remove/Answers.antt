use Rattle.std.proofs.Common.{ap, ◌∙◌}
use Rattle.std.specs.FinMap.{remove}
use Rattle.atl_world.proofs.Maps.{remove_by_entries}
use Rattle.atl_world.proofs.numbered.Numbered.remove.Goals as goal

pub returns : goal.returns
returns g c =
    remove_by_entries c.self.inside.entries.entries c.remove.new.self.entries c.args.number c.remove.ensures.updates.0
    ∙ ap (λ m. remove m c.args.number) c.self.view_is
