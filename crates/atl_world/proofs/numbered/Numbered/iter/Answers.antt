use Rattle.std.proofs.Common.{sym, ap, ◌∙◌}
use Rattle.std.specs.FinMap.{entries}
use Rattle.atl_world.proofs.Maps.{entries_of}
use Rattle.atl_world.proofs.numbered.Numbered.iter.Goals as goal

pub returns : goal.returns
returns g c =
    c.iter.ensures.rest ∙ sym (entries_of c.self.inside.entries.entries c.iter.ensures.ordered)
    ∙ ap entries c.self.view_is
