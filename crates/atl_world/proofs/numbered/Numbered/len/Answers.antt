use Rattle.std.proofs.Common.{sym, ap, ◌∙◌}
use Rattle.std.specs.FinMap.{len}
use Rattle.atl_world.proofs.Maps.{len_of}
use Rattle.atl_world.proofs.numbered.Numbered.len.Goals as goal

pub returns : goal.returns
returns g c =
    c.len.ensures.len ∙ sym (len_of c.self.inside.entries.entries c.len.ensures.ordered) ∙ ap len c.self.view_is
