use Rattle.std.proofs.Common.{sym, ap, ◌∙◌}
use Rattle.std.specs.FinMap.{get}
use Rattle.atl_world.proofs.Maps.{get_is_first_value}
use Rattle.atl_world.proofs.numbered.Numbered.get.Goals as goal

pub returns : goal.returns
returns g c =
    c.get.ensures.value ∙ sym (get_is_first_value c.self.inside.entries.entries c.args.number)
    ∙ ap (λ m. get m c.args.number) c.self.view_is
