use Rattle.std.proofs.Common.{Some, None, ◌∙◌}
use Rattle.atl_containers.proofs.SlotLaws.{value_under}
use Rattle.atl_containers.proofs.arena.Arena.get.Goals as goal

pub returns-in-Some : goal.returns-in-Some
returns-in-Some g c =
    c.get-in-Some.ensures
    ∙ value_under c.self.inside.index c.self.inside.slots c.args.self.now c.args.number (Some c.in-Some.slot) c.self.invariant.slots_used c.self.view_is c.in-Some.ensures

pub returns-in-None : goal.returns-in-None
returns-in-None g c =
    value_under c.self.inside.index c.self.inside.slots c.args.self.now c.args.number None c.self.invariant.slots_used
    c.self.view_is c.in-None.ensures
