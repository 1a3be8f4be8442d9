use Rattle.std.proofs.Common.{◌≡◌, drop}
use Rattle.std.specs.List.{list_any}
use Rattle.atl_phase.proofs.order_indices.has_order.Given as goal

-- an order not looked at yet has a verb of the phase exactly if one of all does
abbrev pub invariant-loop-i : goal.invariant-loop-i
invariant-loop-i g l =
    list_any (λ e. g.P.PhaseVerbs.is_of e.order.verb) (drop l.i l.entries) ≡ list_any
    (λ e. g.P.PhaseVerbs.is_of e.order.verb) l.entries
