use Rattle.std.proofs.Common.{◌≡◌, ◌++◌, map}
use Rattle.atl_pots.specs.Pots.{amounts_of}
use Rattle.atl_pots.proofs.pots.amounts_of.Given as goal

-- the amounts so far, followed by the wants still to come, are all amounts
abbrev pub invariant-loop-want : goal.invariant-loop-want
invariant-loop-want l = l.amounts.items ++ map (λ e. e.1) l.want-iterator ≡ amounts_of l.wants
