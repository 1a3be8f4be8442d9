use Rattle.atl_gm.proofs.stack.+grow.Given as goal

abbrev pub decreases-grow : goal.decreases-grow
decreases-grow l = l.steps
