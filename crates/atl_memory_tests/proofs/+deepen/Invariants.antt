use Rattle.atl_memory_tests.proofs.+deepen.Given as goal

abbrev pub decreases-deepen : goal.decreases-deepen
decreases-deepen l = l.times
