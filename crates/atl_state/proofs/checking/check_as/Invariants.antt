use Rattle.atl_state.proofs.checking.check_as.Given as goal

abbrev pub ghost-check_parts : goal.ghost-check_parts
ghost-check_parts a = a.parts
