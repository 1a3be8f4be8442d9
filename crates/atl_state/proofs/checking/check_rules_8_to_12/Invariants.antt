use Rattle.atl_state.proofs.checking.check_rules_8_to_12.Given as goal

abbrev pub ghost-keeps_books : goal.ghost-keeps_books
ghost-keeps_books g a = g.rows
