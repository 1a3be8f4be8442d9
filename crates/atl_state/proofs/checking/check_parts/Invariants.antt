use Rattle.atl_state.proofs.checking.check_parts.Given as goal

abbrev pub ghost-check_rules_4_to_7 : goal.ghost-check_rules_4_to_7
ghost-check_rules_4_to_7 g a = g.rows

abbrev pub ghost-check_rules_8_to_12 : goal.ghost-check_rules_8_to_12
ghost-check_rules_8_to_12 g a = g.rows
