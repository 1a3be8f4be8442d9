use Rattle.atl_orders.proofs.RuleLaws as laws
use Rattle.atl_orders.proofs.TextLaws as texts
use Rattle.atl_orders.proofs.rules.rules_are_the_reading.Goals as goal

pub returns-clause-lines : goal.returns-clause-lines
returns-clause-lines c = (laws.line_fits, laws.line_only)

pub returns-clause-mailings : goal.returns-clause-mailings
returns-clause-mailings c = (laws.body_fits, λ world n state given lines entries faults b. laws.body_only world b)

pub returns-clause-texts : goal.returns-clause-texts
returns-clause-texts c = (texts.text_fits, texts.text_only)
