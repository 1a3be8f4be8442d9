use Rattle.std.proofs.Common.{sym, ◌∙◌}
use Rattle.std.proofs.lemmas.Bool.{false≢true}
use Rattle.atl_state.proofs.checking.keeps_mail.Goals as goal

pub returns-then-are_mailings : goal.returns-then-are_mailings
returns-then-are_mailings c =
    (λ e. (c.are_mailings.ensures.0 c.if-are_mailings.true, c.are_reported.ensures.0 e), λ k. c.are_reported.ensures.1 k.1)

pub returns-else-are_mailings : goal.returns-else-are_mailings
returns-else-are_mailings c =
    (λ e. absurd (false≢true (sym c.if-are_mailings.false ∙ e)), λ k. c.are_mailings.ensures.1 k.0)
