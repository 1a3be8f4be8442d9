use Rattle.std.proofs.Common.{rules}
use Rattle.atl_state.proofs.rules.known.are_mail_and_reports_known.Goals as goal

pub returns-then-are_mail_known : goal.returns-then-are_mail_known
returns-then-are_mail_known c =
    (λ r. record { mail = c.are_mail_known.ensures.0 (search rules); reports = c.are_reports_known.ensures.0 r }, λ posts. c.are_reports_known.ensures.1 posts.reports)
