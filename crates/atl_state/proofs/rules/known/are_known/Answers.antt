use Rattle.std.proofs.Common.{rules}
use Rattle.atl_state.proofs.rules.known.are_known.Goals as goal

pub returns-then-are_stocks_units_and_structures_known : goal.returns-then-are_stocks_units_and_structures_known
returns-then-are_stocks_units_and_structures_known c = (
  λ r.
      let things = c.are_stocks_units_and_structures_known.ensures.0 (search rules) in
      let posts = c.are_mail_and_reports_known.ensures.0 r in
      record { regions = things.0.0; markets = things.0.1; units = things.1.0; structures = things.1.1; posts = posts },
  λ known. c.are_mail_and_reports_known.ensures.1 known.posts,
)
