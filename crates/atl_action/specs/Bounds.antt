-- For proofs alone: how far STUDY may still move the books.
use Rattle.atl_world.specs.Sums.{sum_over}
use Rattle.atl_records.specs.declared.books.BooksEntry.TheVariants.{Study}
use Rattle.atl_records.specs.declared.books.Thing.TheVariants.{Money}
use Rattle.atl_phase.specs.Bounds.{RemainingBound}
use Rattle.atl_phase.specs.Meaning.{moves_only}

-- The remaining bound of STUDY: for money under the entry study, the money of all units in the campaign so far. A fee
-- that is paid lowers it by as much as it books. It is 0 for every other amount.
abbrev pub study_remaining : RemainingBound
study_remaining c = moves_only (sum_over (λ u. u.holding.money) c.units) Study Money
