-- Laws of how far the phases of a month move the amounts of the books.
use Rattle.std.proofs.Common.{◌≡◌, ◌≤◌, ℕ, true, refl, arith}
use Rattle.std.specs.Prelude.{nat_le}
use Rattle.std.proofs.lemmas.Bool.Decides.{nat_tests}
use Rattle.atl_records.specs.declared.books.Thing.TheVariants.{Item, Money, People}
use Rattle.atl_records.specs.Limits.{most_in_month}
use Rattle.atl_records.proofs.EveryEntryLaws.{each_entry}
use Rattle.atl_phase.specs.Meaning.{BookBound}
use Rattle.atl_phase.specs.PhaseSpecs.{EachPhase, MovesItsOwn}
use Rattle.atl_phase.proofs.MeaningLaws.{IsBoundWithin}
use Rattle.atl_phase.proofs.PhaseSpecLaws.{each_also, moved_within}
use Rattle.atl_month.specs.Month.{PhasesMoveLittle, TwoMoveAtMost, early_phases, last_phases, later_phases, month_moves, moving_phase_count, phases_bound}
use Rattle.atl_month.proofs.PhaseLaws.{KeepsPhaseLaws, early_are, last_move, later_are}

-- the bound on how far a month moves the books: 2*10^14 for each amount
abbrev pub moves_in_month : BookBound
moves_in_month e t = most_in_month

early_move : EachPhase MovesItsOwn early_phases
early_move = each_also (λ phase (is : KeepsPhaseLaws phase). is.moves) early_phases early_are

later_move : EachPhase MovesItsOwn later_phases
later_move = each_also (λ phase (is : KeepsPhaseLaws phase). is.moves) later_phases later_are

-- each phase of a month moves only amounts under entries that its specification lists, and each by less than 10^14
pub each_little : PhasesMoveLittle
each_little = (early_move, later_move, last_move)

-- for each amount of the books, the bounds of all phases of a month added up are at most 10^14 - 1 for each phase that
-- may move the amount (`month_moves`)
pub month_within : IsBoundWithin phases_bound month_moves
month_within e t =
    omega (arith, moved_within early_phases early_move e t, moved_within later_phases later_move e t, moved_within last_phases last_move e t)

is_two_at_most : (n : ℕ) → nat_le n 2 ≡ true → n ≤ 2
is_two_at_most n is = grind (arith, nat_tests, is)

-- at most two phases of a month may move an amount of the books
pub two_at_most : TwoMoveAtMost
two_at_most e Money =
    is_two_at_most (moving_phase_count e Money) (each_entry (λ k. nat_le (moving_phase_count k Money) 2) refl e)
two_at_most e People =
    is_two_at_most (moving_phase_count e People) (each_entry (λ k. nat_le (moving_phase_count k People) 2) refl e)
two_at_most e (Item i) =
    is_two_at_most (moving_phase_count e (Item i)) (each_entry (λ k. nat_le (moving_phase_count k (Item i)) 2) refl e)

-- for each amount of the books, the bounds of all phases of a month added up are at most 2*10^14 (`moves_in_month`)
pub phases_little : IsBoundWithin phases_bound moves_in_month
phases_little e t = omega (arith, month_within e t, two_at_most e t)
