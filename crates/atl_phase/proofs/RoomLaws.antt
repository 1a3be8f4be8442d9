-- A law of the books: if no amount passes 9*10^18, they have room for one phase.
use Rattle.std.proofs.Common.{ℕ, ◌≤◌, arith}
use Rattle.std.specs.Prelude.{ℤ}
use Rattle.std.proofs.lemmas.Int.{ints}
use Rattle.atl_records.specs.Books.{IsWithin, amount_in}
use Rattle.atl_phase.specs.Meaning.{most_moved}
use Rattle.atl_phase.specs.Bounds.{HasRoom}
use Rattle.atl_phase.specs.Room.{OnePhaseHasRoom, roomy_amount}

roomy_has_room : (moved : ℕ) (amount : ℤ) → moved ≤ most_moved → IsWithin roomy_amount amount → HasRoom moved amount
roomy_has_room moved amount little within =
    record { above = omega (arith, ints, within.most); below = omega (arith, ints, within.least) }

-- if no amount passes 9*10^18, the books have room for one phase that moves each by less than 10^14
pub one_phase_has_room : OnePhaseHasRoom
one_phase_has_room book_bound c little roomy e t =
    roomy_has_room (book_bound e t) (amount_in c.books e t) (little e t) (roomy e t)
