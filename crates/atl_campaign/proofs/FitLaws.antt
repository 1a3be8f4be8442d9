-- Laws of 64 bits: amounts booked at founding and when a faction joins are in the range of signed 64-bit numbers.
use Rattle.std.proofs.Common.{◌≤◌, ℕ, arith}
use Rattle.std.specs.Prelude.{ℤ, pos, negsuc, ◌+ℤ◌, ◌≤ℤ◌}
use Rattle.std.specs.Int.{w64}
use Rattle.std.specs.Int.RustNames.{FitsSigned}
use Rattle.std.proofs.lemmas.Int.{ints}
use Rattle.atl_records.specs.Books.{LeavesRoomForJoining}

fits_64_bits : (z : ℤ) → z ≤ℤ pos 9000000000000000000 → pos 0 ≤ℤ (z +ℤ pos 9000000000000000000) → FitsSigned w64 z
fits_64_bits (pos n) most less = record { sfits = omega (arith, ints, most) }
fits_64_bits (negsuc n) most less = record { sfits = omega (arith, ints, less) }

-- an amount from -2^62 - 1 to 2^62 (`LeavesRoomForJoining`), with at most 4 * 10^18 added, is in the range of signed
-- 64-bit numbers
pub more_fits : (z : ℤ) (n : ℕ) → LeavesRoomForJoining z → n ≤ 4000000000000000000 → FitsSigned w64 (z +ℤ pos n)
more_fits z n small few = fits_64_bits (z +ℤ pos n) (omega (arith, ints, small.0, few)) (omega (arith, ints, small.1))

-- an amount of at most 4 * 10^18, booked where nothing was booked yet, is in the range of signed 64-bit numbers
pub first_fits : (n : ℕ) → n ≤ 4000000000000000000 → FitsSigned w64 (pos 0 +ℤ pos n)
first_fits n few = more_fits (pos 0) n (omega (arith, ints), omega (arith, ints)) few
