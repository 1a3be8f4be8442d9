-- Laws of a booking: it moves one amount of the books and no other, and leaves room within the bound. A booking adds z,
-- at most n in size (`IsWithin n z`), to one amount of the books, which an entry and a thing name. `next` is the bound
-- on what may still be moved after it.
use Rattle.std.proofs.Common.{◌≡◌, ◌==◌, ℕ, ◌+◌, ◌≤◌, Bool, true, false, inl, inr, ◌⊎◌, refl, arith}
use Rattle.std.specs.Prelude.{ℤ, neg_ℤ, pos, negsuc, ◌+ℤ◌, ◌≤ℤ◌, if◌then◌else◌}
use Rattle.std.specs.Int.{w64}
use Rattle.std.specs.Int.RustNames.{FitsSigned}
use Rattle.std.proofs.lemmas.Int.{ints}
use Rattle.atl_world.proofs.GeneralLaws.{is_unequal}
use Rattle.atl_records.specs.declared.books.BooksEntry.{BooksEntry}
use Rattle.atl_records.specs.declared.books.Thing.{Thing}
use Rattle.atl_records.specs.Books.{BooksValue, IsWithin, amount_in, after_booking, amount_number}
use Rattle.atl_records.proofs.BookLaws.{amount-after_booking}
use Rattle.atl_campaign.proofs.RegionLaws.{booking-other_amount}
use Rattle.atl_phase.specs.Meaning.{BookBound, IsNear, moves_only}
use Rattle.atl_phase.specs.Bounds.{HasRoom, amount_limit}
use Rattle.atl_phase.proofs.MeaningLaws.{near_room}

near_by : (x y z : ℤ) (n : ℕ) → IsWithin n z → (y ≡ x +ℤ z) ⊎ (y ≡ x) → IsNear n x y
near_by x y z n small h = elim h [
  | inl is ↦ record { above = omega (arith, ints, small.most, is); below = omega (arith, ints, small.least, is) }
  | inr is ↦ record { above = omega (arith, ints, is); below = omega (arith, ints, is) }
]

near_if_equal : (x y : ℤ) → y ≡ x → IsNear 0 x y
near_if_equal x y is = record { above = omega (arith, ints, is); below = omega (arith, ints, is) }

-- a booking of z, at most n in size, in the amount of entry e and thing t of the books
module _ (books : BooksValue) (e : BooksEntry) (t : Thing) (z : ℤ) (n : ℕ) (small : IsWithin n z) where
  -- a booking of at most n in size moves the amount of entry e and thing t by at most n, and no other amount
  pub booked-near : (f : BooksEntry) (u : Thing)
      → IsNear (moves_only n e t f u) (amount_in books f u) (amount_in (after_booking books e t z) f u)
  booked-near f u = by_number (amount_number f u == amount_number e t) refl
    where
      by_number : (b : Bool) → (amount_number f u == amount_number e t) ≡ b
          → IsNear (if b then n else 0) (amount_in books f u) (amount_in (after_booking books e t z) f u)
      by_number true is = near_by _ _ z n small (amount-after_booking books e t z f u)
      by_number false is = near_if_equal _ _ (booking-other_amount books f e u t z (is_unequal _ _ is))

  -- After a booking of at most n in size the books have room for the bound `next`. For this they had room before for
  -- this bound, and on the amount of entry e and thing t for n besides.
  pub booked-room : (next : BookBound)
      → ((f : BooksEntry) (u : Thing) → HasRoom (moves_only n e t f u + next f u) (amount_in books f u))
      → (f : BooksEntry) (u : Thing) → HasRoom (next f u) (amount_in (after_booking books e t z) f u)
  booked-room next room f u = near_room (moves_only n e t f u) (next f u) _ _ (booked-near f u) (room f u)

by_sign : (z : ℤ) → z ≤ℤ pos amount_limit → pos 0 ≤ℤ (z +ℤ pos amount_limit) → FitsSigned w64 z
by_sign (pos n) most less = record { sfits = omega (arith, ints, most) }
by_sign (negsuc n) most less = record { sfits = omega (arith, ints, less) }

-- an amount x with room for n (`HasRoom`) stays within 64 signed bits when z, at most n in size, is added to it
pub booking_fits : (x z : ℤ) (n : ℕ) → IsWithin n z → HasRoom n x → FitsSigned w64 (x +ℤ z)
booking_fits x z n small room =
    by_sign (x +ℤ z) (omega (arith, ints, room.above, small.most)) (omega (arith, ints, room.below, small.least))

pub within-pos : (k n : ℕ) → k ≤ n → IsWithin n (pos k)
within-pos k n l = record { most = omega (arith, ints); least = omega (arith, ints) }

pub within-neg : (k n : ℕ) → k ≤ n → IsWithin n (neg_ℤ (pos k))
within-neg k n l = record { most = omega (arith, ints); least = omega (arith, ints) }
