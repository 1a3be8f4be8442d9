-- Laws of steps that are carried out in turn, and of the room in the books that they need. Together the steps keep the
-- campaign's rules and its books balanced, if each step does. `book_bound` bounds how far each step moves the books.
-- The first step is for `x` and leads from campaign `c` to `d`, and the others are for `xs`.
use Rattle.std.proofs.Common.{◌≡◌, ◌==◌, ◌≤◌, ◌+◌, ◌*◌, ℕ, Bool, true, false, List, [], ◌∷◌, length, arith}
use Rattle.std.specs.Prelude.{fold, if◌then◌else◌}
use Rattle.std.proofs.Math.Nat.{suc-mul}
use Rattle.atl_world.specs.Worlds.{WorldValue}
use Rattle.atl_records.specs.declared.books.BooksEntry.{BooksEntry}
use Rattle.atl_records.specs.declared.books.Thing.{Thing}
use Rattle.atl_records.specs.Limits.{holding_limit, most_units}
use Rattle.atl_records.specs.Books.{amount_number}
use Rattle.atl_campaign.specs.Campaign.{CampaignValue}
use Rattle.atl_phase.specs.Meaning.{BookBound, Condition, LeavesWell, both_move, most_moved, moves_only}
use Rattle.atl_phase.specs.Bounds.{CanInTurn, HaveRoom, moved_times}
use Rattle.atl_phase.proofs.MeaningLaws.{IsBoundWithin, both_leave_well, room_for_second, room_less, well_unchanged, well_within}

-- Steps that each move one amount (entry `a`, thing `b`) by at most 999,999,999, and no other, move it by less than
-- 10^14 together. Their number `k` is at most 100,000, as many as there may be units.
pub few_holdings : (k : ℕ) → k ≤ most_units → (a : BooksEntry) (b : Thing) (e : BooksEntry) (t : Thing)
    → moved_times k (moves_only holding_limit a b) e t ≤ moves_only most_moved a b e t
few_holdings k few a b e t = by_test (amount_number e t == amount_number a b)
  where
    by_test : (same : Bool) → k * (if same then holding_limit else 0) ≤ (if same then most_moved else 0)
    by_test true = omega (arith, few)
    by_test false = omega (arith, few)

-- the bound of one step and that of the others together are within the bound of all steps
pub one_more : {B : Type 0} (book_bound : BookBound) (x : B) (xs : List B)
    → IsBoundWithin (both_move book_bound (moved_times (length xs) book_bound)) (moved_times (length (x ∷ xs)) book_bound)
one_more book_bound x xs e t = let one : length (x ∷ xs) * book_bound e t ≡ length xs * book_bound e t + book_bound e t = suc-mul (length xs) (book_bound e t) in omega arith

-- books with room for all steps have room for the first
pub first_room : {B : Type 0} (book_bound : BookBound) (c : CampaignValue) (x : B) (xs : List B)
    → HaveRoom (moved_times (length (x ∷ xs)) book_bound) c → HaveRoom book_bound c
first_room book_bound c x xs room =
    room_less book_bound (moved_times (length (x ∷ xs)) book_bound) c
    (λ e t. omega (arith, one_more book_bound x xs e t)) room

-- after a first step within the bound (`LeavesWell`) the books have room for the others, if they had room for all
pub later_room : {B : Type 0} {leaves : Condition} (book_bound : BookBound) (w : WorldValue) (c d : CampaignValue) (x : B) (xs : List B)
    → LeavesWell leaves book_bound w c d → HaveRoom (moved_times (length (x ∷ xs)) book_bound) c
    → HaveRoom (moved_times (length xs) book_bound) d
later_room book_bound w c d x xs well room =
    room_for_second book_bound (moved_times (length xs) book_bound) w c d well
    (room_less (both_move book_bound (moved_times (length xs) book_bound)) (moved_times (length (x ∷ xs)) book_bound) c (one_more book_bound x xs) room)

-- `step` makes the step of an element in a campaign in which it can be made (`can`). Each step keeps the rules `leaves`
-- and the balance of the books, and books at most `book_bound` (`each`).
module _ {A : Type 0} {leaves : Condition} (book_bound : BookBound) (w : WorldValue) (can : CampaignValue → A → Type 0) (step : CampaignValue → A → CampaignValue) (each : (c : CampaignValue) (x : A) → can c x → LeavesWell leaves book_bound w c (step c x)) where
  -- steps that can be taken in turn (`CanInTurn`) keep a campaign's rules, month and balance of the books, within the
  -- sum of their bounds (`LeavesWell`), if each step does
  pub turns_leave_well : (c : CampaignValue) (xs : List A) → leaves w c → CanInTurn can step c xs
      → LeavesWell leaves (moved_times (length xs) book_bound) w c (fold step c xs)
  turns_leave_well c [] h turns = well_unchanged (moved_times 0 book_bound) w c h
  turns_leave_well c (x ∷ xs) h turns =
      let one = each c x turns.0 in
      well_within (both_move book_bound (moved_times (length xs) book_bound)) (moved_times (length (x ∷ xs)) book_bound) w c (fold step (step c x) xs) (one_more book_bound x xs)
      (both_leave_well book_bound (moved_times (length xs) book_bound) w c (step c x) (fold step (step c x) xs) one (turns_leave_well (step c x) xs one.leaves_it turns.1))
