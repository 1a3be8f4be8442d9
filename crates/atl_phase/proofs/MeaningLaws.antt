-- Laws of phases and steps in turn: what holds after them, how far they move the books, and what room that needs.
-- Campaigns are of the same month (`IsSameMonth`) if month, reports and the set of factions are equal. A phase leaves
-- well (`LeavesWell`) if the campaign after it satisfies `leaves` and is of the same month. The books then balance if
-- they did before, and no amount has moved further than its bound. In the laws j and k bound how far amounts move; a, b
-- and c are an amount or a campaign before, between and after two moves.
use Rattle.std.proofs.Common.{◌≡◌, ℕ, ◌+◌, ◌*◌, ◌≤◌, List, [], ◌∷◌, length, refl, sym, ap, subst, ◌∙◌, arith}
use Rattle.std.specs.Prelude.{ℤ, fold}
use Rattle.std.specs.Ordering.{nat_cmp}
use Rattle.std.specs.FinMap.{FinMap, len}
use Rattle.std.proofs.lemmas.Int.{ints}
use Rattle.std.proofs.Math.Nat.{suc-mul}
use Rattle.atl_world.specs.Worlds.{WorldValue}
use Rattle.atl_campaign.specs.Campaign.{CampaignValue}
use Rattle.atl_records.specs.declared.books.BooksEntry.{BooksEntry}
use Rattle.atl_records.specs.declared.books.Thing.{Thing}
use Rattle.atl_records.specs.Books.{IsWithin, amount_in}
use Rattle.atl_records.specs.declared.records.Faction.{Faction}
use Rattle.atl_world.specs.Every.{HasValue}
use Rattle.atl_campaign.specs.Good.{IsSound, amount_bound}
use Rattle.atl_phase.specs.Month.{MonthValue}
use Rattle.atl_phase.specs.Meaning.{BookBound, Condition, Frame, IsNear, IsSameMonth, LeavesWell, Meaning, both_keep, both_move}
use Rattle.atl_phase.specs.Bounds.{HasRoom, HaveRoom, moved_times}

-- an amount that moves by at most j, and then by at most k, moves by at most j + k in all
pub near_twice : (j k : ℕ) (a b c : ℤ) → IsNear j a b → IsNear k b c → IsNear (j + k) a c
near_twice j k a b c g h =
    record { above = omega (arith, ints, g.above, h.above); below = omega (arith, ints, g.below, h.below) }

pub near_more : (j k : ℕ) (a b : ℤ) → j ≤ k → IsNear j a b → IsNear k a b
near_more j k a b l h = record { above = omega (arith, ints, h.above); below = omega (arith, ints, h.below) }

pub near_same : (k : ℕ) (a : ℤ) → IsNear k a a
near_same k a = record { above = omega (arith, ints); below = omega (arith, ints) }

-- an amount with room for j + k still has room for k after it moves by at most j
pub near_room : (j k : ℕ) (a b : ℤ) → IsNear j a b → HasRoom (j + k) a → HasRoom k b
near_room j k a b near room =
    record { above = omega (arith, ints, near.above, room.above); below = omega (arith, ints, near.below, room.below) }

pub amount_room_for_less : (j k : ℕ) (a : ℤ) → j ≤ k → HasRoom k a → HasRoom j a
amount_room_for_less j k a l room =
    record { above = omega (arith, ints, room.above); below = omega (arith, ints, room.below) }

-- the first bound is at most the second for each amount
abbrev pub IsBoundWithin : BookBound → BookBound → Type 0
IsBoundWithin less more = (e : BooksEntry) (t : Thing) → less e t ≤ more e t

-- books with room for the bound k have room for each bound j that is nowhere above it
pub room_less : (j k : BookBound) (c : CampaignValue) → IsBoundWithin j k → HaveRoom k c → HaveRoom j c
room_less j k c l room e t = amount_room_for_less (j e t) (k e t) (amount_in c.books e t) (l e t) (room e t)

-- the books of a sound campaign have room for any bound of at most 5*10^18
pub room_when_sound : (w : WorldValue) (c : CampaignValue) (book_bound : BookBound)
    → IsBoundWithin book_bound (λ e t. 5000000000000000000) → IsSound w c → HaveRoom book_bound c
room_when_sound w c book_bound l sound e t =
    let few : amount_bound c ≤ 3000000000000000000 = omega (arith, sound.steady.numbers.month, sound.steady.numbers.few_factions) in
    within (amount_in c.books e t) (amount_bound c) (book_bound e t) few (l e t) (sound.amounts e t)
  where
    within : (a : ℤ) (bound change : ℕ) → bound ≤ 3000000000000000000 → change ≤ 5000000000000000000 → IsWithin bound a
        → HasRoom change a
    within a bound change few little h =
        record { above = omega (arith, ints, h.most); below = omega (arith, ints, h.least) }

-- Where the books of c have room for two phases, with the bounds j and k, those of d, after the first one, have room
-- for the second one. For this the first one kept its bound (`LeavesWell`).
pub room_for_second : {leaves : Condition} (j k : BookBound) (w : WorldValue) (c d : CampaignValue)
    → LeavesWell leaves j w c d → HaveRoom (both_move j k) c → HaveRoom k d
room_for_second j k w c d well room e t =
    near_room (j e t) (k e t) (amount_in c.books e t) (amount_in d.books e t) (well.near e t) (room e t)

-- the number of the month last closed and the reports of a campaign
abbrev pub counted_month : CampaignValue → ℕ × FinMap nat_cmp (List ℕ)
counted_month c = (c.month, c.reports)

-- campaign d, which came of c, is of the same month (`IsSameMonth`) if it has the same month last closed, the same
-- reports, as many factions, and no faction that c lacks
pub same_month_among : {c d : CampaignValue} → counted_month d ≡ counted_month c → len d.factions ≡ len c.factions
    → ((n : ℕ) → HasValue d.factions n → HasValue c.factions n) → IsSameMonth c d
same_month_among {c} {d} same count factions = record {
  month = ap (λ (p : ℕ × FinMap nat_cmp (List ℕ)). p.0) same;
  reports = ap (λ (p : ℕ × FinMap nat_cmp (List ℕ)). p.1) same;
  count = count;
  factions = factions;
}

-- the number of the month last closed, the reports, and the factions of a campaign
abbrev pub kept_in_month : CampaignValue → (ℕ × FinMap nat_cmp (List ℕ)) × FinMap nat_cmp Faction
kept_in_month c = (counted_month c, c.factions)

-- campaigns with the same month last closed, reports and factions are of the same month (`IsSameMonth`)
pub same_month_by : {c d : CampaignValue} → kept_in_month d ≡ kept_in_month c → IsSameMonth c d
same_month_by {c} {d} same =
    let factions : d.factions ≡ c.factions = ap (λ (p : (ℕ × FinMap nat_cmp (List ℕ)) × FinMap nat_cmp Faction). p.1) same in
    same_month_among (ap (λ (p : (ℕ × FinMap nat_cmp (List ℕ)) × FinMap nat_cmp Faction). p.0) same) (ap len factions) (λ n there. subst (λ (m : FinMap nat_cmp Faction). HasValue m n) factions there)

pub same_month : (c : CampaignValue) → IsSameMonth c c
same_month c = same_month_by refl

pub same_month_twice : (a b c : CampaignValue) → IsSameMonth a b → IsSameMonth b c → IsSameMonth a c
same_month_twice a b c one two = record {
  month = two.month ∙ one.month;
  reports = two.reports ∙ one.reports;
  count = two.count ∙ one.count;
  factions = λ n there. one.factions n (two.factions n there);
}

-- Two phases in turn lead from campaign a to b and from b to c. Together they keep the month, the books' balance, and
-- amounts within the sum of their bounds, if each keeps its own (`LeavesWell`). After them holds what the second one
-- leaves.
pub both_leave_well : {between leaves : Condition} (j k : BookBound) (w : WorldValue) (a b c : CampaignValue)
    → LeavesWell between j w a b → LeavesWell leaves k w b c → LeavesWell leaves (both_move j k) w a c
both_leave_well j k w a b c one two = record {
  leaves_it = two.leaves_it;
  same_month = same_month_twice a b c one.same_month two.same_month;
  balances = λ h. two.balances (one.balances h);
  near = λ e t. near_twice (j e t) (k e t) (amount_in a.books e t) (amount_in b.books e t) (amount_in c.books e t) (one.near e t) (two.near e t);
}

-- Two phases in turn, from campaign a to b and from b to c, keep what each keeps (`both_keep`): `early` the first,
-- `late` the second. For this the first one, in month m, makes b and the month n, which the second one gets.
pub both_keep_well : (first : Meaning) (early late : Frame) (w : WorldValue) (m n : MonthValue) (a b c : CampaignValue)
    → (b, n) ≡ first w a m → early w m a b → late w n b c → both_keep first early late w m a c
both_keep_well first early late w m n a b c is one two = rw (sym is) (one, two)

-- a phase that leaves well within the bound j (`LeavesWell`) does so within each bound that is as great or greater
pub well_within : {leaves : Condition} (j k : BookBound) (w : WorldValue) (a b : CampaignValue) → IsBoundWithin j k
    → LeavesWell leaves j w a b → LeavesWell leaves k w a b
well_within j k w a b l h =
    record { leaves_it = h.leaves_it; same_month = h.same_month; balances = h.balances; near = λ e t. near_more (j e t) (k e t) (amount_in a.books e t) (amount_in b.books e t) (l e t) (h.near e t) }

-- a campaign of which `leaves` is true is left well (`LeavesWell`), within any bound, by a phase that changes nothing
pub well_unchanged : {leaves : Condition} (book_bound : BookBound) (w : WorldValue) (c : CampaignValue) → leaves w c
    → LeavesWell leaves book_bound w c c
well_unchanged book_bound w c h =
    record { leaves_it = h; same_month = same_month c; balances = λ b. b; near = λ e t. near_same (book_bound e t) (amount_in c.books e t) }

-- steps of one kind in turn, one for each element of a list of A. Each is taken where `leaves` is true, and keeps it
-- true, the month, the books' balance, and each amount within `book_bound` (`LeavesWell`).
module _ {A : Type 0} {leaves : Condition} (book_bound : BookBound) (w : WorldValue) (step : CampaignValue → A → CampaignValue) (each : (c : CampaignValue) (x : A) → leaves w c → LeavesWell leaves book_bound w c (step c x)) where
  more : {B : Type 0} (x : B) (xs : List B)
      → IsBoundWithin (both_move book_bound (moved_times (length xs) book_bound)) (moved_times (length (x ∷ xs)) book_bound)
  more x xs e t = let one : length (x ∷ xs) * book_bound e t ≡ length xs * book_bound e t + book_bound e t = suc-mul (length xs) (book_bound e t) in omega arith

  -- where `leaves` is true, a step for each element of `xs` in turn keeps it true, the month, the books' balance, and
  -- each amount within one step's bound times their number (`LeavesWell`)
  pub fold_leaves_well : (c : CampaignValue) (xs : List A) → leaves w c
      → LeavesWell leaves (moved_times (length xs) book_bound) w c (fold step c xs)
  fold_leaves_well c [] h = well_unchanged (moved_times 0 book_bound) w c h
  fold_leaves_well c (x ∷ xs) h =
      let one = each c x h in
      well_within (both_move book_bound (moved_times (length xs) book_bound)) (moved_times (length (x ∷ xs)) book_bound) w c (fold step (step c x) xs) (more x xs)
      (both_leave_well book_bound (moved_times (length xs) book_bound) w c (step c x) (fold step (step c x) xs) one (fold_leaves_well (step c x) xs one.leaves_it))

  -- books with room for a step for each element of the list y ∷ ys, which isn't empty, have room for one step
  pub room_for_one : {B : Type 0} (c : CampaignValue) (y : B) (ys : List B)
      → HaveRoom (moved_times (length (y ∷ ys)) book_bound) c → HaveRoom book_bound c
  room_for_one c y ys room =
      room_less book_bound (moved_times (length (y ∷ ys)) book_bound) c (λ e t. omega (arith, more y ys e t)) room

  -- where `leaves` is true, books with room for a step for each element of the list y ∷ ys have, after a step (for x),
  -- room for the steps of the others, ys
  pub room_after_one : {B : Type 0} (c : CampaignValue) (x : A) (y : B) (ys : List B) → leaves w c
      → HaveRoom (moved_times (length (y ∷ ys)) book_bound) c → HaveRoom (moved_times (length ys) book_bound) (step c x)
  room_after_one c x y ys h room =
      room_for_second book_bound (moved_times (length ys) book_bound) w c (step c x) (each c x h)
      (room_less (both_move book_bound (moved_times (length ys) book_bound)) (moved_times (length (y ∷ ys)) book_bound) c (more y ys) room)
