-- Laws of sets with no number in common. `Marks` keeps the marked numbers in two such sets: m, which has room for all
-- marks (`AreMarks`), and l, the recent marks, those that were made last. s and t are sets of numbers, n is one number,
-- and xs and ys are lists. `room` and `recent` are how many numbers the first and the second of the two sets can hold.
use Rattle.std.proofs.Common.{◌≡◌, ℕ, ◌+◌, ◌<◌, ◌≤◌, Bool, true, false, cond, not, ◌&&◌, ◌||◌, List, [], ◌∷◌, length, get_or, refl, sym, ap, ◌∙◌, inl, inr, arith}
use Rattle.std.proofs.lemmas.Bool.{cases_order, false≢true, and_parts, false_from_ne_true, or_parts}
use Rattle.std.specs.List.{list_any}
use Rattle.std.specs.Ordering.{nat_cmp, eq_by_cmp}
use Rattle.std.specs.Cmp.{nat_cmp_total}
use Rattle.std.specs.FinSet as set
use Rattle.atl_world.specs.RoomySets.{RoomySet}
use Rattle.atl_world.specs.SortedNumbers.{AreApart, AreMarks}
use Rattle.atl_world.proofs.GeneralLaws.{key_itself, same_key}
use Rattle.atl_world.proofs.SetLaws.{sets_are_equal, remove_absent, union-empty, union-insert, len-within, len-below, not_and_is_false, or_without_first_is_second}
use Rattle.atl_world.proofs.SortedListLaws.{contains-is_at}
use mathlib.Core.Bool.{and-false}

abbrev NumberSet : Type 0
NumberSet = set.FinSet nat_cmp

-- ---- a set with one number more or less

put_back_keeps_set : (s : NumberSet) (n : ℕ) → set.contains s n ≡ true → set.insert (set.remove s n) n ≡ s
put_back_keeps_set s n h = sets_are_equal _ _ (λ q.
    set.contains-insert nat_cmp_total (set.remove s n) n q
    ∙ ap (λ b. eq_by_cmp nat_cmp q n || b) (set.contains-remove nat_cmp_total s n q)
    ∙ elim (eq_by_cmp nat_cmp q n) as (λ b. eq_by_cmp nat_cmp q n ≡ b → (b || (not b && set.contains s q)) ≡ set.contains s q) [
      | true ↦ λ e. sym (ap (set.contains s) (same_key q n e) ∙ h)
      | false ↦ λ _. refl
    ] refl)

contains-removed : (s : NumberSet) (n : ℕ) → set.contains (set.remove s n) n ≡ false
contains-removed s n = set.contains-remove nat_cmp_total s n n ∙ ap (λ b. not b && set.contains s n) (key_itself n)

len-new : (s : NumberSet) (n : ℕ) → set.contains s n ≡ false → set.len (set.insert s n) ≡ set.len s + 1
len-new s n h = set.len-insert nat_cmp_total s n ∙ ap (λ b. cond b (set.len s) (set.len s + 1)) h

len-put_back : (s : NumberSet) (n : ℕ) → set.contains s n ≡ true → set.len s ≡ set.len (set.remove s n) + 1
len-put_back s n h = ap set.len (sym (put_back_keeps_set s n h)) ∙ len-new (set.remove s n) n (contains-removed s n)

is_in_whole_set : (s : NumberSet) (n q : ℕ) → set.contains (set.remove s n) q ≡ true → set.contains s q ≡ true
is_in_whole_set s n q e =
    (and_parts (not (eq_by_cmp nat_cmp q n)) (set.contains s q) (sym (set.contains-remove nat_cmp_total s n q) ∙ e)).1

len-less : (s : NumberSet) (n : ℕ) → set.len (set.remove s n) ≤ set.len s
len-less s n = len-within (set.remove s n) s (is_in_whole_set s n)

and_distributes_over_or : (e a b : Bool) → ((not e && a) || (not e && b)) ≡ (not e && (a || b))
and_distributes_over_or true a b = refl
and_distributes_over_or false a b = refl

pub union-remove : (s t : NumberSet) (n : ℕ)
    → set.union (set.remove s n) (set.remove t n) ≡ set.remove (set.union s t) n
union-remove s t n = sets_are_equal _ _ (λ q.
    set.contains-union nat_cmp_total (set.remove s n) (set.remove t n) q
    ∙ (λ i. set.contains-remove nat_cmp_total s n q i || set.contains-remove nat_cmp_total t n q i)
    ∙ and_distributes_over_or (eq_by_cmp nat_cmp q n) (set.contains s q) (set.contains t q)
    ∙ ap (λ b. not (eq_by_cmp nat_cmp q n) && b) (sym (set.contains-union nat_cmp_total s t q))
    ∙ sym (set.contains-remove nat_cmp_total (set.union s t) n q))

-- ---- how many numbers two sets have

-- `len-apart` by recursion over a list `ks` that has all numbers of t
len-apart_by : (ks : List ℕ) (s t : NumberSet)
    → ((q : ℕ) → set.contains t q ≡ true → list_any (eq_by_cmp nat_cmp q) ks ≡ true)
    → ((q : ℕ) → set.contains t q ≡ true → set.contains s q ≡ false) → set.len (set.union s t) ≡ set.len s + set.len t
len-apart_by [] s t all apart =
    let none : t ≡ set.empty = sets_are_equal t set.empty (λ q. false_from_ne_true _ (λ e. false≢true (all q e)) ∙ sym (set.contains-empty nat_cmp q)) in
    let joined : set.len (set.union s t) ≡ set.len s = ap (λ u. set.len (set.union s u)) none ∙ ap set.len (union-empty s) in
    let nothing : set.len t ≡ 0 = ap set.len none ∙ set.len-empty nat_cmp in
    omega (arith, joined, nothing)
len-apart_by (k ∷ ks) s t all apart =
    let fewer : set.len (set.union s (set.remove t k)) ≡ set.len s + set.len (set.remove t k) =
    len-apart_by ks s (set.remove t k)
    (λ q e. or_without_first_is_second _ _ (not_and_is_false (eq_by_cmp nat_cmp q k) (set.contains t q) (sym (set.contains-remove nat_cmp_total t k q) ∙ e)) (all q (is_in_whole_set t k q e)))
    (λ q e. apart q (is_in_whole_set t k q e)) in
    elim (set.contains t k) as (λ b. set.contains t k ≡ b → set.len (set.union s t) ≡ set.len s + set.len t) [
      | true ↦ λ there.
          let new : set.contains (set.union s (set.remove t k)) k ≡ false = set.contains-union nat_cmp_total s (set.remove t k) k ∙ (λ i. apart k there i || contains-removed t k i) in
          let more : set.len (set.union s t) ≡ set.len (set.union s (set.remove t k)) + 1 = ap (λ u. set.len (set.union s u)) (sym (put_back_keeps_set t k there)) ∙ ap set.len (union-insert s (set.remove t k) k) ∙ len-new (set.union s (set.remove t k)) k new in
          omega (arith, fewer, more, len-put_back t k there)
      | false ↦ λ missing. ap (λ u. set.len (set.union s u)) (sym (remove_absent t k missing)) ∙ fewer ∙ ap (λ u. set.len s + set.len u) (remove_absent t k missing)
    ] refl

excluded_is_false : (a b : Bool) → (a ≡ true → b ≡ false) → b ≡ true → a ≡ false
excluded_is_false true b h e = absurd (false≢true (sym (h refl) ∙ e))
excluded_is_false false b h e = refl

-- the union of sets with no number in common has as many numbers as both together
pub len-apart : (s t : NumberSet) → AreApart s t → set.len (set.union s t) ≡ set.len s + set.len t
len-apart s t h =
    len-apart_by (set.items t) s t (λ q e. sym (set.contains-items t q) ∙ e) (λ q. excluded_is_false _ _ (h.apart q))

or_cases : (a b : Bool) (P : Type 0) → (a ≡ true → P) → (b ≡ true → P) → (a || b) ≡ true → P
or_cases true b P f g h = f refl
or_cases false b P f g h = g h

-- the union of two sets has at most `most` numbers, if all numbers of both are less than `most`
pub len-both_below : (most : ℕ) (s t : NumberSet) → ((k : ℕ) → set.contains s k ≡ true → k < most)
    → ((k : ℕ) → set.contains t k ≡ true → k < most) → set.len (set.union s t) ≤ most
len-both_below most s t f g =
    len-below most (set.union s t)
    (λ k e. or_cases _ _ _ (f k) (g k) (sym (set.contains-union nat_cmp_total s t k) ∙ e))

-- ---- no number is in both sets

apart_empty : (s : NumberSet) → AreApart s set.empty
apart_empty s = record { apart = λ n _. set.contains-empty nat_cmp n }

other_key : (s : NumberSet) (n q : ℕ) → set.contains s n ≡ false → set.contains s q ≡ true
    → eq_by_cmp nat_cmp q n ≡ false
other_key s n q h e =
    false_from_ne_true _ (λ alike. false≢true (sym (ap (set.contains s) (same_key q n alike) ∙ h) ∙ e))

apart_insert : (s t : NumberSet) (n : ℕ) → AreApart s t → set.contains s n ≡ false → AreApart s (set.insert t n)
apart_insert s t n h missing = record {
  apart = λ q e. set.contains-insert nat_cmp_total t n q ∙ (λ i. other_key s n q missing e i || h.apart q e i);
}

apart_remove : (s t : NumberSet) (n : ℕ) → AreApart s t → AreApart (set.remove s n) (set.remove t n)
apart_remove s t n h = record {
  apart = λ q e. set.contains-remove nat_cmp_total t n q ∙ ap (λ b. not (eq_by_cmp nat_cmp q n) && b) (h.apart q (is_in_whole_set s n q e)) ∙ and-false _;
}

-- ---- marks in two sets

-- two sets are the marks of a `Marks` (`AreMarks`), if the second is empty and the first fits in its room
pub none_recent : (s : NumberSet) (room recent : ℕ) → set.len s ≤ room
    → AreMarks (record { numbers = s; room = room }) (record { numbers = set.empty; room = recent })
none_recent s room recent h =
    record { apart = apart_empty s; fits = let none : set.len {R = nat_cmp} set.empty ≡ 0 = set.len-empty nat_cmp in omega (arith, none, h) }

-- two empty sets are the marks of a `Marks` (`AreMarks`), whatever their room
pub no_marks : (room recent : ℕ)
    → AreMarks (record { numbers = set.empty; room = room }) (record { numbers = set.empty; room = recent })
no_marks room recent =
    none_recent set.empty room recent
    (let none : set.len {R = nat_cmp} set.empty ≡ 0 = set.len-empty nat_cmp in omega (arith, none))

-- the number n is to be marked; m and l are the marks (`AreMarks`), and v is the set of all of them with the room of m
module _ (m l v : RoomySet) (n : ℕ) (seen : ◌≡◌ {A = RoomySet} (record { numbers = set.union m.numbers l.numbers; room = m.room }) v) (marks : AreMarks m l) where
  in_neither : set.contains v.numbers n ≡ false
      → (set.contains m.numbers n ≡ false) × (set.contains l.numbers n ≡ false)
  in_neither h =
      or_parts _ _
      (sym (set.contains-union nat_cmp_total m.numbers l.numbers n) ∙ ap (λ (w : RoomySet). set.contains w.numbers n) seen ∙ h)

  -- if n is not marked yet, and l has fewer numbers than it can hold, it can also hold n
  pub fits_recent : set.contains v.numbers n ≡ false → set.len l.numbers < l.room
      → set.len (set.insert l.numbers n) ≤ l.room
  fits_recent missing room = let more = len-new l.numbers n (in_neither missing).1 in omega (arith, more, room)

  -- if n is not marked yet, and there is room for all marks and n, n can become a recent mark (`AreMarks`)
  pub one_recent : set.contains v.numbers n ≡ false → set.len (set.insert v.numbers n) ≤ v.room
      → AreMarks m (record l { numbers = set.insert l.numbers n })
  one_recent missing h =
      let more = len-new v.numbers n missing in
      let all = len-apart m.numbers l.numbers marks.apart in
      let size = ap (λ (w : RoomySet). set.len w.numbers) seen in
      let room = ap (λ (w : RoomySet). w.room) seen in
      let recent = len-new l.numbers n (in_neither missing).1 in
      record { apart = apart_insert m.numbers l.numbers n marks.apart (in_neither missing).0; fits = omega (arith, more, all, size, room, recent, h) }

  -- once m has all marks and n, and l has none, no number is in both, and m has room for all (`AreMarks`), if its room
  -- is enough for all marks and n
  pub mark_is_added_to_all : set.len (set.insert v.numbers n) ≤ v.room
      → AreMarks (record { numbers = set.insert (set.union m.numbers l.numbers) n; room = m.room }) (record { numbers = set.empty; room = l.room })
  mark_is_added_to_all h = none_recent (set.insert (set.union m.numbers l.numbers) n) m.room l.room
      (let size = ap (λ (w : RoomySet). set.len (set.insert w.numbers n)) seen in let room = ap (λ (w : RoomySet). w.room) seen in omega (arith, size, room, h))

-- two sets stay the marks of a `Marks` (`AreMarks`) when n is taken out of both
pub mark_taken : (m l : RoomySet) (n : ℕ) → AreMarks m l
    → AreMarks (record m { numbers = set.remove m.numbers n }) (record l { numbers = set.remove l.numbers n })
mark_taken m l n h =
    record { apart = apart_remove m.numbers l.numbers n h.apart; fits = omega (arith, len-less m.numbers n, len-less l.numbers n, h.fits) }

-- If xs and ys share no number, and the number at an index i of xs is at most that at an index j of ys, it is less.
pub less_apart : (xs ys : List ℕ) (i j : ℕ) → AreApart (set.from_list xs) (set.from_list ys) → i < length xs
    → j < length ys → get_or xs i 0 ≤ get_or ys j 0 → get_or xs i 0 < get_or ys j 0
less_apart xs ys i j h l m le =
    elim (cases_order (get_or xs i 0) (get_or ys j 0)) [
      | inl e ↦
          let first : set.contains {R = nat_cmp} (set.from_list xs) (get_or ys j 0) ≡ true = contains-is_at xs (get_or ys j 0) i (record { within = l; number_there = e }) in
          let second : set.contains {R = nat_cmp} (set.from_list ys) (get_or ys j 0) ≡ true = contains-is_at ys (get_or ys j 0) j (record { within = m; number_there = refl }) in
          absurd (false≢true (sym (h.apart (get_or ys j 0) first) ∙ second))
      | inr r ↦ elim r [ inl less ↦ less | inr more ↦ absurd (omega (arith, le, more)) ]
    ]
