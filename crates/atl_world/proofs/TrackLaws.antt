-- Laws of maps by number with marks: there stays room for the marks, and taking a new value out undoes putting it in. v
-- has the values, m is the set of the marked numbers (or, by its type, a map), and r is for how many marks there is
-- room. n is the number that is put in, taken out or marked, k and q are numbers, and o is what the map has under n, or
-- None. x is a new value, c a map with its marks. Most laws `Room-..` say that the room is still enough after a change.
use Rattle.std.proofs.Common.{◌≡◌, ℕ, ◌+◌, ◌≤◌, Bool, true, false, cond, not, ◌&&◌, ◌||◌, length, Option, Some, None, refl, sym, ap, ◌∙◌, arith}
use Rattle.std.specs.Prelude.{is_some}
use Rattle.std.proofs.lemmas.Bool.{false≢true, or_right, or_left}
use Rattle.std.proofs.lemmas.List.{length-map}
use Rattle.std.specs.Ordering.{nat_cmp, eq_by_cmp, is_eq}
use Rattle.std.specs.declared.cmp.Ordering.TheVariants.{Less, Equal, Greater}
use Rattle.std.specs.Cmp.{nat_cmp_total}
use Rattle.std.specs.FinMap.{FinMap, get, entries, insert, remove, empty, get-empty, get-insert, get-remove, same_map, keys, len, len-entries, len-empty, contains_key-keys, nat_cmp-IsAntisymmetric}
use Rattle.std.specs.FinSet as set
use Rattle.atl_world.specs.MarkedMaps.{MarkedMapValue}
use Rattle.atl_world.specs.RoomySets.{valued_or_marked}
use Rattle.atl_world.specs.Tracking.{marked_with, with_value, without_value_at, without_new_value}
pub use Rattle.atl_world.proofs.GeneralLaws.{is_true}
use Rattle.atl_world.proofs.GeneralLaws.{key_itself, same_key}
use Rattle.atl_world.proofs.SetLaws.{sets_are_equal, insert_twice, insert_undone, contains_inserted, len-within, len-union}
use Rattle.atl_world.proofs.SumLaws.{remove_undoes_insert}
use mathlib.Core.Bool.{or-false}

-- for laws of what a set or a map that was changed at n has at q
holds_of_key_test : (n q : ℕ) (P : Bool → Type 0) → (q ≡ n → P true) → P false → P (eq_by_cmp nat_cmp q n)
holds_of_key_test n q P here other =
    elim (eq_by_cmp nat_cmp q n) as (λ b. eq_by_cmp nat_cmp q n ≡ b → P b)
    [ true ↦ λ e. here (same_key q n e) | false ↦ λ _. other ] refl

module _ {V : Type 0} where
  -- ---- the held numbers, those with a value or a mark: to change a value and mark its number leaves them as they are

  pub contains-held : (v : FinMap nat_cmp V) (m : set.FinSet nat_cmp) (q : ℕ)
      → set.contains (valued_or_marked v m) q ≡ (set.contains m q || is_some (get v q))
  contains-held v m q =
      set.contains-union nat_cmp_total m (set.from_list (keys v)) q
      ∙ ap (λ b. set.contains m q || b) (set.contains-from_list nat_cmp_total (keys v) q ∙ sym (contains_key-keys v q))

  key_has_value_or_mark : (v : FinMap nat_cmp V) (m : set.FinSet nat_cmp) (n q : ℕ) → is_some (get v n) ≡ true → q ≡ n
      → (set.contains m q || is_some (get v q)) ≡ true
  key_has_value_or_mark v m n q h e =
      or_right (set.contains m q) (is_some (get v q)) (ap (λ k. is_some (get v k)) e ∙ h)

  pub held-marked : (v : FinMap nat_cmp V) (m : set.FinSet nat_cmp) (n : ℕ) → is_some (get v n) ≡ true
      → valued_or_marked v (set.insert m n) ≡ valued_or_marked v m
  held-marked v m n h = sets_are_equal _ _ (λ q.
      contains-held v (set.insert m n) q ∙ ap (λ b. b || is_some (get v q)) (set.contains-insert nat_cmp_total m n q)
      ∙ holds_of_key_test n q (λ b. ((b || set.contains m q) || is_some (get v q)) ≡ (set.contains m q || is_some (get v q))) (λ e. sym (key_has_value_or_mark v m n q h e)) refl
      ∙ sym (contains-held v m q))

  pub held-removed : (v : FinMap nat_cmp V) (m : set.FinSet nat_cmp) (n : ℕ) → is_some (get v n) ≡ true
      → valued_or_marked (remove v n) (set.insert m n) ≡ valued_or_marked v m
  held-removed v m n h = sets_are_equal _ _ (λ q.
      contains-held (remove v n) (set.insert m n) q
      ∙ ap (λ b. b || is_some (get (remove v n) q)) (set.contains-insert nat_cmp_total m n q)
      ∙ ap (λ o. (eq_by_cmp nat_cmp q n || set.contains m q) || is_some o) (get-remove nat_cmp_total v n q)
      ∙ holds_of_key_test n q (λ b. ((b || set.contains m q) || is_some (cond b None (get v q))) ≡ (set.contains m q || is_some (get v q))) (λ e. sym (key_has_value_or_mark v m n q h e)) refl
      ∙ sym (contains-held v m q))

  pub held-lent : (v : FinMap nat_cmp V) (m : set.FinSet nat_cmp) (n : ℕ) (x : V) → is_some (get v n) ≡ true
      → valued_or_marked (insert v n x) (set.insert m n) ≡ valued_or_marked v m
  held-lent v m n x h = sets_are_equal _ _ (λ q.
      contains-held (insert v n x) (set.insert m n) q
      ∙ ap (λ b. b || is_some (get (insert v n x) q)) (set.contains-insert nat_cmp_total m n q)
      ∙ ap (λ o. (eq_by_cmp nat_cmp q n || set.contains m q) || is_some o) (get-insert nat_cmp_total v n x q)
      ∙ holds_of_key_test n q (λ b. ((b || set.contains m q) || is_some (cond b (Some x) (get v q))) ≡ (set.contains m q || is_some (get v q))) (λ e. sym (key_has_value_or_mark v m n q h e)) refl
      ∙ sym (contains-held v m q))

  pub held-cleared : (v : FinMap nat_cmp V) (m : set.FinSet nat_cmp)
      → valued_or_marked (empty {X = V} {R = nat_cmp}) (valued_or_marked v m) ≡ valued_or_marked v m
  held-cleared v m =
      sets_are_equal _ _
      (λ q. contains-held empty (valued_or_marked v m) q ∙ ap (λ o. set.contains (valued_or_marked v m) q || is_some o) (get-empty {X = V} nat_cmp q) ∙ or-false (set.contains (valued_or_marked v m) q))

  -- ---- the room for marks

  -- room for r marks is enough for all numbers with a value in the map or a mark
  abbrev Room : FinMap nat_cmp V → set.FinSet nat_cmp → ℕ → Type 0
  Room v m r = set.len (valued_or_marked v m) ≤ r

  room_is_enough_for_fewer : (v w : FinMap nat_cmp V) (m n : set.FinSet nat_cmp) (r : ℕ)
      → ((q : ℕ) → (set.contains n q || is_some (get w q)) ≡ true → (set.contains m q || is_some (get v q)) ≡ true)
      → Room v m r → Room w n r
  room_is_enough_for_fewer v w m n r h room = let l = len-within (valued_or_marked w n) (valued_or_marked v m) (λ q e. contains-held v m q ∙ h q (sym (contains-held w n q) ∙ e)) in omega (arith, l, room)

  key_count_is_len : (v : FinMap nat_cmp V) → length (keys v) ≡ len v
  key_count_is_len v = length-map (entries v) (λ (e : ℕ × V). e.0) ∙ sym (len-entries v)

  pub Room-all : (v : FinMap nat_cmp V) (m : set.FinSet nat_cmp) (r : ℕ) → set.len m + len v ≤ r → Room v m r
  Room-all v m r h = let l = len-union m (keys v) in let e = key_count_is_len v in omega (arith, l, e, h)

  pub Room-of : (v : FinMap nat_cmp V) → Room v set.empty (len v)
  Room-of v =
      Room-all v set.empty (len v)
      (let a : set.len {R = nat_cmp} set.empty ≡ 0 = set.len-empty nat_cmp in omega (arith, a))

  -- where the room is enough (`Room`) and n has a value, the marks with n added fit in it
  pub fits-marked : (v : FinMap nat_cmp V) (m : set.FinSet nat_cmp) (r n : ℕ) → is_some (get v n) ≡ true → Room v m r
      → set.len (set.insert m n) ≤ r
  fits-marked v m r n h room =
      let all : set.len (valued_or_marked v (set.insert m n)) ≡ set.len (valued_or_marked v m) = ap set.len (held-marked v m n h) in
      let l = len-within (set.insert m n) (valued_or_marked v (set.insert m n)) (λ q e. contains-held v (set.insert m n) q ∙ or_left _ _ e) in
      omega (arith, all, l, room)

  pub Room-unmarked : (v : FinMap nat_cmp V) (m : set.FinSet nat_cmp) (r : ℕ) → Room v m r → Room v set.empty r
  Room-unmarked v m r =
      room_is_enough_for_fewer v v m set.empty r
      (λ q e. or_right (set.contains m q) (is_some (get v q)) (ap (λ b. b || is_some (get v q)) (sym (set.contains-empty nat_cmp q)) ∙ e))

  pub Room-taken : (v : FinMap nat_cmp V) (m : set.FinSet nat_cmp) (r n : ℕ) → Room v m r
      → Room (remove v n) (set.remove m n) r
  Room-taken v m r n = room_is_enough_for_fewer v (remove v n) m (set.remove m n) r (λ q e. holds_of_key_test n q (λ b. ((not b && set.contains m q) || is_some (cond b None (get v q))) ≡ true → (set.contains m q || is_some (get v q)) ≡ true) (λ _ h. absurd (false≢true h)) (λ h. h)
      (ap (λ b. b || is_some (cond (eq_by_cmp nat_cmp q n) None (get v q))) (sym (set.contains-remove nat_cmp_total m n q)) ∙ ap (λ o. set.contains (set.remove m n) q || is_some o) (sym (get-remove nat_cmp_total v n q)) ∙ e))

  pub remove_none : (m : FinMap nat_cmp V) (k : ℕ) → get m k ≡ None → remove m k ≡ m
  remove_none m k h = same_map nat_cmp_total nat_cmp-IsAntisymmetric _ _ (λ q.
      get-remove nat_cmp_total m k q
      ∙ elim (nat_cmp q k) as (λ r. nat_cmp q k ≡ r → cond (is_eq r) None (get m q) ≡ get m q) [
        | Less ↦ λ _. refl
        | Equal ↦ λ e. sym (ap (get m) (nat_cmp-IsAntisymmetric q k e) ∙ h)
        | Greater ↦ λ _. refl
      ] refl)

  pub get_inserted : (m : FinMap nat_cmp V) (n : ℕ) (x : V) → get (insert m n x) n ≡ Some x
  get_inserted m n x = get-insert nat_cmp_total m n x n ∙ ap (λ b. cond b (Some x) (get m n)) (key_itself n)

  -- if the room is enough for all marks and, with x put in, for all values, the marks with n added fit in it
  pub fits-inserted : (v : FinMap nat_cmp V) (m : set.FinSet nat_cmp) (r n : ℕ) (x : V)
      → set.len m + len (insert v n x) ≤ r → set.len (set.insert m n) ≤ r
  fits-inserted v m r n x h =
      fits-marked (insert v n x) m r n (ap is_some (get_inserted v n x)) (Room-all (insert v n x) m r h)

  pub Room-inserted : (v : FinMap nat_cmp V) (m : set.FinSet nat_cmp) (r n : ℕ) (x : V)
      → set.len m + len (insert v n x) ≤ r → Room (insert v n x) (set.insert m n) r
  Room-inserted v m r n x h =
      rw (held-marked (insert v n x) m n (ap is_some (get_inserted v n x))) (Room-all (insert v n x) m r h)

  pub Room-put : (v : FinMap nat_cmp V) (m : set.FinSet nat_cmp) (r n : ℕ) (o : Option V) → get v n ≡ o → Room v m r
      → Room v (marked_with m n o) r
  Room-put v m r n None e h = h
  Room-put v m r n (Some x) e h = rw (held-marked v m n (ap is_some e)) h

  pub Room-without : (v : FinMap nat_cmp V) (m : set.FinSet nat_cmp) (r n : ℕ) (o : Option V) → get v n ≡ o → Room v m r
      → Room (remove v n) (marked_with m n o) r
  Room-without v m r n None e h = rw (remove_none v n e) h
  Room-without v m r n (Some x) e h = rw (held-removed v m n (ap is_some e)) h

  pub Room-lent : (v : FinMap nat_cmp V) (m : set.FinSet nat_cmp) (r n : ℕ) (o : Option V) (x : V) → get v n ≡ o
      → is_some o ≡ true → Room v m r → Room (insert v n x) (marked_with m n o) r
  Room-lent v m r n None x e s h = absurd (false≢true s)
  Room-lent v m r n (Some y) x e s h = rw (held-lent v m n x (ap is_some e)) h

  pub Room-over : (v : FinMap nat_cmp V) (m : set.FinSet nat_cmp) (r n : ℕ) (x : V) → is_some (get v n) ≡ true
      → Room v m r → Room (insert v n x) m r
  Room-over v m r n x s = room_is_enough_for_fewer v (insert v n x) m m r (λ q e.
      holds_of_key_test n q (λ b. (set.contains m q || is_some (cond b (Some x) (get v q))) ≡ true → (set.contains m q || is_some (get v q)) ≡ true) (λ same _. key_has_value_or_mark v m n q s same) (λ h. h)
      (ap (λ o. set.contains m q || is_some o) (sym (get-insert nat_cmp_total v n x q)) ∙ e))

  pub Room-cleared : (v : FinMap nat_cmp V) (m : set.FinSet nat_cmp) (r : ℕ) → Room v m r
      → Room empty (valued_or_marked v m) r
  Room-cleared v m r h = rw (held-cleared v m) h

  -- ---- a value taken out, and a new one taken out again

  same_parts : (v w : FinMap nat_cmp V) (m n : set.FinSet nat_cmp) → v ≡ w → m ≡ n
      → ◌≡◌ {A = MarkedMapValue V} (record { values = v; marks = m }) (record { values = w; marks = n })
  same_parts v w m n p q = λ i. record { values = p i; marks = q i }

  -- if c has o under n: c with n removed, and with n marked where o is a value, is `without_value_at c n o`
  pub without_value_is : (c : MarkedMapValue V) (n : ℕ) (o : Option V) → get c.values n ≡ o
      → ◌≡◌ {A = MarkedMapValue V} (record { values = remove c.values n; marks = marked_with c.marks n o }) (without_value_at c n o)
  without_value_is c n None e = same_parts _ _ _ _ (remove_none c.values n e) refl
  without_value_is c n (Some x) e = refl

  insert_is_undone : (c : MarkedMapValue V) (n : ℕ) (x : V) (b : Bool) → get c.values n ≡ None
      → set.contains c.marks n ≡ b → without_new_value (with_value c n x) n b ≡ c
  insert_is_undone c n x true fresh h =
      ap (without_value_at (with_value c n x) n) (get_inserted c.values n x)
      ∙ same_parts _ _ _ _ (remove_undoes_insert c.values n x fresh) (insert_twice (set.insert c.marks n) n (contains_inserted c.marks n) ∙ insert_twice c.marks n h)
  insert_is_undone c n x false fresh h =
      same_parts _ _ _ _ (remove_undoes_insert c.values n x fresh) (insert_undone c.marks n h)

  -- After x is put in under n, which had no value, `without_new_value` gives c back, values and marks, if its flag says
  -- whether n was marked before.
  pub taken_out-undone : (c : MarkedMapValue V) (n : ℕ) (x : V) → get c.values n ≡ None
      → without_new_value (with_value c n x) n (set.contains c.marks n) ≡ c
  taken_out-undone c n x fresh = insert_is_undone c n x (set.contains c.marks n) fresh refl

-- the empty map, with nothing marked, needs no room for marks
pub Room-empty : (V : Type 0) → set.len (valued_or_marked (empty {X = V} {R = nat_cmp}) set.empty) ≤ 0
Room-empty V =
    Room-all (empty {X = V}) set.empty 0
    (let a : set.len {R = nat_cmp} set.empty ≡ 0 = set.len-empty nat_cmp in let b : len (empty {X = V} {R = nat_cmp}) ≡ 0 = len-empty nat_cmp V in omega (arith, a, b))
