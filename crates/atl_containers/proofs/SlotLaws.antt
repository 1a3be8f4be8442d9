-- Laws of an arena: a map i from numbers to slots, and a slab s of values in these slots, are a map of values. Most
-- laws on it suppose that each number has a slot of its own (`HaveOwnSlots`). t is the slab after slot k alone changed,
-- or with the same values. n is a number that leads to k, x (or w) the value that k gets, m the map of values, o a slot
-- or None, and q any number. An entry is a number with its slot or its value.
use Rattle.std.proofs.Common.{◌≡◌, ◌≢◌, ℕ, ◌+◌, ◌-◌, ◌<◌, Bool, true, false, cond, List, [], ◌∷◌, length, Option, Some, None, ◌⊎◌, inl, inr, refl, sym, ap, ◌∙◌, arith}
use Rattle.std.specs.Prelude.{count_by, is_some, Result, Ok, Err, OnErr}
use Rattle.std.proofs.lemmas.Bool.{false≢true, and_parts, cases_eq, cases_lt}
use Rattle.std.proofs.lemmas.List.{length-map, get_or-set_same, get_or-set_other, get_or_past}
use Rattle.std.proofs.lemmas.List.Sums.{sum_by-set}
use Rattle.std.specs.List.{AllByRecursion}
use Rattle.std.specs.List.Sorted.{IsStrictlySortedBy}
use Rattle.std.specs.Map.{keys_of}
use Rattle.std.specs.declared.cmp.Ordering.TheVariants.{Less, Equal, Greater}
use Rattle.std.specs.Ordering.{nat_cmp, is_eq, eq_by_cmp}
use Rattle.std.specs.Cmp.{nat_cmp_total, ranked}
use Rattle.std.specs.FinMap.{FinMap, get, find, insert, remove, empty, entries, is_sorted, len, len-entries, len-empty, len-insert, len-remove, get-entries, get-insert, get-remove, get-empty, get-from_entries, from_entries, same_map, nat_cmp-IsAntisymmetric}
use Rattle.std.specs.FinMap.Entries.{below_all}
use Rattle.atl_world.proofs.MappedLaws.{is_less}
use Rattle.atl_world.proofs.Maps.{entries-empty, entries_of}
use Rattle.slab.specs.Slab as slab
use Rattle.atl_containers.specs.Slots.{slot_entries, slot_entry_at, values_of, AreInUse, HaveOwnSlots, IsArena}
use Rattle.atl_world.proofs.EveryLaws.{sorted, each-from_every}
use Rattle.atl_containers.proofs.IndexLaws.{some_none}

same_some : {X : Type 0} {x y : X} {o : Option X} → o ≡ Some x → o ≡ Some y → x ≡ y
same_some e h = cc

by_equality : (q n : ℕ) (P : Bool → Type 0) → (q ≡ n → P true) → (q ≢ n → P false) → P (eq_by_cmp nat_cmp q n)
by_equality q n P same apart =
    elim (nat_cmp q n) as (λ r. nat_cmp q n ≡ r → P (is_eq r)) [
      | Less ↦ λ e. apart (λ h. let l = ranked q n Less (sym e) in omega arith)
      | Equal ↦ λ e. same (nat_cmp-IsAntisymmetric q n e)
      | Greater ↦ λ e. apart (λ h. let l = ranked q n Greater (sym e) in omega arith)
    ] refl

module _ {V : Type 0} where
  -- the value in slot k of a slab for Some k, if the slot has one; None for None
  abbrev pub value_in_slot : slab.Slab V → Option ℕ → Option V
  value_in_slot s None = None
  value_in_slot s (Some k) = slab.get s k

  -- with an entry of n put in front of `rest`, looking up q gives that entry's value if q is n, else what `rest` gives
  find_entry_step : (n q : ℕ) (o : Option V) (rest : List (ℕ × V)) → is_some o ≡ true
      → find nat_cmp q (slot_entry_at n o rest) ≡ cond (eq_by_cmp nat_cmp q n) o (find nat_cmp q rest)
  find_entry_step n q None rest h = absurd (false≢true h)
  find_entry_step n q (Some v) rest h = refl

  value_in_slot_cond : (b : Bool) (s : slab.Slab V) (k : ℕ) (o : Option ℕ)
      → cond b (slab.get s k) (value_in_slot s o) ≡ value_in_slot s (cond b (Some k) o)
  value_in_slot_cond true s k o = refl
  value_in_slot_cond false s k o = refl

  -- a look-up of a number among the entries with values gives the value in the slot that the index entries have for it
  find_slot_entry : (s : slab.Slab V) (q : ℕ) (es : List (ℕ × ℕ)) → AreInUse es s
      → find nat_cmp q (slot_entries es s) ≡ value_in_slot s (find nat_cmp q es)
  find_slot_entry s q [] h = refl
  find_slot_entry s q (e ∷ es) h =
      find_entry_step e.0 q (slab.get s e.1) (slot_entries es s) h.0
      ∙ ap (cond (eq_by_cmp nat_cmp q e.0) (slab.get s e.1)) (find_slot_entry s q es h.1)
      ∙ value_in_slot_cond (eq_by_cmp nat_cmp q e.0) s e.1 (find nat_cmp q es)

  -- each slot to which a number of the index leads has a value
  pub all_in_use : (i : FinMap nat_cmp ℕ) (s : slab.Slab V) → HaveOwnSlots i s → AreInUse (entries i) s
  all_in_use i s held = each-from_every (λ n k. is_some (slab.get s k) ≡ true) i held.in_use

  -- the map of values has under a number the value in the number's slot, and nothing where it has no slot
  pub get_values : (i : FinMap nat_cmp ℕ) (s : slab.Slab V) → HaveOwnSlots i s → (q : ℕ)
      → get (values_of i s) q ≡ value_in_slot s (get i q)
  get_values i s held q =
      get-from_entries nat_cmp_total (slot_entries (entries i) s) q
      ∙ find_slot_entry s q (entries i) (all_in_use i s held)
      ∙ ap (value_in_slot s) (sym (get-entries i q))

  -- what the slab has in o, the slot to which number n leads, is what the map m of values has under n
  pub value_under : (i : FinMap nat_cmp ℕ) (s : slab.Slab V) (m : FinMap nat_cmp V) (n : ℕ) (o : Option ℕ)
      → HaveOwnSlots i s → values_of i s ≡ m → o ≡ get i n → value_in_slot s o ≡ get m n
  value_under i s m n o held is there = ap (value_in_slot s) there ∙ sym (get_values i s held n) ∙ ap (λ v. get v n) is

  empty_slot : (o : Option V) → is_some o ≡ true → o ≡ None → ⊥
  empty_slot None h e = false≢true h
  empty_slot (Some x) h e = some_none x e

  leads_nowhere : (i : FinMap nat_cmp ℕ) (s : slab.Slab V) (n : ℕ) (o : Option ℕ) → get i n ≡ o → HaveOwnSlots i s
      → value_in_slot s o ≡ None → o ≡ None
  leads_nowhere i s n None e held h = refl
  leads_nowhere i s n (Some k) e held h = absurd (empty_slot (slab.get s k) (held.in_use n k e) h)

  -- a number under which the map of values has nothing leads to no slot
  pub unindexed : (i : FinMap nat_cmp ℕ) (s : slab.Slab V) (n : ℕ) → HaveOwnSlots i s → get (values_of i s) n ≡ None
      → get i n ≡ None
  unindexed i s n held h = leads_nowhere i s n (get i n) refl held (sym (get_values i s held n) ∙ h)

  vacant_slot : (s : slab.Slab V) (j k : ℕ) → j ≡ k → slab.get s k ≡ None → is_some (slab.get s j) ≡ true → ⊥
  vacant_slot s j k same vacant h = false≢true (sym (ap is_some (ap (slab.get s) same ∙ vacant)) ∙ h)

  slot_entries_same : (es : List (ℕ × ℕ)) (s t : slab.Slab V) → slab.SameValues s t
      → slot_entries es t ≡ slot_entries es s
  slot_entries_same [] s t same = refl
  slot_entries_same (e ∷ es) s t same =
      ap (λ o. slot_entry_at e.0 o (slot_entries es t)) (same e.1)
      ∙ ap (slot_entry_at e.0 (slab.get s e.1)) (slot_entries_same es s t same)

  kept : (s t : slab.Slab V) (k : ℕ) (x : Option V) (o : Option ℕ) → slab.Updates s t k x
      → ((j : ℕ) → o ≡ Some j → j ≢ k) → value_in_slot t o ≡ value_in_slot s o
  kept s t k x None u h = refl
  kept s t k x (Some j) u h = u.others j (h j refl)

  -- ---- a value changed in its slot

  -- each number still has a slot of its own once the value in slot k is another one, x
  pub HaveOwnSlots-changed : (i : FinMap nat_cmp ℕ) (s t : slab.Slab V) (k : ℕ) (x : V) → slab.Updates s t k (Some x)
      → HaveOwnSlots i s → HaveOwnSlots i t
  HaveOwnSlots-changed i s t k x u held = record {
    in_use = λ n j h. elim (cases_eq j k) [
      | inl same ↦ ap (λ m. is_some (slab.get t m)) same ∙ ap is_some u.changed
      | inr apart ↦ ap is_some (u.others j apart) ∙ held.in_use n j h
    ];
    by_one = held.by_one;
  }

  -- once the slot to which n leads has the value x, the map of values has x under n, and is otherwise the same
  pub values_changed : (i : FinMap nat_cmp ℕ) (s t : slab.Slab V) (n k : ℕ) (x : V) → slab.Updates s t k (Some x)
      → HaveOwnSlots i s → get i n ≡ Some k → values_of i t ≡ insert (values_of i s) n x
  values_changed i s t n k x u held is = same_map nat_cmp_total nat_cmp-IsAntisymmetric _ _ (λ q.
      get_values i t (HaveOwnSlots-changed i s t k x u held) q
      ∙ by_equality q n (λ b. value_in_slot t (get i q) ≡ cond b (Some x) (value_in_slot s (get i q)))
      (λ same. ap (λ m. value_in_slot t (get i m)) same ∙ ap (value_in_slot t) is ∙ u.changed)
      (λ apart. kept s t k (Some x) (get i q) u (λ j h same. apart (held.by_one q n k (h ∙ ap Some same) is)))
      ∙ sym (get-insert nat_cmp_total (values_of i s) n x q ∙ ap (cond (eq_by_cmp nat_cmp q n) (Some x)) (get_values i s held q)))

  -- ---- a value put in

  -- each number still has a slot of its own once n leads to slot k, which was vacant and gets a value
  pub HaveOwnSlots-added : (i : FinMap nat_cmp ℕ) (s t : slab.Slab V) (n k : ℕ) (x : V) → slab.Updates s t k (Some x)
      → slab.get s k ≡ None → HaveOwnSlots i s → HaveOwnSlots (insert i n k) t
  HaveOwnSlots-added i s t n k x u vacant held = record {
    in_use = λ m j h. by_equality m n (λ b. cond b (Some k) (get i m) ≡ Some j → is_some (slab.get t j) ≡ true)
        (λ same e. ap (λ m. is_some (slab.get t m)) (same_some e refl) ∙ ap is_some u.changed)
        (λ apart e. ap is_some (u.others j (λ same. vacant_slot s j k same vacant (held.in_use m j e))) ∙ held.in_use m j e)
        (sym (get-insert nat_cmp_total i n k m) ∙ h);
    by_one = λ a b j h g. by_equality a n (λ c. cond c (Some k) (get i a) ≡ Some j → a ≡ b)
        (λ a_same e. by_equality b n (λ c. cond c (Some k) (get i b) ≡ Some j → a ≡ b)
        (λ b_same _. a_same ∙ sym b_same)
        (λ b_apart f. absurd (vacant_slot s j k (same_some e refl) vacant (held.in_use b j f)))
        (sym (get-insert nat_cmp_total i n k b) ∙ g))
        (λ a_apart e. by_equality b n (λ c. cond c (Some k) (get i b) ≡ Some j → a ≡ b)
        (λ b_same f. absurd (vacant_slot s j k (same_some f refl) vacant (held.in_use a j e)))
        (λ b_apart f. held.by_one a b j e f)
        (sym (get-insert nat_cmp_total i n k b) ∙ g))
        (sym (get-insert nat_cmp_total i n k a) ∙ h);
  }

  -- once a value is put into a vacant slot to which n then leads, the map of values has it under n, and is otherwise
  -- the same
  pub values_added : (i : FinMap nat_cmp ℕ) (s t : slab.Slab V) (n k : ℕ) (x : V) → slab.Updates s t k (Some x)
      → slab.get s k ≡ None → HaveOwnSlots i s → values_of (insert i n k) t ≡ insert (values_of i s) n x
  values_added i s t n k x u vacant held = same_map nat_cmp_total nat_cmp-IsAntisymmetric _ _ (λ q.
      get_values (insert i n k) t (HaveOwnSlots-added i s t n k x u vacant held) q
      ∙ ap (value_in_slot t) (get-insert nat_cmp_total i n k q)
      ∙ by_equality q n (λ b. value_in_slot t (cond b (Some k) (get i q)) ≡ cond b (Some x) (value_in_slot s (get i q)))
      (λ same. u.changed)
      (λ apart. kept s t k (Some x) (get i q) u (λ j h same. vacant_slot s j k same vacant (held.in_use q j h)))
      ∙ sym (get-insert nat_cmp_total (values_of i s) n x q ∙ ap (cond (eq_by_cmp nat_cmp q n) (Some x)) (get_values i s held q)))

  -- ---- a value taken out

  -- each number left still has a slot of its own once n is removed, and the slot to which it led is vacant
  pub HaveOwnSlots-removed : (i : FinMap nat_cmp ℕ) (s t : slab.Slab V) (n k : ℕ) → slab.Updates s t k None
      → get i n ≡ Some k → HaveOwnSlots i s → HaveOwnSlots (remove i n) t
  HaveOwnSlots-removed i s t n k u is held = record {
    in_use = λ m j h. by_equality m n (λ b. cond b None (get i m) ≡ Some j → is_some (slab.get t j) ≡ true)
        (λ same e. some_none j (sym e))
        (λ apart e. ap is_some (u.others j (λ same. apart (held.by_one m n k (e ∙ ap Some same) is))) ∙ held.in_use m j e)
        (sym (get-remove nat_cmp_total i n m) ∙ h);
    by_one = λ a b j h g. by_equality a n (λ c. cond c None (get i a) ≡ Some j → a ≡ b)
        (λ same e. some_none j (sym e))
        (λ apart e. by_equality b n (λ c. cond c None (get i b) ≡ Some j → a ≡ b)
        (λ same f. some_none j (sym f))
        (λ b_apart f. held.by_one a b j e f)
        (sym (get-remove nat_cmp_total i n b) ∙ g))
        (sym (get-remove nat_cmp_total i n a) ∙ h);
  }

  -- once n and the value in its slot are removed, the map of values has nothing under n, and is otherwise the same
  pub values_removed : (i : FinMap nat_cmp ℕ) (s t : slab.Slab V) (n k : ℕ) → slab.Updates s t k None → get i n ≡ Some k
      → HaveOwnSlots i s → values_of (remove i n) t ≡ remove (values_of i s) n
  values_removed i s t n k u is held = same_map nat_cmp_total nat_cmp-IsAntisymmetric _ _ (λ q.
      get_values (remove i n) t (HaveOwnSlots-removed i s t n k u is held) q
      ∙ ap (value_in_slot t) (get-remove nat_cmp_total i n q)
      ∙ by_equality q n (λ b. value_in_slot t (cond b None (get i q)) ≡ cond b None (value_in_slot s (get i q)))
      (λ same. refl)
      (λ apart. kept s t k None (get i q) u (λ j h same. apart (held.by_one q n k (h ∙ ap Some same) is)))
      ∙ sym (get-remove nat_cmp_total (values_of i s) n q ∙ ap (cond (eq_by_cmp nat_cmp q n) None) (get_values i s held q)))

  -- slabs with the same values in the same slots give the same map of values
  pub nothing_changed : (i : FinMap nat_cmp ℕ) (s t : slab.Slab V) → slab.SameValues s t → values_of i t ≡ values_of i s
  nothing_changed i s t same = ap from_entries (slot_entries_same (entries i) s t same)

  -- each number still has a slot of its own in another slab with the same values in the same slots
  pub HaveOwnSlots-same : (i : FinMap nat_cmp ℕ) (s t : slab.Slab V) → slab.SameValues s t → HaveOwnSlots i s
      → HaveOwnSlots i t
  HaveOwnSlots-same i s t same held =
      record { in_use = λ n k h. ap is_some (same k) ∙ held.in_use n k h; by_one = held.by_one }

  -- putting a value into a vacant slot and taking it out again gives a slab, r, with the same values as before
  pub put_back : (s t r : slab.Slab V) (k : ℕ) (x : V) → slab.get s k ≡ None → slab.Updates s t k (Some x)
      → slab.Updates t r k None → slab.SameValues s r
  put_back s t r k x vacant u v j = elim (cases_eq j k) [
    | inl same ↦ ap (slab.get r) same ∙ v.changed ∙ sym (ap (slab.get s) same ∙ vacant)
    | inr apart ↦ v.others j apart ∙ u.others j apart
  ]

  inside : (s : slab.Slab V) (k : ℕ) → is_some (slab.get s k) ≡ true → k < length s.slots
  inside s k h = elim (cases_lt k (length s.slots)) [
    | inl l ↦ l
    | inr l ↦ absurd (false≢true (sym (ap is_some (get_or_past s.slots k None l)) ∙ h))
  ]

  -- writing x into slot k, which has a value, changes the slab in this slot alone
  pub written : (s : slab.Slab V) (k : ℕ) (x : V) → is_some (slab.get s k) ≡ true
      → slab.Updates s (slab.with_value s k x) k (Some x)
  written s k x h =
      record { changed = get_or-set_same s.slots k (Some x) None (inside s k h); others = λ j ne. get_or-set_other s.slots k j (Some x) None ne }

pub no_values : {V : Type 0} (s : slab.Slab V) → values_of empty s ≡ empty
no_values s = rw (entries-empty {X = ℕ}) refl

pub HaveOwnSlots-empty : {V : Type 0} (s : slab.Slab V) → HaveOwnSlots empty s
HaveOwnSlots-empty s = record {
  in_use = λ n k h. some_none k (sym h ∙ get-empty nat_cmp n);
  by_one = λ n m k h g. some_none k (sym h ∙ get-empty nat_cmp n);
}

-- ---- the arena's invariant: as many slots are in use as there are numbers that lead to one
module _ {V : Type 0} where
  -- writing into a slot that has a value leaves as many slots in use
  pub len_written : (s : slab.Slab V) (k : ℕ) (w : V) → is_some (slab.get s k) ≡ true
      → slab.slab_len (slab.with_value s k w) ≡ slab.slab_len s
  len_written s k w h =
      let change = sum_by-set (λ (o : Option V). cond (is_some o) 1 0) s.slots k (Some w) None (inside s k h) in
      let counts : Bool → ℕ = λ b. cond b 1 0 in
      let one : counts (is_some (slab.get s k)) ≡ counts true = ap counts h in
      omega (arith, change, one)

  -- once a new number leads to a slot that was vacant, and one slot more than before is in use, each number still has a
  -- slot of its own, and no other slot is in use (IsArena)
  pub IsArena-added : (i : FinMap nat_cmp ℕ) (s t : slab.Slab V) (n k : ℕ) (x : V) → slab.Updates s t k (Some x)
      → slab.get s k ≡ None → slab.slab_len t ≡ slab.slab_len s + 1 → get i n ≡ None → IsArena i s
      → IsArena (insert i n k) t
  IsArena-added i s t n k x u vacant more fresh held =
      let same = held.none_idle in
      let size : len (insert i n k) ≡ len i + 1 = len-insert nat_cmp_total i n k ∙ ap (λ o. cond (is_some o) (len i) (len i + 1)) fresh in
      record { slots_used = HaveOwnSlots-added i s t n k x u vacant held.slots_used; none_idle = omega (arith, same, size, more) }

  -- the arena's invariant still holds once number n and the value in its slot are removed, and one slot less is in use
  pub IsArena-removed : (i : FinMap nat_cmp ℕ) (s t : slab.Slab V) (n k : ℕ) → slab.Updates s t k None
      → slab.slab_len t + 1 ≡ slab.slab_len s → get i n ≡ Some k → IsArena i s → IsArena (remove i n) t
  IsArena-removed i s t n k u less is held =
      let same = held.none_idle in
      let size : len (remove i n) ≡ len i - 1 = len-remove nat_cmp_total i n ∙ ap (λ o. cond (is_some o) (len i - 1) (len i)) is in
      record { slots_used = HaveOwnSlots-removed i s t n k u is held.slots_used; none_idle = omega (arith, same, size, less) }

  -- the arena's invariant still holds once the value in a slot is replaced by another one
  pub IsArena-changed : (i : FinMap nat_cmp ℕ) (s : slab.Slab V) (k : ℕ) (w : V) → is_some (slab.get s k) ≡ true
      → IsArena i s → IsArena i (slab.with_value s k w)
  IsArena-changed i s k w used held =
      record { slots_used = HaveOwnSlots-changed i s (slab.with_value s k w) k w (written s k w used) held.slots_used; none_idle = len_written s k w used ∙ held.none_idle }

  -- an index and a slab s that are an arena (IsArena) stay one with slab t in place of s, if t has the same values, and
  -- as many slots in use
  pub IsArena-same : (i : FinMap nat_cmp ℕ) (s t : slab.Slab V) → slab.SameValues s t
      → slab.slab_len t ≡ slab.slab_len s → IsArena i s → IsArena i t
  IsArena-same i s t same as_many held =
      record { slots_used = HaveOwnSlots-same i s t same held.slots_used; none_idle = as_many ∙ held.none_idle }

  -- an index without numbers and a slab without slots are an arena (IsArena)
  pub IsArena-empty : (s : slab.Slab V) → s.slots ≡ [] → IsArena empty s
  IsArena-empty s none =
      record { slots_used = HaveOwnSlots-empty s; none_idle = ap (count_by is_some) none ∙ sym (len-empty nat_cmp ℕ) }

pub on_err : {A E P : Type 0} (r : Result A E) → P → OnErr r P
on_err (Ok a) p = tt
on_err (Err e) p = p

-- two loans of n are equal if what is left after a value w is written, F w or G w, is the same for each w
pub lent_same : {N W D E : Type 0} (n : N) (F G : W → D) → ((w : W) → F w ≡ G w)
    → ◌≡◌ {A = (N × (W → D)) ⊎ E} (inl (n, F)) (inl (n, G))
lent_same n F G h j = inl (n, λ w. h w j)

-- ---- sorted by number

less_than_each_key : {V : Type 0} (k : ℕ) (es : List (ℕ × V)) → below_all nat_cmp k es ≡ true
    → AllByRecursion (λ n. nat_cmp k n ≡ Less) (keys_of es)
less_than_each_key k [] h = tt
less_than_each_key k (e ∷ es) h =
    (is_less (nat_cmp k e.0) (and_parts _ _ h).0, less_than_each_key k es (and_parts _ _ h).1)

-- the keys of sorted entries rise strictly
pub keys_rise : {V : Type 0} (es : List (ℕ × V)) → is_sorted nat_cmp es ≡ true → IsStrictlySortedBy nat_cmp (keys_of es)
unfolding IsStrictlySortedBy
keys_rise [] h = tt
keys_rise (e ∷ es) h = (less_than_each_key e.0 es (and_parts _ _ h).0, keys_rise es (and_parts _ _ h).1)

module _ {V : Type 0} (s : slab.Slab V) where
  key_step : (n : ℕ) (o : Option V) (rest : List (ℕ × V)) → is_some o ≡ true
      → keys_of (slot_entry_at n o rest) ≡ n ∷ keys_of rest
  key_step n None rest h = absurd (false≢true h)
  key_step n (Some v) rest h = refl

  keys_of_slot_entries : (es : List (ℕ × ℕ)) → AreInUse es s → keys_of (slot_entries es s) ≡ keys_of es
  keys_of_slot_entries [] h = refl
  keys_of_slot_entries (e ∷ es) h =
      key_step e.0 (slab.get s e.1) (slot_entries es s) h.0 ∙ ap (λ ns. e.0 ∷ ns) (keys_of_slot_entries es h.1)

  -- the entries of the map of values are those of the index, with the values in their slots
  pub entries_values : (i : FinMap nat_cmp ℕ) → HaveOwnSlots i s → entries (values_of i s) ≡ slot_entries (entries i) s
  entries_values i held =
      entries_of (slot_entries (entries i) s)
      (rw (keys_of_slot_entries (entries i) (all_in_use i s held)) (keys_rise (entries i) (sorted i)))

  -- the map of values has as many numbers as the index
  pub len_values : (i : FinMap nat_cmp ℕ) → HaveOwnSlots i s → len (values_of i s) ≡ len i
  len_values i held =
      len-entries (values_of i s) ∙ ap length (entries_values i held)
      ∙ sym (length-map (slot_entries (entries i) s) (λ (e : ℕ × V). e.0))
      ∙ ap length (keys_of_slot_entries (entries i) (all_in_use i s held)) ∙ length-map (entries i) (λ (e : ℕ × ℕ). e.0)
      ∙ sym (len-entries i)
