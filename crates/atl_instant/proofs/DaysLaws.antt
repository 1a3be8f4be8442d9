-- Laws of TRANSFER: the days of each skill that the code sets, one skill after another, are those of the definition. A
-- map of days (`days`, `had`, `left`) has the days of each skill, by the skill's number. n men go from one unit to
-- another: h is what one of the two units holds, and `other` what the sender holds where h is the receiver's.
use Rattle.std.proofs.Common.{◌≡◌, ℕ, ◌+◌, ◌-◌, ◌/◌, ◌≤◌, Bool, true, false, cond, List, [], ◌∷◌, ◌++◌, map, Option, Some, None, refl, sym, ap, subst, ◌∙◌, arith}
use Rattle.std.proofs.Math.Nat.{zero-div, zero-mul}
use Rattle.std.specs.Prelude.{fold, is_some, unwrap_or, ◌||◌}
use Rattle.std.specs.Ordering.{nat_cmp, eq_by_cmp}
use Rattle.std.specs.FinMap.{FinMap, contains_key-keys, empty, entries, get, get-empty, keys}
use Rattle.std.specs.List.{list_any}
use Rattle.std.proofs.lemmas.List.Folds.{list_any-append}
use Rattle.std.proofs.lemmas.Bool.{or_parts}
use Rattle.atl_world.specs.Every.{EachEntry, Every}
use Rattle.atl_records.specs.Holdings.{HoldingValue, amount_of, with_amount_of}
use Rattle.atl_world.proofs.EveryLaws.{each-from_every, every-empty}
use Rattle.atl_phase.specs.Holdings.{with_days}
use Rattle.atl_instant.specs.SkillDays.{left_list, raised_list}
use Rattle.atl_instant.specs.Transfer.{DaysGoWithMen, days_going, going_of, raised_of, staying_of, after_sending, after_receiving}
use Rattle.atl_instant.proofs.AmountsForLaws.{as_said, each_said, same_amounts}
use Rattle.atl_records.proofs.HoldingLaws.{compared_equal_is_equal, every_amount, amount_after_setting}

-- `days` has the days of each skill by the skill's number; f makes of a skill and its days the new days; s is one skill
module _ (days : FinMap nat_cmp ℕ) (f : ℕ → ℕ → ℕ) (s : ℕ) where
  -- the map `left` after the days of each skill in a list of entries are set to f of the skill and of its days in the
  -- list
  abbrev set_all : FinMap nat_cmp ℕ → List (ℕ × ℕ) → FinMap nat_cmp ℕ
  set_all left es = fold (λ (m : FinMap nat_cmp ℕ) (e : ℕ × ℕ). with_amount_of m e.0 (f e.0 e.1)) left es

  abbrev is_among : List (ℕ × ℕ) → Bool
  is_among es = list_any (eq_by_cmp nat_cmp s) (map (λ e. e.0) es)

  -- if each entry has the days that `days` has of its skill: once the entries are set, skill s has f of its days where
  -- it is among the entries, and otherwise the days that `left` had of s
  set_among : (es : List (ℕ × ℕ)) (left : FinMap nat_cmp ℕ) → EachEntry (λ k v. amount_of days k ≡ v) es
      → amount_of (set_all left es) s ≡ cond (is_among es) (f s (amount_of days s)) (amount_of left s)
  set_among [] left each = refl
  set_among ((k, v) ∷ es) left (one, each) =
      set_among es (with_amount_of left k (f k v)) each
      ∙ ap (cond (is_among es) (f s (amount_of days s))) (amount_after_setting left k (f k v) s)
      ∙ by_key (eq_by_cmp nat_cmp s k) refl
    where
      choice_of_same : (b : Bool) (x : ℕ) → cond b x x ≡ x
      choice_of_same true x = refl
      choice_of_same false x = refl

      by_key : (b : Bool) → eq_by_cmp nat_cmp s k ≡ b
          → cond (is_among es) (f s (amount_of days s)) (cond b (f k v) (amount_of left s))
          ≡ cond (b || is_among es) (f s (amount_of days s)) (amount_of left s)
      by_key true is =
          let same : s ≡ k = compared_equal_is_equal k s is in
          let here : f k v ≡ f s (amount_of days s) = ap (f k) (sym one) ∙ ap (λ j. f j (amount_of days j)) (sym same) in
          ap (cond (is_among es) (f s (amount_of days s))) here ∙ choice_of_same (is_among es) (f s (amount_of days s))
      by_key false is = refl

  -- Once each skill that `days` lists is set, in the map `left`, to f of the skill and its days, skill s has f of s and
  -- of its days in `days`. If `days` has 0 days of s, `left` must already have f of s and 0 for it.
  pub set_each : (left : FinMap nat_cmp ℕ) → (amount_of days s ≡ 0 → amount_of left s ≡ f s 0)
      → amount_of (set_all left (entries days)) s ≡ f s (amount_of days s)
  set_each left others =
      set_among (entries days) left (each-from_every (λ k v. amount_of days k ≡ v) days (λ k v there. ap (λ (o : Option ℕ). unwrap_or o 0) there))
      ∙ ap (λ b. cond b (f s (amount_of days s)) (amount_of left s)) (sym (contains_key-keys days s))
      ∙ by_option (get days s) refl
    where
      by_option : (o : Option ℕ) → get days s ≡ o
          → cond (is_some o) (f s (amount_of days s)) (amount_of left s) ≡ f s (amount_of days s)
      by_option (Some d) there = refl
      by_option None there =
          let none : amount_of days s ≡ 0 = ap (λ (o : Option ℕ). unwrap_or o 0) there in
          others none ∙ ap (f s) (sym none)

zero_days_going : (n men : ℕ) → days_going n men 0 ≡ 0
zero_days_going n men = ap (λ k. k / men) (zero-mul n) ∙ zero-div men

-- `with_days` of a list to whose days f was applied gives the same map as setting, for each entry of the list itself, f
-- of its days
with_days_mapped : (f : ℕ → ℕ → ℕ) (es : List (ℕ × ℕ)) (all : FinMap nat_cmp ℕ) →
    with_days all (map (λ e. (e.0, f e.0 e.1)) es) ≡ fold (λ (m : FinMap nat_cmp ℕ) (e : ℕ × ℕ). with_amount_of m e.0 (f e.0 e.1)) all es
with_days_mapped f [] all = refl
with_days_mapped f (e ∷ es) all = with_days_mapped f es (with_amount_of all e.0 (f e.0 e.1))

none_listed : (days : FinMap nat_cmp ℕ) (s : ℕ) → list_any (eq_by_cmp nat_cmp s) (keys days) ≡ false
    → amount_of days s ≡ 0
none_listed days s none = by_option (get days s) (contains_key-keys days s ∙ none)
  where
    by_option : (o : Option ℕ) → is_some o ≡ false → unwrap_or o 0 ≡ 0
    by_option None is = refl
    by_option (Some d) is = cc

none_stay : (d g : ℕ) → d ≡ 0 → d - g ≡ 0
none_stay d g e = omega (arith, e)

none_come : (d g : ℕ) → d ≡ 0 → g ≡ 0 → d + g ≡ 0
none_come d g e f = omega (arith, e, f)

-- of a skill s in which a unit has no days, none go with n of its men
pub none_go : (n : ℕ) (h : HoldingValue) (s : ℕ) → amount_of h.days s ≡ 0 → going_of n h s ≡ 0
none_go n h s none = ap (days_going n h.men) none ∙ zero_days_going n h.men

-- after n men went, the sender has the days of each skill that stay (`staying_of`), and the receiver those that it had
-- and those that came (`raised_of`)
pub days_go_with_men : DaysGoWithMen
days_go_with_men n other h s = record {
  stay = as_said (staying_of n other) (keys other.days) s (λ none. none_stay (amount_of other.days s) (going_of n other s) (none_listed other.days s none));
  come =
      as_said (raised_of n other h) (keys h.days ++ keys other.days) s (λ none.
      let apart = or_parts (list_any (eq_by_cmp nat_cmp s) (keys h.days)) (list_any (eq_by_cmp nat_cmp s) (keys other.days)) (sym (list_any-append (eq_by_cmp nat_cmp s) (keys h.days) (keys other.days)) ∙ none) in
      none_come (amount_of h.days s) (going_of n other s) (none_listed h.days s apart.0) (none_go n other s (none_listed other.days s apart.1)));
}

no_zeros_after_setting : (f : ℕ → ℕ → ℕ) (es : List (ℕ × ℕ)) (left : FinMap nat_cmp ℕ) → Every (λ s d. 1 ≤ d) left
    → Every (λ s d. 1 ≤ d) (fold (λ (m : FinMap nat_cmp ℕ) (e : ℕ × ℕ). with_amount_of m e.0 (f e.0 e.1)) left es)
no_zeros_after_setting f [] left old = old
no_zeros_after_setting f (e ∷ es) left old =
    no_zeros_after_setting f es (with_amount_of left e.0 (f e.0 e.1))
    (every_amount (λ s d. 1 ≤ d) left e.0 (f e.0 e.1) (λ some. some) old)

-- Setting each skill of `days` to f of its days in the map `had` gives the map `said`. For this `said` has f of the
-- days of every skill, and `had` has it already where `days` has 0. Neither `had` nor `said` lists a skill with 0 days.
setting_gives_map : (days had said : FinMap nat_cmp ℕ) (f : ℕ → ℕ → ℕ) → Every (λ s d. 1 ≤ d) had
    → Every (λ s d. 1 ≤ d) said
    → ((s : ℕ) → amount_of days s ≡ 0 → amount_of had s ≡ f s 0) → ((s : ℕ) → f s (amount_of days s) ≡ amount_of said s)
    → with_days had (map (λ e. (e.0, f e.0 e.1)) (entries days)) ≡ said
setting_gives_map days had said f some some_said others each =
    let set = with_days_mapped f (entries days) had in
    same_amounts (with_days had (map (λ e. (e.0, f e.0 e.1)) (entries days))) said
    (subst (Every (λ s d. 1 ≤ d)) (sym set) (no_zeros_after_setting f (entries days) had some)) some_said
    (λ s. ap (λ (m : FinMap nat_cmp ℕ). amount_of m s) set ∙ set_each days f s had (others s) ∙ each s)

-- Setting each skill of `days` to what f makes of the skill and its days gives the same map in `days` itself as in the
-- empty map. For this f gives 0 for 0 days, and `days` lists no skill with 0 days.
pub set_again : (days : FinMap nat_cmp ℕ) (f : ℕ → ℕ → ℕ) → ((s : ℕ) → f s 0 ≡ 0) → Every (λ s d. 1 ≤ d) days
    → with_days days (map (λ e. (e.0, f e.0 e.1)) (entries days)) ≡ fold (λ (m : FinMap nat_cmp ℕ) (e : ℕ × ℕ). with_amount_of m e.0 (f e.0 e.1)) empty (entries days)
set_again days f none some =
    let anew = fold (λ (m : FinMap nat_cmp ℕ) (e : ℕ × ℕ). with_amount_of m e.0 (f e.0 e.1)) empty (entries days) in
    setting_gives_map days days anew f some (no_zeros_after_setting f (entries days) empty (every-empty (λ s d. 1 ≤ d))) (λ s free. free ∙ sym (none s))
    (λ s. sym (set_each days f s empty (λ free. ap (λ (o : Option ℕ). unwrap_or o 0) (get-empty nat_cmp s) ∙ sym (none s))))

abbrev days_staying : (n men : ℕ) → (skill days : ℕ) → ℕ
days_staying n men k d = d - days_going n men d

-- what the sender of n men holds after the code's changes is what the definition says (`after_sending`), if the sender
-- lists no skill with 0 days
pub sender_holding_is : (n : ℕ) (h : HoldingValue) → Every (λ s d. 1 ≤ d) h.days
    → record h { men = h.men - n; days = with_days h.days (left_list n h.men h.days) } ≡ after_sending n h
sender_holding_is n h had =
    ap (λ (m : FinMap nat_cmp ℕ). record h { men = h.men - n; days = m })
    (setting_gives_map h.days h.days (after_sending n h).days (days_staying n h.men) had
    (λ s d there. (each_said (staying_of n h) (keys h.days) s d there).0)
    (λ s none. none ∙ sym (none_stay 0 (days_going n h.men 0) refl))
    (λ s. sym (days_go_with_men n h h s).stay))

-- the days of a skill that a receiver has after n of the sender's `men` men came: those in its map before, and the part
-- of the sender's `days` that came
abbrev raised_days : (n men : ℕ) → FinMap nat_cmp ℕ → (skill days : ℕ) → ℕ
raised_days n men had k d = amount_of had k + days_going n men d

-- what the receiver of n men holds after the code's changes is what the definition says (`after_receiving`), if the
-- receiver lists no skill with 0 days
pub receiver_holding_is : (n : ℕ) (other h : HoldingValue) → Every (λ s d. 1 ≤ d) h.days
    → record h { men = h.men + n; days = with_days h.days (raised_list n other.men other.days h.days) }
    ≡ after_receiving n other h
receiver_holding_is n other h had =
    ap (λ (m : FinMap nat_cmp ℕ). record h { men = h.men + n; days = m })
    (setting_gives_map other.days h.days (after_receiving n other h).days (raised_days n other.men h.days) had
    (λ s d there. (each_said (raised_of n other h) (keys h.days ++ keys other.days) s d there).0)
    (λ s none. nothing_more (amount_of h.days s) (days_going n other.men 0) (zero_days_going n other.men))
    (λ s. sym (days_go_with_men n other h s).come))
  where
    nothing_more : (a g : ℕ) → g ≡ 0 → a ≡ a + g
    nothing_more a g e = omega arith
