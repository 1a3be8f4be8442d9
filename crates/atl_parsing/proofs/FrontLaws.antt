-- Laws on the router's rows: looking up a path in rows with a common prefix, and a number after that prefix. A row is
-- the pattern of a route with a key. In a pattern `param_token`, which is greater than any byte, stands for a
-- parameter, which is a piece of a path without a slash. `first` gives the key of the row that a path matches, or None,
-- and `prepend` puts a prefix in front of each row. `w` is a prefix, `p` a path, `rest` what the path has after the
-- prefix, and `t` rows, or the result of a test.
use Rattle.std.proofs.Common.{get_or, ltb, ◌&&◌, ◌≡◌, ◌≢◌, ℕ, ◌-◌, ◌<◌, ◌⊎◌, inl, inr, List, [], ◌∷◌, ◌++◌, length, take, drop, Option, Some, None, Bool, true, false, cond, refl, sym, ap, ◌∙◌, subst, arith, nat_eq, ◌==◌}
use Rattle.std.specs.Prelude.{option_and_then}
use Rattle.std.specs.Cmp.Lexicographic.{pointwise}
use Rattle.std.proofs.lemmas.Bool.Decides.{nat_tests}
use Rattle.matchit.specs.Rows.{Rows, prepend, param_token}
use Rattle.matchit.specs.Seek.{step, or_else, seek, first, param_step, has_slash, after_param}
use Rattle.matchit.specs.Level.{IsText}
use Rattle.matchit.proofs.SeekLemmas.{prepend-nil, own-prepend, step-hit, step-miss, seek-empty, seek-lit, param_step-empty}
use Rattle.matchit.proofs.ParamLemmas.{after_param-end, after_param-stop}
use Rattle.std.specs.List.{list_all}
use Rattle.std.specs.Char.{is_ascii_digit}
use Rattle.std.specs.Str.{IsUtf8}
use Rattle.std.proofs.lemmas.Str.{IsUtf8-from_ascii}
use Rattle.std.proofs.lemmas.Str.Ascii.{IsAscii-from_all}
use Rattle.atl_parsing.specs.Routes.{after_prefix, number_of}
use Rattle.std.proofs.lemmas.List.Folds.{list_all_at}
use Rattle.std.specs.Str.Parse.{digits_value}
use Rattle.std.specs.Prelude.{nat_lt, nat_le}

-- ---- the rest of a path after a prefix

-- What a path has after a prefix (`after_prefix`) is found by comparing their first bytes, and then what follows in
-- both.
after_prefix_step : (x y : ℕ) (w p : List ℕ) → after_prefix (x ∷ w) (y ∷ p) ≡ cond (y == x) (after_prefix w p) None
after_prefix_step x y w p =
    elim (y == x) as (λ t. cond (t && pointwise nat_eq (take (length w) p) w) (Some (drop (length w) p)) None ≡ cond t (after_prefix w p) None) [
      | true ↦ refl
      | false ↦ refl
    ]

after_prefix_by : (x y : ℕ) (w p rest : List ℕ) (t : Bool) → (y == x) ≡ t
    → (after_prefix w p ≡ Some rest → p ≡ w ++ rest) → cond t (after_prefix w p) None ≡ Some rest
    → y ∷ p ≡ x ∷ (w ++ rest)
after_prefix_by x y w p rest true e ih k =
    let same : y ≡ x = grind (arith, nat_tests) in
    rw (same, ih k) refl
after_prefix_by x y w p rest false e ih k = cc

-- if `rest` is what a path `p` has after a prefix `w`, the path is the prefix and then `rest`
pub after_prefix_is : (w p rest : List ℕ) → after_prefix w p ≡ Some rest → p ≡ w ++ rest
after_prefix_is [] p rest h = cc
after_prefix_is (x ∷ w) [] rest h = cc
after_prefix_is (x ∷ w) (y ∷ p) rest h =
    after_prefix_by x y w p rest (y == x) refl (λ k. after_prefix_is w p rest k) (sym (after_prefix_step x y w p) ∙ h)

-- For `lookup_after_prefix`: looking up a path past its first byte, in rows with a common prefix, looks up what follows
-- the prefix. It finds nothing where the first bytes of path and prefix differ, or the path lacks the prefix.
lookup_after_prefix_by : (x y : ℕ) (w p : List ℕ) (t : Rows) (v : Bool) → (y == x) ≡ v
    → first (prepend w t) p ≡ option_and_then (λ rest. first t rest) (after_prefix w p)
    → seek 0 (step y (prepend (x ∷ w) t)) p ≡ option_and_then (λ rest. first t rest) (cond v (after_prefix w p) None)
lookup_after_prefix_by x y w p t true e ih =
    let same : y ≡ x = grind (arith, nat_tests) in
    rw (same, step-hit x w t) ih
lookup_after_prefix_by x y w p t false e ih =
    let differ : x ≢ y = λ q. grind (arith, nat_tests) in
    rw (step-miss y x w t differ) (seek-empty 0 p)

-- looking up a path in rows with a common prefix that has no parameter (`IsText`) looks up what follows the prefix, or
-- finds nothing if the path lacks the prefix
pub lookup_after_prefix : (w : List ℕ) (t : Rows) (path : List ℕ) → IsText w
    → first (prepend w t) path ≡ option_and_then (λ rest. first t rest) (after_prefix w path)
unfolding seek
lookup_after_prefix [] t path h = ap (λ r. first r path) (prepend-nil t)
lookup_after_prefix (x ∷ w) t [] h = own-prepend x w t
lookup_after_prefix (x ∷ w) t (y ∷ p) h =
    seek-lit x w t y p h.0
    ∙ lookup_after_prefix_by x y w p t (y == x) refl (lookup_after_prefix w t p h.1)
    ∙ ap (λ r. option_and_then (λ rest. first t rest) r) (sym (after_prefix_step x y w p))

-- ---- a number after a prefix

-- the row of a parameter alone, with this key; it matches a text that isn't empty and has no slash
abbrev pub number_row : ℕ → Rows
number_row key = (param_token ∷ [], key) ∷ []

slash_step : (b : ℕ) (p : List ℕ) (t : Bool) → is_ascii_digit b ≡ t
    → (list_all is_ascii_digit p ≡ true → has_slash p ≡ false) → (t && list_all is_ascii_digit p) ≡ true
    → has_slash (b ∷ p) ≡ false
slash_step b p true e ih h =
    let differ : (b == 47) ≡ false = grind (arith, nat_tests) in
    rw differ (ih h)
slash_step b p false e ih h = cc

no_slash : (p : List ℕ) → list_all is_ascii_digit p ≡ true → has_slash p ≡ false
no_slash [] h = refl
no_slash (b ∷ p) h = slash_step b p (is_ascii_digit b) refl (λ k. no_slash p k) h

first_digit : (b : ℕ) (p : List ℕ) (t : Bool) → is_ascii_digit b ≡ t → (t && list_all is_ascii_digit p) ≡ true
    → (param_token == b) ≡ false
first_digit b p true e h = grind (arith, nat_tests)
first_digit b p false e h = cc

-- Looking up a text that isn't empty in the row of a parameter finds the row's key, if the text has no slash. Its first
-- byte must not be `param_token`, the sign for a parameter in the router's rows.
key_found : (key b : ℕ) (p : List ℕ) → (param_token == b) ≡ false → has_slash (b ∷ p) ≡ false
    → first (number_row key) (b ∷ p) ≡ Some key
unfolding seek
key_found key b p e h =
    let whole : after_param (([], key) ∷ []) (b ∷ p) ≡ Some key = after_param-end [] (Some key) b p tt refl h in
    rw (e, seek-empty 0 p, whole) refl

-- A lookup found this key or nothing.
abbrev IsKeyOrNone : ℕ → Option ℕ → Type 0
IsKeyOrNone key found = (found ≡ Some key) ⊎ (found ≡ None)

or_either : (key : ℕ) (a b : Option ℕ) → IsKeyOrNone key a → IsKeyOrNone key b → IsKeyOrNone key (or_else a b)
or_either key a b (inl e) h = inl (ap (λ x. or_else x b) e)
or_either key a b (inr e) h = subst (λ x. IsKeyOrNone key (or_else x b)) (sym e) h

-- a row with nothing left to match finds nothing for a path that has bytes left, the first of them `b`
pub end_none : (key b : ℕ) (p : List ℕ) → seek 0 (([], key) ∷ []) (b ∷ p) ≡ None
unfolding seek
end_none key b p = simp (seek-empty 0 p, param_step-empty (b ∷ p), seek-empty ((param_step {K = ℕ} [] (b ∷ p)).0 - 1) p)

end_alone : (key : ℕ) (p : List ℕ) → IsKeyOrNone key (seek 0 (([], key) ∷ []) p)
unfolding seek
end_alone key [] = inl refl
end_alone key (b ∷ p) = inr (end_none key b p)

-- For `one_or_none`: a path is looked up in a table that has the route's row if the test `t` is true, and else no row.
-- Either way the lookup gives the route's key, or nothing.
one_row_or_none_finds_key_or_none : (key b : ℕ) (p : List ℕ) (t : Bool)
    → IsKeyOrNone key (seek 0 (cond t (([], key) ∷ []) []) p)
one_row_or_none_finds_key_or_none key b p true = end_alone key p
one_row_or_none_finds_key_or_none key b p false = inr (seek-empty 0 p)

parameter_key_or_none : (key b : ℕ) (p : List ℕ) (t : Bool) → has_slash (b ∷ p) ≡ t
    → IsKeyOrNone key (after_param (([], key) ∷ []) (b ∷ p))
parameter_key_or_none key b p true h = inr (after_param-stop [] (Some key) b p refl h)
parameter_key_or_none key b p false h = inl (after_param-end [] (Some key) b p tt refl h)

one_or_none : (key b : ℕ) (p : List ℕ) → IsKeyOrNone key (first (number_row key) (b ∷ p))
unfolding seek
one_or_none key b p =
    or_either key (seek 0 (cond (param_token == b) (([], key) ∷ []) []) p) (or_else (after_param (([], key) ∷ []) (b ∷ p)) None) (one_row_or_none_finds_key_or_none key b p (param_token == b))
    (or_either key (after_param (([], key) ∷ []) (b ∷ p)) None (parameter_key_or_none key b p (has_slash (b ∷ p)) refl) (inr refl))

-- a choice between a number and None is None, if the last of its three tests, whether all are digits, fails
none_if_not_digits : (x y : Bool) (n : Option ℕ) → cond (x && (y && false)) n None ≡ None
none_if_not_digits true true n = refl
none_if_not_digits true false n = refl
none_if_not_digits false y n = refl

ascii_if_test_passes : (test : ℕ → Bool) (b : ℕ) (t : Bool) → test b ≡ t → (test b ≡ true → b < 128) → (t ≡ false → ⊥)
    → b < 128
ascii_if_test_passes test b true e small h = small e
ascii_if_test_passes test b false e small h = absurd (h refl)

all_utf8 : (test : ℕ → Bool) → ((b : ℕ) → test b ≡ true → b < 128) → (p : List ℕ) → list_all test p ≡ true → IsUtf8 p
all_utf8 test small p h =
    IsUtf8-from_ascii p (IsAscii-from_all p (λ k d l. ascii_if_test_passes test (get_or p k d) (test (get_or p k d)) refl (small (get_or p k d)) (λ e.
    let none = list_all_at test p k d l e in
    cc)))

digits_utf8 : (p : List ℕ) → list_all is_ascii_digit p ≡ true → IsUtf8 p
digits_utf8 p h = all_utf8 is_ascii_digit (λ b e. grind (arith, nat_tests)) p h

-- a text of bytes below 128 is UTF-8
pub ascii_utf8 : (p : List ℕ) → list_all (λ b. ltb b 128) p ≡ true → IsUtf8 p
ascii_utf8 p h = all_utf8 (λ b. ltb b 128) (λ b e. grind (arith, nat_tests)) p h

-- What looking up a text in the row of a parameter finds. It finds the row's key, and then the text is UTF-8 or no
-- number; or nothing, and then the text is no number.
abbrev pub IsNumberLookup : ℕ → List ℕ → Type 0
IsNumberLookup key rest =
    ((first (number_row key) rest ≡ Some key) × ((number_of rest ≡ None) ⊎ IsUtf8 rest)) ⊎
    ((first (number_row key) rest ≡ None) × (number_of rest ≡ None))

found_or_none : (key : ℕ) (rest : List ℕ) → number_of rest ≡ None → IsKeyOrNone key (first (number_row key) rest)
    → IsNumberLookup key rest
found_or_none key rest none (inl e) = inl (e, inl none)
found_or_none key rest none (inr e) = inr (e, none)

number_by : (key b : ℕ) (p : List ℕ) (t : Bool) → list_all is_ascii_digit (b ∷ p) ≡ t → IsNumberLookup key (b ∷ p)
unfolding number_of
number_by key b p true e =
    inl
    (key_found key b p (first_digit b p (is_ascii_digit b) refl e) (no_slash (b ∷ p) e), inr (digits_utf8 (b ∷ p) e))
number_by key b p false e =
    let none : number_of (b ∷ p) ≡ None = rw e (none_if_not_digits (nat_lt 0 (length (b ∷ p))) (nat_le (length (b ∷ p)) 9) (Some (digits_value 10 (b ∷ p)))) in
    found_or_none key (b ∷ p) none (one_or_none key b p)

-- `IsNumberLookup` holds of each text: looking it up in the row of a parameter finds the key, and the text is UTF-8 or
-- no number; or it finds nothing, and the text is no number
pub number_says : (key : ℕ) (rest : List ℕ) → IsNumberLookup key rest
unfolding seek number_of
number_says key [] = inr (refl, refl)
number_says key (b ∷ p) = number_by key b p (list_all is_ascii_digit (b ∷ p)) refl
