-- Laws of default names: a word and a number, as `Unit 7`, keep the rule of names. The word can be the front of a name
-- (IsNamePrefix): it has 1 to 20 bytes that may be in names, and does not begin with a space.
use Rattle.std.proofs.Common.{◌≡◌, ℕ, ◌+◌, ◌-◌, ◌%◌, ◌≤◌, ◌<◌, ◌==◌, ◌^◌, not, true, false, List, [], ◌∷◌, ◌++◌, length, get_or, codes, decimal, refl, sym, ap, ◌∙◌, arith, length-append, append_assoc, lit≤}
use Rattle.std.specs.List.{list_all}
use Rattle.std.specs.Cmp.Derive.{both_true}
use Rattle.std.proofs.lemmas.Bool.Decides.{nat_tests}
use Rattle.std.proofs.lemmas.Fmt.{decimal_by_steps, length-decimal-le}
use Rattle.std.proofs.lemmas.List.{get_or_append_left}
use Rattle.std.proofs.lemmas.List.Folds.{list_all-append}
use Rattle.std.proofs.Math.Seq.{get_or-append_seam}
use Rattle.atl_world.specs.Names.{name_ok, is_name_byte, has_allowed_length, has_no_edge_space}
use Rattle.atl_records.specs.Limits.{last_unit}

digit_ok : (d : ℕ) → 48 ≤ d → d ≤ 57 → is_name_byte d ≡ true
digit_ok d h k = grind (arith, nat_tests)

-- bytes that may all be in a name, the last of which is a decimal digit
record EndsInDigit (ds : List ℕ) : Type 0 where
  front : List ℕ
  last : ℕ
  is : ds ≡ front ++ last ∷ []
  digits : list_all is_name_byte front ≡ true
  least : 48 ≤ last
  most : last ≤ 57

all_name_bytes : (ds : List ℕ) → EndsInDigit ds → list_all is_name_byte ds ≡ true
all_name_bytes ds e =
    ap (list_all is_name_byte) e.is ∙ list_all-append is_name_byte e.front (e.last ∷ [])
    ∙ both_true e.digits (both_true (digit_ok e.last e.least e.most) refl)

decimal_ends : (n : ℕ) → n < 2 ^ 64 → EndsInDigit (decimal n)
decimal_ends n h = decimal_by_steps (λ _ ds. EndsInDigit ds) one more n h
  where
    one : (n : ℕ) → n < 10 → EndsInDigit ((48 + n) ∷ [])
    one n h = record { front = []; last = 48 + n; is = refl; digits = refl; least = omega arith; most = omega arith }

    more : (n : ℕ) (ds : List ℕ) → 10 ≤ n → EndsInDigit ds → EndsInDigit (ds ++ (48 + n % 10) ∷ [])
    more n ds h e =
        record { front = ds; last = 48 + n % 10; is = refl; digits = all_name_bytes ds e; least = omega arith; most = omega arith }

length_is_short : (bs : List ℕ) → 1 ≤ length bs → length bs ≤ 40 → has_allowed_length bs ≡ true
length_is_short bs h k = grind (arith, nat_tests)

-- a word that can be the front of a name: 1 to 20 bytes that may be in names, the first of which is not a space
pub record IsNamePrefix (word : List ℕ) : Type 0 where
  pub bytes : list_all is_name_byte word ≡ true
  pub begins : (get_or word 0 0 == 32) ≡ false
  pub some : 1 ≤ length word
  pub few : length word ≤ 20

module _ (word : List ℕ) (front : IsNamePrefix word) where
  open_ends : (digits : List ℕ) (last : ℕ) → 48 ≤ last → has_no_edge_space (word ++ (digits ++ last ∷ [])) ≡ true
  open_ends digits last h =
      let bs = word ++ (digits ++ last ∷ []) in
      let place : length bs - 1 ≡ length (word ++ digits) = omega (arith, length-append word (digits ++ last ∷ []), length-append word digits, length-append digits (last ∷ [])) in
      let other : (last == 32) ≡ false = grind (arith, nat_tests) in
      let first : (get_or bs 0 0 == 32) ≡ false = ap (λ b. b == 32) (get_or_append_left word (digits ++ last ∷ []) 0 0 (omega (arith, front.some))) ∙ front.begins in
      let whole : (word ++ digits) ++ last ∷ [] ≡ bs = append_assoc word digits (last ∷ []) in
      let end : get_or bs (length (word ++ digits)) 0 ≡ last = ap (λ l. get_or l (length (word ++ digits)) 0) (sym whole) ∙ get_or-append_seam (word ++ digits) last [] 0 in
      both_true (ap not first) (ap (λ i. not (get_or bs i 0 == 32)) place ∙ ap (λ b. not (b == 32)) end ∙ ap not other)

  -- the word with a number up to last_unit after it keeps the rule of names
  pub numbered_name_ok : (n : ℕ) → n ≤ last_unit → name_ok (word ++ decimal n) ≡ true
  numbered_name_ok n h =
      let e = decimal_ends n (omega arith) in
      let few : length (decimal n) ≤ 20 = length-decimal-le 20 n (omega arith) (omega arith) (omega arith) in
      let size = length-append word (decimal n) in
      both_true (both_true (length_is_short (word ++ decimal n) (omega (arith, size, front.some)) (omega (arith, size, few, front.few))) (ap (λ ds. has_no_edge_space (word ++ ds)) e.is ∙ open_ends e.front e.last e.least))
      (list_all-append is_name_byte word (decimal n) ∙ both_true front.bytes (all_name_bytes (decimal n) e))

pub unit_name_ok : (n : ℕ) → n ≤ last_unit → name_ok (codes "Unit " ++ decimal n) ≡ true
unit_name_ok n h =
    numbered_name_ok (codes "Unit ") (record { bytes = refl; begins = refl; some = lit≤ tt; few = lit≤ tt }) n h
