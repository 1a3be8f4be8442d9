-- Laws on `if_utf8`: of bytes `bs` that are UTF-8 it gives Some of them, which are also the text `t` made of them; of
-- other bytes it gives None.
use Rattle.std.proofs.Common.{◌≡◌, ℕ, List, Bool, true, false, Some, None, refl, sym, ap, ◌∙◌}
use Rattle.std.specs.Str.{IsUtf8, is_utf8}
use Rattle.std.proofs.lemmas.Str.{is_utf8-from_IsUtf8, IsUtf8-from_is_utf8}
use Rattle.atl_columns.specs.Forms.{keep_if, if_utf8}

tests_false : (bs : List ℕ) → ¬ (IsUtf8 bs) → is_utf8 bs ≡ false
tests_false bs broken = by_value (is_utf8 bs) refl
  where
    by_value : (b : Bool) → is_utf8 bs ≡ b → b ≡ false
    by_value true says = absurd (broken (IsUtf8-from_is_utf8 bs says))
    by_value false says = refl

pub keeps_utf8 : (bs t : List ℕ) → IsUtf8 bs → t ≡ bs → Some t ≡ if_utf8 bs
keeps_utf8 bs t is same = ap Some same ∙ ap (λ b. keep_if b bs) (sym (is_utf8-from_IsUtf8 bs is))

pub keeps_no_other : (bs : List ℕ) → ¬ (IsUtf8 bs) → None ≡ if_utf8 bs
keeps_no_other bs broken = ap (λ b. keep_if b bs) (sym (tests_false bs broken))
