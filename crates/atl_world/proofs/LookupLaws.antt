-- Laws of the test whether a word means a name: each byte of the name is compared with the one that the word's byte
-- means (`letter_of`), ignoring ASCII case. In a word without quotes (the flag `quoted` is false) `_` means a space.
-- `name` and `word` are the bytes of both, and i is an index of a byte in both, or in `end_of_both` past both ends.
use Rattle.std.proofs.Common.{◌≡◌, ◌≢◌, ℕ, suc, ◌+◌, ◌<◌, ◌≤◌, Bool, true, false, ◌&&◌, eqb, List, [], ◌∷◌, length, get_or, drop, map, refl, sym, ap, ◌∙◌}
use Rattle.std.specs.Str.{str_eq_ignore_ascii_case}
use Rattle.std.specs.Char.{to_ascii_lowercase, eq_ignore_ascii_case}
use Rattle.std.proofs.lemmas.List.{drop_more, drop_all}
use Rattle.std.proofs.lemmas.Bool.{and_right}
use Rattle.atl_world.specs.Lookup.{letter_of}

-- whether a name and the name that a word means are equal from index i on, ignoring ASCII case
abbrev pub same_from : List ℕ → Bool → List ℕ → ℕ → Bool
same_from name quoted word i = str_eq_ignore_ascii_case (drop i name) (map (letter_of quoted) (drop i word))

pub other_length : (name : List ℕ) (quoted : Bool) (word : List ℕ) → length name ≢ length word
    → str_eq_ignore_ascii_case name (map (letter_of quoted) word) ≡ false
other_length [] quoted [] h = absurd (h refl)
other_length [] quoted (b ∷ ys) h = refl
other_length (a ∷ xs) quoted [] h = refl
other_length (a ∷ xs) quoted (b ∷ ys) h =
    ap (λ t. eqb (to_ascii_lowercase a) (to_ascii_lowercase (letter_of quoted b)) && t) (other_length xs quoted ys (λ e. h (ap suc e)))
    ∙ and_right (eqb (to_ascii_lowercase a) (to_ascii_lowercase (letter_of quoted b))) false refl

same_from_next : (name : List ℕ) (quoted : Bool) (word : List ℕ) (i : ℕ) → i < length name → i < length word
    → same_from name quoted word i
    ≡ (eq_ignore_ascii_case (get_or name i 0) (letter_of quoted (get_or word i 0)) && same_from name quoted word (i + 1))
same_from_next name quoted word i h k = rw (drop_more name i 0 h, drop_more word i 0 k) refl

-- where both bytes at i are equal, so compared, all from i on are equal exactly if all from i + 1 on are
pub same_letter : (name : List ℕ) (quoted : Bool) (word : List ℕ) (i : ℕ) → i < length name → i < length word
    → eq_ignore_ascii_case (get_or name i 0) (letter_of quoted (get_or word i 0)) ≡ true
    → same_from name quoted word (i + 1) ≡ same_from name quoted word i
same_letter name quoted word i h k e =
    sym (same_from_next name quoted word i h k ∙ ap (λ t. t && same_from name quoted word (i + 1)) e)

-- where both bytes at i are not equal, so compared, not all from i on are
pub other_letter : (name : List ℕ) (quoted : Bool) (word : List ℕ) (i : ℕ) → i < length name → i < length word
    → eq_ignore_ascii_case (get_or name i 0) (letter_of quoted (get_or word i 0)) ≡ false
    → same_from name quoted word i ≡ false
other_letter name quoted word i h k e =
    same_from_next name quoted word i h k ∙ ap (λ t. t && same_from name quoted word (i + 1)) e

pub end_of_both : (name : List ℕ) (quoted : Bool) (word : List ℕ) (i : ℕ) → length name ≤ i → length word ≤ i
    → same_from name quoted word i ≡ true
end_of_both name quoted word i h k = rw (drop_all i name h, drop_all i word k) refl
