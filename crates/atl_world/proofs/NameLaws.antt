-- Names and pass texts (passwords) are ASCII, and so they are UTF-8. A word in quotes is the name that it means.
use Rattle.std.proofs.Common.{◌≡◌, ℕ, zero, suc, ◌<◌, Bool, true, List, [], ◌∷◌, get_or, refl, ap, arith}
use Rattle.std.proofs.lemmas.Bool.{and_parts}
use Rattle.std.proofs.lemmas.Bool.Decides.{nat_tests}
use Rattle.std.proofs.lemmas.Str.{IsUtf8-from_ascii}
use Rattle.std.specs.List.{list_all}
use Rattle.std.specs.Str.{IsUtf8}
use Rattle.atl_world.specs.Lookup.{name_of}
use Rattle.atl_world.specs.Names.{is_name_byte, is_pass_byte, name_ok, pass_ok}

name_byte_is_ascii : (b : ℕ) → is_name_byte b ≡ true → b < 128
name_byte_is_ascii b h = grind (arith, nat_tests)

pass_byte_is_ascii : (b : ℕ) → is_pass_byte b ≡ true → b < 128
pass_byte_is_ascii b h = grind (arith, nat_tests)

all_bytes_are_ascii : (p : ℕ → Bool) → ((b : ℕ) → p b ≡ true → b < 128) → (bs : List ℕ) → list_all p bs ≡ true → (i : ℕ)
    → get_or bs i 0 < 128
all_bytes_are_ascii p small [] h i = omega arith
all_bytes_are_ascii p small (b ∷ bs) h zero = small b (and_parts _ _ h).0
all_bytes_are_ascii p small (b ∷ bs) h (suc i) = all_bytes_are_ascii p small bs (and_parts _ _ h).1 i

pub name_ok-IsUtf8 : (bs : List ℕ) → name_ok bs ≡ true → IsUtf8 bs
name_ok-IsUtf8 bs h = IsUtf8-from_ascii bs (all_bytes_are_ascii is_name_byte name_byte_is_ascii bs (and_parts _ _ h).1)

pub pass_ok-IsUtf8 : (bs : List ℕ) → pass_ok bs ≡ true → IsUtf8 bs
pass_ok-IsUtf8 bs h = IsUtf8-from_ascii bs (all_bytes_are_ascii is_pass_byte pass_byte_is_ascii bs (and_parts _ _ h).1)

pub quoted_names_itself : (word : List ℕ) → name_of word true ≡ word
quoted_names_itself [] = refl
quoted_names_itself (b ∷ bs) = ap (λ l. b ∷ l) (quoted_names_itself bs)
