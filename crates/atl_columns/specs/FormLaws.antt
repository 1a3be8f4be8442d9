-- For proofs alone: each form writes what it read, and reads exactly the values of its form. The laws of `Form` cite
-- these lemmas.
-- A name that ends in `same`: a value v that was read as a field is the value as which the field is written. One in
-- `typed`: a value that was read is of the form. One in `other`: a value that wasn't read isn't of the form.
use Rattle.std.proofs.Common.{◌≡◌, ℕ, ℤ, List, Bool, true, false, Option, Some, None, refl, sym, ap}
use Rattle.std.specs.Str.{is_utf8}
use Rattle.std.proofs.lemmas.Str.{is_utf8-from_IsUtf8, IsUtf8-from_is_utf8}
use Rattle.sqlite_value.specs.declared.value.Value.{Value}
use Rattle.sqlite_value.specs.declared.value.Value.TheVariants.{Null, Int, Real, Text, Blob}
use Rattle.atl_columns.specs.Forms.{HasForm, Number, Utf8Text, TextBytes, Bytes, number_of, text_of, utf8_text_of, keep_if, if_utf8, bytes_of}

pub number_same : (v : Value) (n : ℤ) → number_of v ≡ Some n → Int n ≡ v
number_same Null n is = cc
number_same (Int m) n is = cc
number_same (Real x) n is = cc
number_same (Text t) n is = cc
number_same (Blob b) n is = cc

pub number_other : (v : Value) → number_of v ≡ None → ¬ HasForm Number v
number_other v is has = let e : number_of v ≡ Some has.0 = ap number_of has.1 in cc

pub text_same : (v : Value) (t : List ℕ) → text_of v ≡ Some t → Text t ≡ v
text_same Null t is = cc
text_same (Int n) t is = cc
text_same (Real x) t is = cc
text_same (Text s) t is = cc
text_same (Blob b) t is = cc

pub text_other : (v : Value) → text_of v ≡ None → ¬ HasForm TextBytes v
text_other v is has = let e : text_of v ≡ Some has.0 = ap text_of has.1 in cc

kept_by : (b : Bool) (s t : List ℕ) → keep_if b s ≡ Some t → (b ≡ true) × (s ≡ t)
kept_by true s t is = (refl, cc)
kept_by false s t is = absurd (let e : ◌≡◌ {A = Option (List ℕ)} None (Some t) = is in cc)

kept : (s t : List ℕ) → if_utf8 s ≡ Some t → (is_utf8 s ≡ true) × (s ≡ t)
kept s t is = kept_by (is_utf8 s) s t is

pub utf8_text_same : (v : Value) (t : List ℕ) → utf8_text_of v ≡ Some t → Text t ≡ v
utf8_text_same Null t is = cc
utf8_text_same (Int n) t is = cc
utf8_text_same (Real x) t is = cc
utf8_text_same (Text s) t is = ap Text (sym (kept s t is).1)
utf8_text_same (Blob b) t is = cc

pub utf8_text_typed : (v : Value) (t : List ℕ) → utf8_text_of v ≡ Some t → HasForm Utf8Text v
utf8_text_typed Null t is = absurd (let e : ◌≡◌ {A = Option (List ℕ)} None (Some t) = is in cc)
utf8_text_typed (Int n) t is = absurd (let e : ◌≡◌ {A = Option (List ℕ)} None (Some t) = is in cc)
utf8_text_typed (Real x) t is = absurd (let e : ◌≡◌ {A = Option (List ℕ)} None (Some t) = is in cc)
utf8_text_typed (Text s) t is = (s, refl, IsUtf8-from_is_utf8 s (kept s t is).0)
utf8_text_typed (Blob b) t is = absurd (let e : ◌≡◌ {A = Option (List ℕ)} None (Some t) = is in cc)

pub utf8_text_other : (v : Value) → utf8_text_of v ≡ None → ¬ HasForm Utf8Text v
utf8_text_other v is has =
    let there : utf8_text_of v ≡ if_utf8 has.0 = ap utf8_text_of has.1 in
    let whole : if_utf8 has.0 ≡ Some has.0 = ap (λ b. keep_if b has.0) (is_utf8-from_IsUtf8 has.0 has.2) in
    cc

pub bytes_same : (v : Value) (b : List ℕ) → bytes_of v ≡ Some b → Blob b ≡ v
bytes_same Null b is = cc
bytes_same (Int n) b is = cc
bytes_same (Real x) b is = cc
bytes_same (Text t) b is = cc
bytes_same (Blob a) b is = cc

pub bytes_other : (v : Value) → bytes_of v ≡ None → ¬ HasForm Bytes v
bytes_other v is has = let e : bytes_of v ≡ Some has.0 = ap bytes_of has.1 in cc
