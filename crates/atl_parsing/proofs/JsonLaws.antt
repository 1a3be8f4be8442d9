-- Laws on the body of a join: it is read as JSON if it is UTF-8, and has no value otherwise.
use Rattle.std.proofs.Common.{◌≡◌, ℕ, Bool, true, false, cond, List, None, refl, ap}
use Rattle.std.specs.Str.{is_utf8, IsUtf8}
use Rattle.std.proofs.lemmas.Str.{is_utf8-from_IsUtf8, IsUtf8-from_is_utf8}
use Rattle.serde_json.specs.Read.{read}
use Rattle.atl_parsing.specs.Checks.{json_of}

-- the value of a body that is UTF-8 is what reading it as JSON gives, None if it isn't JSON
pub json_read : (body : List ℕ) → IsUtf8 body → json_of body ≡ read body
json_read body h = ap (λ t. cond t (read body) None) (is_utf8-from_IsUtf8 body h)

no_value_without_utf8 : (t : Bool) (body : List ℕ) → is_utf8 body ≡ t → (IsUtf8 body → ⊥)
    → cond t (read body) None ≡ None
no_value_without_utf8 true body e h = absurd (h (IsUtf8-from_is_utf8 body e))
no_value_without_utf8 false body e h = refl

-- a body that isn't UTF-8 has no value in JSON (None)
pub json_none : (body : List ℕ) → (IsUtf8 body → ⊥) → json_of body ≡ None
json_none body h = no_value_without_utf8 (is_utf8 body) body refl h
