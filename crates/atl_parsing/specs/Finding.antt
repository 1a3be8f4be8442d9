-- For proofs alone: the values found under a field's name, and when results of the code agree with those of the
-- definitions. A span says where a word, a name or a value begins and ends in the received bytes, `bytes` or `front`.
-- A verdict is Refused with a problem, Asks with a request, or More while bytes are missing.
use Rattle.std.specs.Prelude.{◌≡◌, ◌<◌, ℕ, List, [], ◌∷◌, ◌++◌, length, map, Result, Ok, Err, ⊤}
use Rattle.httparse.specs.declared.spans.Span.{Span}
use Rattle.httparse.specs.declared.spans.HeaderSpan.{HeaderSpan}
use Rattle.httparse.specs.Spans.{span_bytes, header_bytes, IsWithin, IsRequestWithin, IsRequestOf}
use Rattle.httparse.specs.Grammar.{HasNoRequest, MayBecomeRequest}
use Rattle.atl_parsing.specs.declared.parsing.HeadParse.{HeadParse}
use Rattle.atl_parsing.specs.declared.parsing.HeadParse.TheVariants.{Whole, Partial, Refused}
use Rattle.atl_parsing.specs.Checks.{verdict_with_body}
use Rattle.atl_parsing.specs.Heads.{IsRefused, as_verdict}
use Rattle.atl_parsing.specs.declared.route.Route.{Route}
use Rattle.atl_parsing.specs.declared.request.Progress.{Progress}
use Rattle.atl_parsing.specs.declared.request.Progress.TheVariants.{Missing, Ends}
use Rattle.atl_parsing.specs.declared.request.Verdict.TheVariants.{More}
use Rattle.atl_parsing.specs.declared.fields.FieldLookup.{FieldLookup}
use Rattle.atl_parsing.specs.declared.fields.FieldLookup.TheVariants.{Nowhere, Once, Several}
use Rattle.atl_parsing.specs.declared.problem.Problem.{Problem}
use Rattle.atl_parsing.specs.declared.problem.CheckError.{CheckError}
use Rattle.atl_parsing.specs.declared.problem.CheckError.TheVariants.{Memory, Failed}
use Rattle.atl_parsing.specs.Fields.{Pair}

-- The lookup found these values: none; one, which is the bytes of a span that lies within `bytes`; or several.
abbrev pub HasValues : List ℕ → FieldLookup → List (List ℕ) → Type 0
HasValues bytes Nowhere values = values ≡ []
HasValues bytes (Once span) values = (values ≡ span_bytes bytes span ∷ []) × IsWithin (length bytes) span
HasValues bytes Several values =
    (first : List ℕ) × (second : List ℕ) × (others : List (List ℕ)) × (values ≡ first ∷ second ∷ others)

-- the lookup after one more value was found: one after none, several after one or several
abbrev pub add_value : FieldLookup → Span → FieldLookup
add_value Nowhere value = Once value
add_value (Once other) value = Several
add_value Several value = Several

-- the names and values of fields that are given as spans of the received bytes
abbrev pub field_pairs : List ℕ → List HeaderSpan → List Pair
field_pairs bytes fields = map (header_bytes bytes) fields

-- The code's error is the problem that the definition gives (`read`), unless memory ran out.
abbrev pub FailsAsDefined : {Y : Type 0} → CheckError → Result Y Problem → Type 0
FailsAsDefined Memory read = ⊤
FailsAsDefined (Failed problem) read = read ≡ Err problem

-- The code's result, its value mapped by `view`, is what the definition gives (`read`), unless memory ran out. If it
-- ran out, nothing is said of `read`.
abbrev pub GivesAsDefined : {X Y : Type 0} → (X → Y) → Result X CheckError → Result Y Problem → Type 0
GivesAsDefined view (Ok x) read = read ≡ Ok (view x)
GivesAsDefined view (Err e) read = FailsAsDefined e read

-- The progress is what a head's checks (`head_checks`) and the bytes `rest` after the head say: the verdict, or a count
-- above 0 of missing bytes. As long as fewer bytes than this follow, the verdict stays More.
abbrev pub EndsAs : Result (Route × ℕ × List ℕ) Problem → (rest : List ℕ) → Progress → Type 0
EndsAs checks rest (Missing count) =
    (0 < count) × ((more : List ℕ) → length more < count → verdict_with_body checks (rest ++ more) ≡ More)
EndsAs checks rest (Ends outcome) = as_verdict outcome ≡ verdict_with_body checks rest

-- The result of parsing `front` as a head is right. Whole: it begins with a whole head, whose method and target are at
-- `spans`, and whose fields are at the first of `fields`. Partial: it begins with none, but further bytes may make it
-- one, or it ends inside a target (`MayBecomeRequest`). Refused: no head of at most 32 fields can come of it.
abbrev pub ParsesHead : List ℕ → List HeaderSpan → HeadParse → Type 0
ParsesHead front fields (Whole spans) = IsRequestWithin front fields spans × IsRequestOf front fields spans
ParsesHead front fields Partial = HasNoRequest front × MayBecomeRequest front
ParsesHead front fields Refused = IsRefused front
