-- Laws on heads: the result of parsing the first 8,192 bytes decides the verdict (`Judges`): Refused with a problem,
-- Asks with a request, or More while bytes are missing. A progress is one of the first two, or how many are missing.
-- `input` are the bytes received so far, `front` the first 8,192 of them or all if they are fewer, `more` bytes that
-- follow, and `rest` the bytes after the head. `spans` says where method and target of the head are in `front`, and
-- `headers` where names and values of its fields are. `checks` is the result of the first four checks (`head_checks`).
use Rattle.std.proofs.Common.{◌≡◌, ℕ, ◌≤◌, ◌<◌, List, [], ◌∷◌, ◌++◌, length, take, drop, min, sym, ap, ◌∙◌, subst, inl, inr, refl, arith}
use Rattle.std.specs.Prelude.{Result, Ok, Err, IfOk}
use Rattle.std.proofs.lemmas.List.{append_assoc, append-nil, take-append-drop, drop-append-le, length-take, length-map, take_min}
use Rattle.std.proofs.Math.Seq.{take-length}
use Rattle.httparse.specs.Grammar.{RequestHead, print_request, ReadsRequest, HasNoRequest, MayBecomeRequest}
use Rattle.httparse.specs.Spans.{RequestExceeds, RequestOverflows, IsRequestAt, IsRequestOf, IsRequestWithin, span_bytes, header_bytes, name_and_value}
use Rattle.httparse.specs.declared.spans.HeaderSpan.{HeaderSpan}
use Rattle.httparse.specs.declared.spans.RequestSpans.{RequestSpans}
use Rattle.httparse.proofs.GrammarLemmas.{ReadsRequest-append}
use Rattle.atl_parsing.specs.declared.problem.Problem.TheVariants.{BadRequest}
use Rattle.atl_parsing.specs.declared.problem.Problem.{Problem}
use Rattle.atl_parsing.specs.declared.route.Route.{Route}
use Rattle.atl_parsing.specs.declared.request.Progress.{Progress}
use Rattle.atl_parsing.specs.declared.request.Progress.TheVariants.{Missing, Ends}
use Rattle.atl_parsing.specs.declared.request.Verdict.TheVariants.{More, Refused}
use Rattle.atl_parsing.specs.Checks.{head_checks, verdict_with_body, verdict_of}
use Rattle.atl_parsing.specs.Finding.{field_pairs, EndsAs}
use Rattle.atl_parsing.specs.Heads.{most_head, most_fields, HasHead, IsRefused, IsUnfinished, Judges, whole, refused, unfinished, ComesTo, verdict_by}

front_and_rest : (input : List ℕ) → take most_head input ++ drop most_head input ≡ input
front_and_rest input = take-append-drop most_head input

front_short : (input : List ℕ) → length (take most_head input) ≤ most_head
front_short input = let e = length-take most_head input in omega (arith, e)

-- the first 8,192 bytes of an input are no longer than the input
pub front_within : (input : List ℕ) → length (take most_head input) ≤ length input
front_within input = let e = length-take most_head input in omega (arith, e)

-- ---- a whole head

-- a head at these spans has at most 32 fields, since there is no room for more spans of fields
few_fields : (front : List ℕ) (headers : List HeaderSpan) (spans : RequestSpans) (head : RequestHead)
    → IsRequestAt front headers spans head → length headers ≡ most_fields → length head.fields ≤ most_fields
few_fields front headers spans head at room =
    let same = ap length at.fields in
    let taken = length-map (take spans.headers headers) (header_bytes front) in
    let named = length-map head.fields name_and_value in
    let count = length-take spans.headers headers in
    omega (arith, same, taken, named, count, room)

-- If the first 8,192 bytes begin with a head at these spans, with room for 32 fields, the input begins with this head,
-- within the limits (`HasHead`). The rest is what follows the head.
pub whole_head : (input : List ℕ) (headers : List HeaderSpan) (spans : RequestSpans) (head : RequestHead)
    → IsRequestWithin (take most_head input) headers spans → IsRequestAt (take most_head input) headers spans head
    → length headers ≡ most_fields → HasHead input head (drop spans.len input)
whole_head input headers spans head lies at room =
    let front = take most_head input in
    let long = ReadsRequest-append front head (drop spans.len front) (drop most_head input) at.reads in
    let rest : drop spans.len front ++ drop most_head input ≡ drop spans.len input =
    sym (drop-append-le spans.len front (drop most_head input) lies.section.len_fits) ∙ ap (λ l. drop spans.len l) (front_and_rest input) in
    record {
      reads = (long.0, sym (front_and_rest input) ∙ long.1 ∙ ap (λ l. print_request head ++ l) rest);
      bytes = (let e = at.len in let s = front_short input in let w = lies.section.len_fits in omega (arith, e, s, w));
      fields = few_fields front headers spans head at room;
    }

-- an input with a whole head has the same head with more bytes after it, which are added to the rest
pub head_stays : (input more : List ℕ) (head : RequestHead) (rest : List ℕ) → HasHead input head rest
    → HasHead (input ++ more) head (rest ++ more)
head_stays input more head rest h =
    record { reads = ReadsRequest-append input head rest more h.reads; bytes = h.bytes; fields = h.fields }

-- the verdict by the checks of what is at the spans, and by the bytes after the head, is the verdict on the head
verdict_is : (input : List ℕ) (headers : List HeaderSpan) (spans : RequestSpans) (head : RequestHead) (rest : List ℕ)
    → IsRequestAt (take most_head input) headers spans head
    → verdict_with_body (head_checks spans.version (span_bytes (take most_head input) spans.method) (span_bytes (take most_head input) spans.path) (field_pairs (take most_head input) (take spans.headers headers))) rest
    ≡ verdict_of head rest
verdict_is input headers spans head rest at = rw (at.version, at.method, at.path, at.fields) refl

-- ---- a refused head

-- an input whose front has more than 32 fields (`RequestExceeds`) stays so with more bytes after it
exceeds_stays : (input more : List ℕ) → RequestExceeds most_fields input → RequestExceeds most_fields (input ++ more)
exceeds_stays input more (front, rest, e, head, reads, over) =
    (front, rest ++ more, ap (λ l. l ++ more) e ∙ append_assoc front rest more, head, reads, over)

-- if each head that the input may begin with, whatever bytes follow, has more than 32 fields, the same is true of the
-- input with more bytes after it (`RequestOverflows`)
overflows_stays : (input more : List ℕ) → RequestOverflows most_fields input
    → RequestOverflows most_fields (input ++ more)
overflows_stays input more over again head rest reads =
    over (more ++ again) head rest (subst (λ l. ReadsRequest l head rest) (append_assoc input more again) reads)

-- an input that is refused, whatever bytes follow (`IsRefused`), stays so with more bytes after it
pub refused_stays : (input more : List ℕ) → IsRefused input → IsRefused (input ++ more)
refused_stays input more (inl never) =
    inl (λ again. subst HasNoRequest (sym (append_assoc input more again)) (never (more ++ again)))
refused_stays input more (inr (exceeds, over)) = inr (exceeds_stays input more exceeds, overflows_stays input more over)

-- if the first 8,192 bytes of an input are refused (`IsRefused`), so is the input
pub front_refused : (input : List ℕ) → IsRefused (take most_head input) → IsRefused input
front_refused input h =
    subst IsRefused (front_and_rest input) (refused_stays (take most_head input) (drop most_head input) h)

-- an input below 8,192 bytes is unfinished (`IsUnfinished`), if its front, which then is all of it, has no whole head,
-- and may become one or ends inside the target
pub short_front : (input : List ℕ) → length input < most_head → HasNoRequest (take most_head input)
    → MayBecomeRequest (take most_head input) → IsUnfinished input
short_front input h none goes_on =
    let least : min most_head (length input) ≡ length input = omega arith in
    let e : take most_head input ≡ input = sym (take_min most_head input) ∙ ap (λ k. take k input) least ∙ take-length input in
    record { short = h; none = subst HasNoRequest e none; open_end = subst MayBecomeRequest e goes_on }

-- ---- from the parser's result to the progress

-- The input begins with a whole head, and `rest` follows. Whatever bytes come after this head, the verdict by `checks`
-- is the verdict on it.
abbrev LeadsToVerdict : (input rest : List ℕ) → Result (Route × ℕ × List ℕ) Problem → Type 0
LeadsToVerdict input rest checks =
    (head : RequestHead) × HasHead input head rest ×
    ((after : List ℕ) → verdict_with_body checks after ≡ verdict_of head after)

-- If the parser found a head in the front, with room for 32 fields, the input begins with a whole head, and `rest`
-- follows (`LeadsToVerdict`). Whatever bytes come after this head, its verdict is the one by the checks of `method`,
-- `target` and `fields`. These are the bytes at its spans, and where its fields are.
pub finds_head : (input front method target rest : List ℕ) (headers fields : List HeaderSpan) (spans : RequestSpans)
    → front ≡ take most_head input → IsRequestWithin front headers spans × IsRequestOf front headers spans
    → length headers ≡ most_fields → method ≡ span_bytes front spans.method → target ≡ span_bytes front spans.path
    → fields ≡ take spans.headers headers → rest ≡ drop spans.len input
    → LeadsToVerdict input rest (head_checks spans.version method target (field_pairs front fields))
finds_head input front method target rest headers fields spans e (lies, (head, at)) room method_is target_is fields_are rest_is =
    let at_front : IsRequestAt (take most_head input) headers spans head = subst (λ l. IsRequestAt l headers spans head) e at in
    let lies_front : IsRequestWithin (take most_head input) headers spans = subst (λ l. IsRequestWithin l headers spans) e lies in
    let checked : head_checks spans.version method target (field_pairs front fields) ≡ head_checks spans.version (span_bytes (take most_head input) spans.method) (span_bytes (take most_head input) spans.path) (field_pairs (take most_head input) (take spans.headers headers)) =
    ap (λ m. head_checks spans.version m target (field_pairs front fields)) method_is
    ∙ ap (λ t. head_checks spans.version (span_bytes front spans.method) t (field_pairs front fields)) target_is
    ∙ ap (λ fs. head_checks spans.version (span_bytes front spans.method) (span_bytes front spans.path) (field_pairs front fs)) fields_are
    ∙ ap (λ l. head_checks spans.version (span_bytes l spans.method) (span_bytes l spans.path) (field_pairs l (take spans.headers headers))) e in
    (head, subst (λ l. HasHead input head l) (sym rest_is) (whole_head input headers spans head lies_front at_front room), λ after. ap (λ c. verdict_with_body c after) checked ∙ verdict_is input headers spans head after at_front)

-- An input has a whole head with `rest` after it, and `checks` give the verdict on this head (`LeadsToVerdict`). Then a
-- progress that is right by `checks` and `rest` (`EndsAs`) is right for the input (`ComesTo`).
pub comes_whole : (input rest : List ℕ) (checks : Result (Route × ℕ × List ℕ) Problem) (progress : Progress)
    → LeadsToVerdict input rest checks → EndsAs checks rest progress → ComesTo input progress
comes_whole input rest checks (Ends outcome) (head, has, same) e = whole head rest has (e ∙ same rest)
comes_whole input rest checks (Missing count) (head, has, same) (some, short) =
    (some, λ more few. whole head (rest ++ more) (head_stays input more head rest has) (sym (short more few) ∙ same (rest ++ more)))

-- Refused with BadRequest is right for an input, if no head of at most 32 fields can come of its first 8,192 bytes
pub judges_refused : (input front : List ℕ) → front ≡ take most_head input → IsRefused front
    → Judges input (Refused BadRequest)
judges_refused input front e h = refused (front_refused input (subst IsRefused e h)) refl

-- the verdict More on an input below 8,192 bytes is right, if it is unfinished as in `short_front`
judges_more : (input front : List ℕ) → front ≡ take most_head input → length input < most_head
    → HasNoRequest front × MayBecomeRequest front → Judges input More
judges_more input front e h (none, goes_on) =
    unfinished (short_front input h (subst HasNoRequest e none) (subst MayBecomeRequest e goes_on)) refl

-- an input with the verdict More lacks at least one byte: with fewer than one byte more it is the same input
short_by_one : (input : List ℕ) → Judges input More → (more : List ℕ) → length more < 1 → Judges (input ++ more) More
short_by_one input h [] few = subst (λ l. Judges l More) (sym (append-nil input)) h
short_by_one input h (x ∷ more) few = absurd (omega (arith, few))

-- an input below 8,192 bytes lacks at least one byte (`ComesTo`), if it has no whole head, and may become one or ends
-- inside the target
pub missing_one : (input front : List ℕ) → front ≡ take most_head input → length input < most_head
    → HasNoRequest front × MayBecomeRequest front → ComesTo input (Missing 1)
missing_one input front e h unfinished_front =
    (omega arith, short_by_one input (judges_more input front e h unfinished_front))

-- if Q follows from P for each value, and the value of an Ok has P, it has Q
pub if_ok : {T E : Type 0} {P Q : T → Type 0} (r : Result T E) → ((x : T) → P x → Q x) → IfOk r P → IfOk r Q
if_ok (Ok x) f h = f x h
if_ok (Err e) f h = tt

-- if a progress is that on an input (`ComesTo`), the verdict of the progress is the verdict on the input (`Judges`)
pub judges_by : (input : List ℕ) (progress : Progress) → ComesTo input progress → Judges input (verdict_by progress)
judges_by input (Ends outcome) h = h
judges_by input (Missing count) (some, short) = subst (λ l. Judges l More) (append-nil input) (short [] some)
