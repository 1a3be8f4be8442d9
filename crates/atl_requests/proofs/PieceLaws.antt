-- Laws on pieces: bytes after a final verdict change nothing, and no input has two final verdicts. A verdict is final
-- if the request is whole or refused. `input` are the bytes received so far, and `more` those that follow; `head` is a
-- whole head, and `rest` the bytes after it. `v` and `w` are verdicts.
use Rattle.std.proofs.Common.{◌≡◌, ℕ, ◌≤◌, ◌+◌, ◌-◌, Bool, true, false, cond, List, [], ◌++◌, length, take, nat_lt, refl, sym, ap, ◌∙◌, subst, inl, inr, arith}
use Rattle.std.specs.Prelude.{Result, Ok, Err}
use Rattle.std.proofs.lemmas.List.{append-nil, take-append-le, length-append}
use Rattle.std.proofs.Math.Seq.{take-append-add}
use Rattle.std.proofs.lemmas.Bool.Decides.{nat_tests}
use Rattle.httparse.specs.Grammar.{RequestHead, print_request, ReadsRequest, HasNoRequest}
use Rattle.httparse.proofs.GrammarLemmas.{request_unique}
use Rattle.atl_parsing.specs.declared.problem.Problem.{Problem}
use Rattle.atl_parsing.specs.declared.route.Route.{Route}
use Rattle.atl_parsing.specs.declared.request.Verdict.{Verdict}
use Rattle.atl_parsing.specs.declared.request.Verdict.TheVariants.{More}
use Rattle.atl_parsing.specs.Checks.{verdict_with_body, verdict_on_request, request_of, verdict_of, head_checks}
use Rattle.atl_parsing.specs.Fields.{fields_of}
use Rattle.atl_parsing.specs.Heads.{most_head, HasHead, IsRefused, IsTooLong, Judges, whole, too_long, refused, unfinished, IsFinal}
use Rattle.atl_parsing.proofs.HeadLaws.{head_stays, refused_stays}

-- ---- more bytes

-- A final verdict on a head with its body stays the same when more bytes follow. A body that is short has the verdict
-- More, which isn't final, so the body is whole.
verdict_with_body_stays : (short : Bool) (route : Route) (size : ℕ) (pass rest more : List ℕ)
    → nat_lt (length rest) size ≡ short
    → IsFinal (cond short More (verdict_on_request (request_of route pass (take size rest))))
    → cond (nat_lt (length (rest ++ more)) size) More (verdict_on_request (request_of route pass (take size (rest ++ more))))
    ≡ cond short More (verdict_on_request (request_of route pass (take size rest)))
verdict_with_body_stays true route size pass rest more e final = absurd final
verdict_with_body_stays false route size pass rest more e final =
    let long : size ≤ length rest = grind (arith, nat_tests) in
    let longer : nat_lt (length (rest ++ more)) size ≡ false = (let k = length-append rest more in grind (arith, nat_tests)) in
    ap (λ t. cond t More (verdict_on_request (request_of route pass (take size (rest ++ more))))) longer
    ∙ ap (λ body. verdict_on_request (request_of route pass body)) (take-append-le size rest more long)

verdict_by_checks_stays : (wanted : Result (Route × ℕ × List ℕ) Problem) (rest more : List ℕ)
    → IsFinal (verdict_with_body wanted rest) → verdict_with_body wanted (rest ++ more) ≡ verdict_with_body wanted rest
verdict_by_checks_stays (Err problem) rest more final = refl
verdict_by_checks_stays (Ok (route, size, pass)) rest more final =
    verdict_with_body_stays (nat_lt (length rest) size) route size pass rest more refl final

-- an input whose first 8,192 bytes hold no whole head (`IsTooLong`) stays so with more bytes after it
long_stays : (input more : List ℕ) → IsTooLong input → IsTooLong (input ++ more)
long_stays input more (long, none) =
    ((let k = length-append input more in omega (arith, long, k)), subst HasNoRequest (sym (take-append-le most_head input more long)) none)

-- a final verdict on an input is the verdict on the input with more bytes after it, too
pub judged_still : (input more : List ℕ) (v : Verdict) → Judges input v → IsFinal v → Judges (input ++ more) v
judged_still input more v (whole head rest h e) final =
    whole head (rest ++ more) (head_stays input more head rest h) (e ∙ sym (verdict_by_checks_stays (head_checks head.minor head.method head.target (fields_of head)) rest more (subst IsFinal e final)))
judged_still input more v (too_long h e) final = too_long (long_stays input more h) e
judged_still input more v (refused h e) final = refused (refused_stays input more h) e
judged_still input more v (unfinished h e) final = absurd (subst IsFinal e final)

-- ---- one verdict

-- an input with a whole head within the limits is not refused
not_refused : (input : List ℕ) (head : RequestHead) (rest : List ℕ) → HasHead input head rest → IsRefused input → ⊥
not_refused input head rest h (inl never) =
    never [] head rest (subst (λ l. ReadsRequest l head rest) (sym (append-nil input)) h.reads)
not_refused input head rest h (inr (exceeds, over)) =
    let many = over [] head rest (subst (λ l. ReadsRequest l head rest) (sym (append-nil input)) h.reads) in
    let few = h.fields in omega (arith, many, few)

take-append-more : (n : ℕ) (xs ys : List ℕ) → length xs ≤ n → take n (xs ++ ys) ≡ xs ++ take (n - length xs) ys
take-append-more n xs ys h =
    let e : n ≡ length xs + (n - length xs) = omega arith in
    ap (λ k. take k (xs ++ ys)) e ∙ take-append-add xs ys (n - length xs)

-- an input with a whole head within the limits is not too long
not_too_long : (input : List ℕ) (head : RequestHead) (rest : List ℕ) → HasHead input head rest → IsTooLong input → ⊥
not_too_long input head rest h (long, none) =
    let front : take most_head input ≡ print_request head ++ take (most_head - length (print_request head)) rest =
    ap (λ l. take most_head l) h.reads.1 ∙ take-append-more most_head (print_request head) rest h.bytes in
    none head (take (most_head - length (print_request head)) rest) (h.reads.0, front)

-- two final verdicts on one input are equal
pub one_verdict : (input : List ℕ) (v w : Verdict) → Judges input v → Judges input w → IsFinal v → IsFinal w → v ≡ w
one_verdict input v w (whole head rest h e) (whole other after k f) final last =
    let same = request_unique input head other rest after h.reads k.reads in
    e ∙ ap (λ x. verdict_of x rest) same.0 ∙ ap (λ r. verdict_of other r) same.1 ∙ sym f
one_verdict input v w (whole head rest h e) (too_long k f) final last = absurd (not_too_long input head rest h k)
one_verdict input v w (whole head rest h e) (refused k f) final last = absurd (not_refused input head rest h k)
one_verdict input v w (whole head rest h e) (unfinished k f) final last = absurd (subst IsFinal f last)
one_verdict input v w (too_long h e) (whole other after k f) final last = absurd (not_too_long input other after k h)
one_verdict input v w (too_long h e) (too_long k f) final last = e ∙ sym f
one_verdict input v w (too_long h e) (refused k f) final last = e ∙ sym f
one_verdict input v w (too_long h e) (unfinished k f) final last = absurd (subst IsFinal f last)
one_verdict input v w (refused h e) (whole other after k f) final last = absurd (not_refused input other after k h)
one_verdict input v w (refused h e) (too_long k f) final last = e ∙ sym f
one_verdict input v w (refused h e) (refused k f) final last = e ∙ sym f
one_verdict input v w (refused h e) (unfinished k f) final last = absurd (subst IsFinal f last)
one_verdict input v w (unfinished h e) other final last = absurd (subst IsFinal e final)
