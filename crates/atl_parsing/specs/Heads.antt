-- `Judges`: the verdict on the bytes received so far, by their head: whole, unfinished, refused or too long. It is
-- Refused with a problem, Asks with a request, which both are final, or More while bytes are missing. See
-- docs/FORMATS.md, "HTTP". `input` and `seen` are the bytes received so far, and `rest` those after the head.
use Rattle.std.specs.Prelude.{◌≡◌, ℕ, ◌≤◌, ◌<◌, ◌⊎◌, List, [], length, take, ◌++◌, ⊤}
use Rattle.httparse.specs.Grammar.{RequestHead, print_request, ReadsRequest, NeverHasRequest, HasNoRequest, MayBecomeRequest}
use Rattle.httparse.specs.Spans.{RequestExceeds, RequestOverflows}
use Rattle.atl_parsing.specs.declared.problem.Problem.TheVariants.{BadRequest}
use Rattle.atl_parsing.specs.declared.request.Verdict.{Verdict}
use Rattle.atl_parsing.specs.declared.request.Verdict.TheVariants.{More, Refused, Asks}
use Rattle.atl_parsing.specs.declared.request.FinalVerdict.{FinalVerdict}
use Rattle.atl_parsing.specs.declared.request.FinalVerdict.TheVariants as outcome
use Rattle.atl_parsing.specs.declared.request.Progress.{Progress}
use Rattle.atl_parsing.specs.declared.request.Progress.TheVariants as progress
use Rattle.atl_parsing.specs.Checks.{verdict_of}

-- the most bytes of a head, with its empty line
abbrev pub most_head : ℕ
most_head = 8192

-- the most fields of a head
abbrev pub most_fields : ℕ
most_fields = 32

-- The input begins with this whole head, which has at most 8,192 bytes and 32 fields, and `rest` follows.
pub record HasHead (input : List ℕ) (head : RequestHead) (rest : List ℕ) : Type 0 where
  pub reads : ReadsRequest input head rest
  pub bytes : length (print_request head) ≤ most_head
  pub fields : length head.fields ≤ most_fields

-- Whatever bytes follow, the input begins with no head of at most 32 fields. Either it never begins with a head. Or
-- each head that it then begins with has more fields; and some first bytes of the input, with an empty line after them,
-- are a head with more.
abbrev pub IsRefused : List ℕ → Type 0
IsRefused input = NeverHasRequest input ⊎ (RequestExceeds most_fields input × RequestOverflows most_fields input)

-- The first 8,192 bytes have arrived, and they hold no whole head.
abbrev pub IsTooLong : List ℕ → Type 0
IsTooLong input = (most_head ≤ length input) × HasNoRequest (take most_head input)

-- Fewer than 8,192 bytes have arrived, and the input doesn't begin with a whole head. Further bytes can make it one, or
-- it ends inside the target (`MayBecomeRequest`).
pub record IsUnfinished (input : List ℕ) : Type 0 where
  pub short : length input < most_head
  pub none : HasNoRequest input
  pub open_end : MayBecomeRequest input

-- The verdict is right for the bytes received so far: the head is whole, too long, refused or unfinished.
-- While a target or one field too many is still arriving, both `refused` and `unfinished` may apply.
pub data Judges (input : List ℕ) (verdict : Verdict) : Type 0 where
  -- a whole head has arrived: the verdict on this head and the bytes after it (`verdict_of`)
  whole : (head : RequestHead) → (rest : List ℕ) → HasHead input head rest → verdict ≡ verdict_of head rest → Judges input verdict
  -- the first 8,192 bytes hold no whole head: BadRequest
  too_long : IsTooLong input → verdict ≡ Refused BadRequest → Judges input verdict
  -- whatever bytes follow, the input has no head of at most 32 fields: BadRequest
  refused : IsRefused input → verdict ≡ Refused BadRequest → Judges input verdict
  -- the head may become whole with further bytes, or the input ends inside the target: More
  unfinished : IsUnfinished input → verdict ≡ More → Judges input verdict

-- The verdict is Refused or Asks: the request is refused or whole, and needs no more bytes.
abbrev pub IsFinal : Verdict → Type 0
IsFinal More = ⊥
IsFinal (Refused problem) = ⊤
IsFinal (Asks asked) = ⊤

-- the `Verdict` that a final verdict is: Refused with the problem, or Asks with the request
abbrev pub as_verdict : FinalVerdict → Verdict
as_verdict (outcome.Refused problem) = Refused problem
as_verdict (outcome.Asks asked) = Asks asked

-- With fewer than `count` more bytes after `seen` the verdict More is right (`Judges`).
abbrev pub IsShortBy : (seen : List ℕ) → (count : ℕ) → Type 0
IsShortBy seen count = (more : List ℕ) → length more < count → Judges (seen ++ more) More

-- The progress on these bytes is right: the final verdict on them, or a count of missing bytes, at least 1. With fewer
-- further bytes than the count the request isn't whole (`IsShortBy`).
abbrev pub ComesTo : (seen : List ℕ) → Progress → Type 0
ComesTo seen (progress.Missing count) = (0 < count) × IsShortBy seen count
ComesTo seen (progress.Ends outcome) = Judges seen (as_verdict outcome)

-- the verdict of a progress: More while bytes are missing, else the final verdict that it has
abbrev pub verdict_by : Progress → Verdict
verdict_by (progress.Missing count) = More
verdict_by (progress.Ends outcome) = as_verdict outcome

-- the most bytes that one read takes
abbrev pub most_at_once : ℕ
most_at_once = 8192

-- No read was done after the request was whole or refused. Nothing was read at all; or the last read gave the bytes
-- `last`, at most 8,192, and More is a right verdict on those before it (`front`).
abbrev pub ReadsNoFurther : List ℕ → Type 0
ReadsNoFurther seen =
    (seen ≡ [])
    ⊎ ((front : List ℕ) × (last : List ℕ) × (seen ≡ front ++ last) × (length last ≤ most_at_once) × Judges front More)

-- It doesn't matter in which pieces a request comes: bytes after a final verdict change nothing, and no input has two
-- final verdicts.
abbrev pub PiecesDoNotMatter : Type 0
PiecesDoNotMatter =
    ((input more : List ℕ) (v : Verdict) → Judges input v → IsFinal v → Judges (input ++ more) v)
    × ((input : List ℕ) (v w : Verdict) → Judges input v → Judges input w → IsFinal v → IsFinal w → v ≡ w)
