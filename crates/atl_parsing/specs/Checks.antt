-- `verdict_of`: the checks of a whole head and its body, in their order. See docs/FORMATS.md, "HTTP". The verdict is
-- Refused with a problem, More while bytes of the body are missing, or Asks with the request. Of the head `minor` is
-- the digit after `HTTP/1.`, and `method` and `target` are the first two words, as `GET` and `/report/3`. `rest` has
-- the bytes after the head. The ASCII case of the names of fields is ignored.
use Rattle.std.specs.Prelude.{ℕ, Bool, true, false, ◌||◌, ◌==◌, nat_lt, bytes_eq, codes, if◌then◌else◌, List, [], ◌∷◌, length, take, Option, Some, None, is_some, Result, Ok, Err, option_and_then}
use Rattle.std.specs.Str.{is_utf8}
use Rattle.httparse.specs.Grammar.{RequestHead}
use Rattle.serde_json.specs.Data.{Data}
use Rattle.serde_json.specs.Read.{read}
use Rattle.serde_json.specs.Find.{get, as_str}
use Rattle.atl_parsing.specs.declared.problem.Problem.{Problem}
use Rattle.atl_parsing.specs.declared.problem.Problem.TheVariants.{BadRequest, NoRoute, BadMethod, NoLength, BodyTooLong, NoPass, BadJson}
use Rattle.atl_parsing.specs.declared.route.Route.{Route}
use Rattle.atl_parsing.specs.declared.route.Route.TheVariants.{Join, Orders, Close, Report}
use Rattle.atl_parsing.specs.declared.request.Request.{Request}
use Rattle.atl_parsing.specs.declared.request.Request.TheVariants as request
use Rattle.atl_parsing.specs.declared.request.Verdict.{Verdict}
use Rattle.atl_parsing.specs.declared.request.Verdict.TheVariants.{More, Refused, Asks}
use Rattle.atl_world.specs.Steps.{◌>>=◌}
use Rattle.atl_words.specs.Limits.{most_bytes}
use Rattle.atl_parsing.specs.Routes.{number_of, path_of, route_of, method_of}
use Rattle.atl_parsing.specs.Fields.{Pair, fields_of, values_of, single_value}

-- the value in an option, or this problem if there is none
abbrev pub or_problem : {A : Type 0} → Problem → Option A → Result A Problem
or_problem problem None = Err problem
or_problem problem (Some x) = Ok x

-- ---- the first check: a request of HTTP/1.1 has exactly one Host

-- whether a request of HTTP/1.1 has exactly one field Host; one of HTTP/1.0 needs none
unfoldable pub has_host : (minor : ℕ) → List Pair → Bool
has_host minor fields = minor == 0 || is_some (single_value (values_of (codes "Host") fields))

-- ---- the second: a route, and its method

-- the route of a path (Some), if the request's method is the method of this route, and BadMethod for another method;
-- NoRoute if the path has no route (None)
abbrev pub with_method : (method : List ℕ) → Option Route → Result Route Problem
with_method method None = Err NoRoute
with_method method (Some route) = if bytes_eq method (method_of route) then Ok route else Err (BadMethod route)

-- the route of a request, or the problem of the first check that fails: BadRequest (`has_host`), NoRoute or BadMethod
unfoldable pub requested_route : (minor : ℕ) → (method target : List ℕ) → List Pair → Result Route Problem
requested_route minor method target fields =
    if has_host minor fields
    then with_method method (route_of (path_of target))
    else Err BadRequest

-- ---- the third: how many bytes the body of a POST has

-- The length of a body, by the number that Content-Length writes. It is BadRequest if it writes none, and BodyTooLong
-- if the number is above 65,536, as many bytes as a mailing may have.
abbrev pub size_within : Option ℕ → Result ℕ Problem
size_within None = Err BadRequest
size_within (Some n) = if nat_lt most_bytes n then Err BodyTooLong else Ok n

-- The body length by the values of Content-Length: the number that the only value writes, or 0 without a value where
-- the length is optional. Else NoLength without a value, BadRequest for several or for no number, and BodyTooLong for a
-- number above the limit (`size_within`).
abbrev pub declared_size : (optional : Bool) → List (List ℕ) → Result ℕ Problem
declared_size true [] = Ok 0
declared_size false [] = Err NoLength
declared_size optional (value ∷ []) = size_within (number_of value)
declared_size optional (value ∷ other ∷ more) = Err BadRequest

-- the given result `size`, if Transfer-Encoding has no values, so the head has no such field; else NoLength
abbrev pub unless_coded : List (List ℕ) → Result ℕ Problem → Result ℕ Problem
unless_coded [] size = size
unless_coded (coding ∷ more) size = Err NoLength

-- the length of the body of a POST: NoLength if there is a field Transfer-Encoding, else what Content-Length declares
-- (`declared_size`), or its problem; `optional` says that Content-Length may be missing
unfoldable pub posted_size : (optional : Bool) → List Pair → Result ℕ Problem
posted_size optional fields =
    unless_coded (values_of (codes "Transfer-Encoding") fields) (declared_size optional (values_of (codes "Content-Length") fields))

-- The number of body bytes that are read for a route, or the problem with it. It is 0 for a GET (Report), and else what
-- Content-Length declares, which `/close` alone may leave out (0), if there is no Transfer-Encoding.
abbrev pub size_of : Route → List Pair → Result ℕ Problem
size_of Join fields = posted_size false fields
size_of (Orders faction) fields = posted_size false fields
size_of (Close month) fields = posted_size true fields
size_of (Report faction) fields = Ok 0

-- ---- the fourth: exactly one pass text, except for a join

-- the value of Atlantis-Pass, if there is exactly one; else NoPass
unfoldable pub pass_field : List Pair → Result (List ℕ) Problem
pass_field fields = or_problem NoPass (single_value (values_of (codes "Atlantis-Pass") fields))

-- the pass text that a route needs in the head, NoPass unless there is exactly one; empty for a join, which needs none
abbrev pub pass_of : Route → List Pair → Result (List ℕ) Problem
pass_of Join fields = Ok []
pass_of (Orders faction) fields = pass_field fields
pass_of (Close month) fields = pass_field fields
pass_of (Report faction) fields = pass_field fields

-- ---- the fifth: the body

-- the value of a body in JSON; None if it is not UTF-8 or not JSON
abbrev pub json_of : List ℕ → Option Data
json_of body = if is_utf8 body then read body else None

-- the text under a key of an object of JSON; None if the value is no object, or has no text under this key
abbrev pub text_at : List ℕ → Data → Option (List ℕ)
text_at key d = option_and_then as_str (get key d)

-- the join that a body asks for: an object of JSON with the texts `name` and `pass`, else BadJson
unfoldable pub joining : List ℕ → Result Request Problem
joining body = do
  said ← or_problem BadJson (json_of body)
  name ← or_problem BadJson (text_at (codes "name") said)
  pass ← or_problem BadJson (text_at (codes "pass") said)
  Ok (request.Join name pass)

-- The request that a route, pass text and body make; BadJson if the body of a join is no JSON object with the texts
-- `name` and `pass`.
abbrev pub request_of : Route → (pass body : List ℕ) → Result Request Problem
request_of Join pass body = joining body
request_of (Orders faction) pass body = Ok (request.Orders faction pass body)
request_of (Close month) pass body = Ok (request.Close month pass)
request_of (Report faction) pass body = Ok (request.Report faction pass)

-- ---- the whole

-- the first four checks: route, number of body bytes and pass text of a head, or the first problem
unfoldable pub head_checks : (minor : ℕ) → (method target : List ℕ) → List Pair → Result (Route × ℕ × List ℕ) Problem
head_checks minor method target fields = do
  route ← requested_route minor method target fields
  size ← size_of route fields
  pass ← pass_of route fields
  Ok (route, size, pass)

-- the verdict on a request whose body is whole: Refused with the problem of the body, or Asks with the request
abbrev pub verdict_on_request : Result Request Problem → Verdict
verdict_on_request (Err problem) = Refused problem
verdict_on_request (Ok asked) = Asks asked

-- The verdict on a head by its first four checks and the bytes after it. It is Refused if a check failed, and More
-- while the body (the first `size` bytes) isn't whole; else Refused or Asks, by what route, pass text and body make.
abbrev pub verdict_with_body : Result (Route × ℕ × List ℕ) Problem → (rest : List ℕ) → Verdict
verdict_with_body (Err problem) rest = Refused problem
verdict_with_body (Ok (route, size, pass)) rest =
    if nat_lt (length rest) size
    then More
    else verdict_on_request (request_of route pass (take size rest))

-- the verdict on a whole head and the bytes after it: by its first four checks, and then by its body
abbrev pub verdict_of : RequestHead → (rest : List ℕ) → Verdict
verdict_of head rest = verdict_with_body (head_checks head.minor head.method head.target (fields_of head)) rest
