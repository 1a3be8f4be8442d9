-- The bytes of a reply: status, fields and body. See docs/FORMATS.md, "HTTP".
use Rattle.std.specs.Prelude.{ℕ, List, [], length, codes, Option, Some, None, unwrap_or}
use Rattle.std.specs.Fmt.{decimal}
use Rattle.http.specs.StatusCode.{reason_phrase}
use Rattle.atl_world.specs.Texts.{◌▸◌}
use Rattle.atl_parsing.specs.declared.problem.Problem.{Problem}
use Rattle.atl_parsing.specs.declared.problem.Problem.TheVariants.{BadRequest, NoRoute, BadMethod, NoLength, BodyTooLong, NoPass, BadJson}
use Rattle.atl_parsing.specs.declared.route.Route.{Route}
use Rattle.atl_parsing.specs.Routes.{method_of}

-- a reply: its HTTP status, the route whose method the line `Allow` names (else None), its content type, and its body
pub record Reply : Type 0 where
  pub status : ℕ
  pub allow : Option Route
  pub kind : List ℕ
  pub body : List ℕ

-- the content type of every reply but a report
abbrev pub json : List ℕ
json = codes "application/json"

-- the content type of a report
abbrev pub plain : List ℕ
plain = codes "text/plain"

-- ---- its bytes

-- the line `Allow` with the method of the route, if there is one
abbrev pub allow_line : Option Route → List ℕ
allow_line None = []
allow_line (Some route) = codes "Allow: " ▸ method_of route ▸ codes "\r\n"

-- the status line, without a reason phrase if the status has none, and three fields that every reply has: Content-Type
-- (`kind`), the length of the body, and Connection
unfoldable pub head_of : (status : ℕ) → (kind body : List ℕ) → List ℕ
head_of status kind body =
    codes "HTTP/1.1 " ▸ decimal status ▸ codes " " ▸ unwrap_or (reason_phrase status) [] ▸ codes "\r\nContent-Type: " ▸ kind
    ▸ codes "\r\nContent-Length: " ▸ decimal (length body) ▸ codes "\r\nConnection: close\r\n"

-- all bytes of a reply: the status line and its fields, the line `Allow` if there is one, an empty line, and the body
abbrev pub bytes_of : Reply → List ℕ
bytes_of r = head_of r.status r.kind r.body ▸ allow_line r.allow ▸ codes "\r\n" ▸ r.body

-- ---- the reply to a problem

-- 0, the number in the error body of a problem or fault, which has no number of its own
abbrev pub no_number : ℕ
no_number = 0

-- the name of a problem, in ASCII
abbrev pub problem_name : Problem → List ℕ
problem_name BadRequest = codes "BadRequest"
problem_name NoRoute = codes "NoRoute"
problem_name (BadMethod route) = codes "BadMethod"
problem_name NoLength = codes "NoLength"
problem_name BodyTooLong = codes "BodyTooLong"
problem_name NoPass = codes "NoPass"
problem_name BadJson = codes "BadJson"

-- the HTTP status for a problem; 400 for problems that aren't listed here
abbrev pub problem_status : Problem → ℕ
problem_status NoRoute = 404
problem_status (BadMethod route) = 405
problem_status NoLength = 411
problem_status BodyTooLong = 413
problem_status p = 400

-- the route whose method the reply's `Allow` line names: the route of BadMethod, else none
abbrev pub allowed_route : Problem → Option Route
allowed_route (BadMethod route) = Some route
allowed_route p = None

-- the body of an error: {"error":"NAME","number":K}
unfoldable pub error_body : (name : List ℕ) → (number : ℕ) → List ℕ
error_body name number = codes "{\"error\":\"" ▸ name ▸ codes "\",\"number\":" ▸ decimal number ▸ codes "}"

-- the reply to a request with this problem: its status and name, the number 0, and for BadMethod the line `Allow`
abbrev pub problem_reply : Problem → Reply
problem_reply p =
    record {
      status = problem_status p;
      allow = allowed_route p;
      kind = json;
      body = error_body (problem_name p) no_number;
    }
