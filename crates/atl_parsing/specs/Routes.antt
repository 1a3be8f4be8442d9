-- The routes, and which route a path has. See docs/FORMATS.md, "HTTP".
use Rattle.std.specs.Prelude.{ℕ, Bool, List, length, take, drop, ◌&&◌, nat_eq, nat_lt, nat_le, ◌==◌, bytes_eq, codes, if◌then◌else◌, Option, Some, None, option_map}
use Rattle.std.specs.Cmp.Lexicographic.{pointwise}
use Rattle.std.specs.List.{list_all, before_first}
use Rattle.std.specs.Char.{is_ascii_digit}
use Rattle.std.specs.Str.Parse.{digits_value}
use Rattle.atl_parsing.specs.declared.route.Route.{Route}
use Rattle.atl_parsing.specs.declared.route.Route.TheVariants.{Join, Orders, Close, Report}

-- the most digits of a number in a path
abbrev pub most_digits : ℕ
most_digits = 9

-- the number that 1 to 9 decimal digits write; None for any other text
unfoldable pub number_of : List ℕ → Option ℕ
number_of bytes =
    if nat_lt 0 (length bytes) && (nat_le (length bytes) most_digits && list_all is_ascii_digit bytes)
    then Some (digits_value 10 bytes)
    else None

-- the rest of a text (the second one) after a prefix (the first); None if the text doesn't begin with the prefix
abbrev pub after_prefix : List ℕ → List ℕ → Option (List ℕ)
after_prefix front text = if pointwise nat_eq (take (length front) text) front then Some (drop (length front) text) else None

-- `numbered route rest other`: the route with the number that `rest`, the rest of a path after a prefix, writes; None
-- if it writes none. It is `other` if there is no rest: the path lacks the prefix (`after_prefix`).
abbrev pub numbered : (ℕ → Route) → Option (List ℕ) → Option Route → Option Route
numbered route None other = other
numbered route (Some parameter) other = option_map route (number_of parameter)

-- whether a byte is a question mark
abbrev pub is_question : ℕ → Bool
is_question b = b == 63

-- the path of a target: its bytes before the first question mark, or all of them if there is none
abbrev pub path_of : List ℕ → List ℕ
path_of target = before_first is_question target

-- the route of a path: /join, /orders/F, /close/M or /report/F, where F and M have 1 to 9 digits; None for any other
unfoldable pub route_of : List ℕ → Option Route
route_of path =
    if bytes_eq path (codes "/join") then Some Join
    else numbered Orders (after_prefix (codes "/orders/") path)
    (numbered Close (after_prefix (codes "/close/") path)
    (numbered Report (after_prefix (codes "/report/") path) None))

-- the HTTP method of a route: GET for a report, else POST
abbrev pub method_of : Route → List ℕ
method_of Join = codes "POST"
method_of (Orders faction) = codes "POST"
method_of (Close month) = codes "POST"
method_of (Report faction) = codes "GET"
