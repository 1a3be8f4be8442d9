-- For proofs alone: the four routes as the router of `matchit` stores them, and the route that each key means. In the
-- pattern of a route `param_token`, which is greater than any byte, stands for the number.
use Rattle.std.specs.Prelude.{ℕ, zero, suc, ◌+◌, List, [], ◌∷◌, ◌++◌, length, codes, Option, Some, None, option_map}
use Rattle.matchit.specs.Rows.{Rows, RowsOf, param_token}
use Rattle.matchit.specs.Router.{RouteOf, rename}
use Rattle.atl_parsing.specs.declared.route.Route.{Route}
use Rattle.atl_parsing.specs.declared.route.Route.TheVariants as route
use Rattle.atl_parsing.specs.declared.route.RouteKey.{RouteKey}
use Rattle.atl_parsing.specs.declared.route.RouteKey.TheVariants.{Join, Orders, Close, Report}
use Rattle.atl_parsing.specs.Routes.{number_of}

-- a route of the router: a prefix, and a number after it; `names` has where the name `number` begins and ends in the
-- text
abbrev pub numbered_route : (front : List ℕ) → RouteKey → RouteOf RouteKey
numbered_route front key =
    record {
      pattern = front ++ param_token ∷ [];
      text = front ++ codes "{number}";
      names = (length front + 1, length front + 7) ∷ [];
      value = key;
    }

-- the route at each index of the router, which has its routes in the order of their texts; 3 is the last index in use
abbrev pub kept_at : ℕ → RouteOf RouteKey
kept_at zero = numbered_route (codes "/close/") Close
kept_at (suc zero) = record { pattern = codes "/join"; text = codes "/join"; names = []; value = Join }
kept_at (suc (suc zero)) = numbered_route (codes "/orders/") Orders
kept_at (suc (suc (suc more))) = numbered_route (codes "/report/") Report

-- the rows of the router: the pattern of each route, and the route's index (`kept_at`)
abbrev pub rows : Rows
rows =
    (codes "/close/" ++ param_token ∷ [], 0)
    ∷ (codes "/join", 1)
    ∷ (codes "/orders/" ++ param_token ∷ [], 2)
    ∷ (codes "/report/" ++ param_token ∷ [], 3)
    ∷ []

-- the rows of the router, each with its route
abbrev pub route_rows : RowsOf (RouteOf RouteKey)
route_rows = rename kept_at rows

-- the route of a key of the router, with the number that the text after the prefix writes; None if a number is missing
-- or faulty
abbrev pub route_in : RouteKey → Option (List ℕ) → Option Route
route_in Join parameter = Some route.Join
route_in Orders None = None
route_in Orders (Some text) = option_map route.Orders (number_of text)
route_in Close None = None
route_in Close (Some text) = option_map route.Close (number_of text)
route_in Report None = None
route_in Report (Some text) = option_map route.Report (number_of text)
