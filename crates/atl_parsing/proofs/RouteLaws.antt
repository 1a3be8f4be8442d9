-- Laws on the routes: the router's lookup of a path, with its parameter, gives the route of `route_of`. The pattern of
-- a route is its path with `param_token`, which is greater than any byte, for the number. This is the parameter of the
-- route, and `walk` gives it with its name.
-- `key` is the index of a route (`kept_at`), `front` its prefix, and `rest` what a path has after the prefix. `q` is a
-- path without its first bytes, and `c` a byte. 47 is the slash, and 99, 106, 111 and 114 are `c`, `j`, `o` and `r`.
use Rattle.std.proofs.Common.{add-zero, lit<, get_or, ltb, leb, length-append, ◌&&◌, ◌≡◌, ℕ, ◌+◌, ◌-◌, ◌<◌, ◌≤◌, ◌⊎◌, inl, inr, List, [], ◌∷◌, ◌++◌, length, drop, Option, Some, None, Bool, true, false, refl, sym, ap, ◌∙◌, subst, arith, ◌==◌}
use Rattle.std.specs.Prelude.{MatchOption, bytes_eq, option_and_then, option_map, codes}
use Rattle.std.proofs.lemmas.Bool.Decides.{nat_tests}
use Rattle.matchit.specs.Rows.{Rows, param_token}
use Rattle.matchit.specs.Seek.{step, seek, first, param_step}
use Rattle.matchit.specs.Level.{IsText}
use Rattle.matchit.proofs.SeekLemmas.{seek-empty, or_else-none, param_step-empty}
use Rattle.std.specs.List.{list_all}
use Rattle.std.proofs.lemmas.Slice.Eq.{bytes_eq-Decides}
use Rattle.std.specs.Str.{IsUtf8}
use Rattle.std.proofs.lemmas.Str.{IsUtf8-append, IsUtf8-drop, IsCharBoundary-after_ascii}
use Rattle.atl_parsing.specs.Routes.{after_prefix, numbered, number_of, route_of}
use Rattle.atl_parsing.specs.Routing.{rows, route_rows, kept_at, route_in}
use Rattle.atl_parsing.specs.declared.route.Route.{Route}
use Rattle.atl_parsing.specs.declared.route.Route.TheVariants as route
use Rattle.atl_parsing.specs.declared.route.RouteKey.{RouteKey}
use Rattle.matchit.specs.Router.{RouteOf, map_key}
use Rattle.matchit.proofs.RenameLemmas.{first-rename}
use Rattle.matchit.specs.Params.{walk, wild_from, part_of, named, AllText}
use Rattle.std.proofs.lemmas.List.{length-drop, drop_at}
use Rattle.std.proofs.Math.Seq.{take-length}
use Rattle.atl_parsing.proofs.FrontLaws.{after_prefix_is, lookup_after_prefix, number_row, end_none, ascii_utf8, IsNumberLookup, number_says}

-- ---- the text of a number in a path

-- the name of the parameter of each route with a number
abbrev number_text : List ℕ
number_text = codes "number"

-- one step of `is_text`, by whether the first byte is below `param_token`
text_step : (b : ℕ) (front : List ℕ) (t : Bool) → ltb b param_token ≡ t
    → (list_all (λ c. ltb c param_token) front ≡ true → IsText front)
    → (t && list_all (λ c. ltb c param_token) front) ≡ true → IsText (b ∷ front)
text_step b front true e ih h = (grind (arith, nat_tests), ih h)
text_step b front false e ih h = cc

-- a prefix of bytes below `param_token` has no parameter (`IsText`)
is_text : (front : List ℕ) → list_all (λ b. ltb b param_token) front ≡ true → IsText front
is_text [] h = tt
is_text (b ∷ front) h = text_step b front (ltb b param_token) refl (λ k. is_text front k) h

-- walking a pattern along a path that is at least as long as the pattern's prefix passes the prefix, and reaches the
-- parameter after it; the pattern begins at byte `t` of the path, which has `len` bytes
walk_front : (front : List ℕ) (len t : ℕ) → IsText front → t + length front ≤ len
    → wild_from (front ++ param_token ∷ []) len t t ≡ (t + length front, t + length front)
walk_front [] len t h l = rw (add-zero t) refl
walk_front (b ∷ front) len t h l =
    let byte : ltb b param_token ≡ true = (let small = h.0 in grind (arith, nat_tests)) in
    let inside : ltb t len ≡ true = grind (arith, nat_tests) in
    let more : t + 1 + length front ≤ len = omega arith in
    let same : t + 1 + length front ≡ t + length (b ∷ front) = omega arith in
    rw (byte, inside, walk_front front len (t + 1) h.1 more, same) refl

-- the part of a path from its byte `n` to its end is the path without its first `n` bytes
part_rest : (path : List ℕ) (n : ℕ) → n ≤ length path → part_of path n (length path) ≡ drop n path
part_rest path n h =
    let one : leb n (length path) ≡ true = grind (arith, nat_tests) in
    let two : leb (length path) (length path) ≡ true = grind (arith, nat_tests) in
    let count : length (drop n path) ≡ length path - n = length-drop n path in
    rw (one, two, ← count) (take-length (drop n path))

-- Walking a pattern along a path takes the path without its first `n` bytes as the parameter `number`. Premises: the
-- pattern has `n` bytes before the parameter and none after it, and `text` has the name from `start` to `end`.
takes : (pattern text path rest : List ℕ) (start end n : ℕ) → wild_from pattern (length path) 0 0 ≡ (n, n)
    → (ltb n (length pattern) && (get_or pattern n 0 == param_token) && ltb (n + 1) (length pattern)) ≡ false
    → part_of text start end ≡ number_text → drop n path ≡ rest → n ≤ length path
    → walk pattern text path ((start, end) ∷ []) 0 0 ≡ (number_text, rest) ∷ []
takes pattern text path rest start end n at last named_is rest_is h =
    rw (at, last, named_is, part_rest path n h, rest_is) refl

-- The route of this key takes `rest` from the path as the parameter `number`.
abbrev TakesNumber : ℕ → List ℕ → List ℕ → Type 0
TakesNumber key path rest =
    walk (kept_at key).pattern (kept_at key).text path (kept_at key).names 0 0 ≡ (number_text, rest) ∷ []

prefix_within : (n : ℕ) (front rest : List ℕ) → length front ≡ n → n ≤ length (front ++ rest)
prefix_within n front rest e = let sum = length-append front rest in omega (arith, e, sum)

takes_close : (rest : List ℕ) → TakesNumber 0 (codes "/close/" ++ rest) rest
takes_close rest =
    let h = prefix_within 7 (codes "/close/") rest refl in
    takes (codes "/close/" ++ param_token ∷ []) (codes "/close/{number}") (codes "/close/" ++ rest) rest 8 14 7 (walk_front (codes "/close/") (length (codes "/close/" ++ rest)) 0 (is_text (codes "/close/") refl) h) refl refl refl h

takes_orders : (rest : List ℕ) → TakesNumber 2 (codes "/orders/" ++ rest) rest
takes_orders rest =
    let h = prefix_within 8 (codes "/orders/") rest refl in
    takes (codes "/orders/" ++ param_token ∷ []) (codes "/orders/{number}") (codes "/orders/" ++ rest) rest 9 15 8 (walk_front (codes "/orders/") (length (codes "/orders/" ++ rest)) 0 (is_text (codes "/orders/") refl) h) refl refl refl h

takes_report : (rest : List ℕ) → TakesNumber 3 (codes "/report/" ++ rest) rest
takes_report rest =
    let h = prefix_within 8 (codes "/report/") rest refl in
    takes (codes "/report/" ++ param_token ∷ []) (codes "/report/{number}") (codes "/report/" ++ rest) rest 9 15 8 (walk_front (codes "/report/") (length (codes "/report/" ++ rest)) 0 (is_text (codes "/report/") refl) h) refl refl refl h

-- ---- the route of each path

-- The router finds the route Join, a route with a number, or nothing for this path, and `route_of` gives the same;
-- if the number is faulty, `route_of` gives none.
data Leads (path : List ℕ) : Type 0 where
  to_join : first rows path ≡ Some 1 → IsUtf8 path → route_of path ≡ Some route.Join → Leads path
  -- The router finds a route whose parameter is `rest`, and `route_of` gives that route with the number of `rest`, or
  -- none. `rest` is UTF-8 if the path is, and a path that has a route is UTF-8.
  to_number : (key : ℕ) → (rest : List ℕ) → first rows path ≡ Some key → TakesNumber key path rest
      → (IsUtf8 path → IsUtf8 rest) → (route_of path ≡ None) ⊎ IsUtf8 path
      → route_of path ≡ route_in (kept_at key).value (Some rest) → Leads path
  nowhere : first rows path ≡ None → route_of path ≡ None → Leads path

-- What the lookup needs of the prefix of a route with a number. What follows the prefix in a path is the parameter. It
-- is UTF-8 exactly where the path is, and gives no route where it is no number.
record IsNumberPrefix (key : ℕ) (front : List ℕ) : Type 0 where
  takes_rest : (rest : List ℕ) → TakesNumber key (front ++ rest) rest
  cut : (rest : List ℕ) → IsUtf8 (front ++ rest) → IsUtf8 rest
  joins : (rest : List ℕ) → IsUtf8 rest → IsUtf8 (front ++ rest)
  without : (rest : List ℕ) → number_of rest ≡ None → route_in (kept_at key).value (Some rest) ≡ None

-- `IsNumberPrefix` holds of a UTF-8 prefix that ends in an ASCII byte, if what follows the prefix is the parameter, and
-- the route is None where this is no number. What follows the prefix is then UTF-8 exactly where the path is.
prefix_is_number_prefix : (key last : ℕ) (front : List ℕ) → length front ≡ last + 1 → IsUtf8 front
    → ((rest : List ℕ) → get_or (front ++ rest) last 0 < 128) → ((rest : List ℕ) → TakesNumber key (front ++ rest) rest)
    → ((rest : List ℕ) → number_of rest ≡ None → route_in (kept_at key).value (Some rest) ≡ None)
    → IsNumberPrefix key front
prefix_is_number_prefix key last front count text ascii takes_rest without = record {
  takes_rest = takes_rest;
  cut = (λ rest h.
      let inside : last < length (front ++ rest) = (let long = prefix_within (last + 1) front rest count in omega arith) in
      subst IsUtf8 (drop_at front rest (last + 1) count) (IsUtf8-drop (front ++ rest) (last + 1) h (IsCharBoundary-after_ascii (front ++ rest) last h inside (ascii rest))));
  joins = (λ rest h. IsUtf8-append front rest text h);
  without = without;
}

fronted_close : IsNumberPrefix 0 (codes "/close/")
fronted_close =
    prefix_is_number_prefix 0 6 (codes "/close/") refl (ascii_utf8 (codes "/close/") refl) (λ rest. lit< tt) takes_close
    (λ rest e. ap (option_map route.Close) e)

fronted_orders : IsNumberPrefix 2 (codes "/orders/")
fronted_orders =
    prefix_is_number_prefix 2 7 (codes "/orders/") refl (ascii_utf8 (codes "/orders/") refl) (λ rest. lit< tt)
    takes_orders (λ rest e. ap (option_map route.Orders) e)

fronted_report : IsNumberPrefix 3 (codes "/report/")
fronted_report =
    prefix_is_number_prefix 3 7 (codes "/report/") refl (ascii_utf8 (codes "/report/") refl) (λ rest. lit< tt)
    takes_report (λ rest e. ap (option_map route.Report) e)

-- the route of a key with the number in the rest of a path; None if there is no rest
abbrev route_of_found : ℕ → Option (List ℕ) → Option Route
route_of_found key None = None
route_of_found key (Some rest) = route_in (kept_at key).value (Some rest)

-- for a path with the prefix of a route with a number, the router finds the route that `route_of` gives (`Leads`), if
-- both look at what follows the prefix
leads_number : (key : ℕ) (front path rest : List ℕ) → path ≡ front ++ rest → IsNumberPrefix key front
    → first rows path ≡ first (number_row key) rest → route_of path ≡ route_in (kept_at key).value (Some rest)
    → IsNumberLookup key rest → Leads path
leads_number key front path rest p f a b (inl (e, inl none)) =
    to_number key rest (a ∙ e) (subst (λ l. TakesNumber key l rest) (sym p) (f.takes_rest rest)) (λ u. f.cut rest (subst IsUtf8 p u)) (inl (b ∙ f.without rest none)) b
leads_number key front path rest p f a b (inl (e, inr text)) =
    to_number key rest (a ∙ e) (subst (λ l. TakesNumber key l rest) (sym p) (f.takes_rest rest)) (λ u. f.cut rest (subst IsUtf8 p u)) (inr (subst IsUtf8 (sym p) (f.joins rest text))) b
leads_number key front path rest p f a b (inr (e, none)) = nowhere (a ∙ e) (b ∙ f.without rest none)

-- For a path that begins with `/` and the first letter of a route with a number, the router finds the route that
-- `route_of` gives (`Leads`). This is so whether the path has the route's prefix or not.
leads_by : (key c : ℕ) (w q : List ℕ) (found : Option (List ℕ)) → after_prefix w q ≡ found
    → IsNumberPrefix key (47 ∷ c ∷ w)
    → first rows (47 ∷ c ∷ q) ≡ option_and_then (λ rest. first (number_row key) rest) found
    → route_of (47 ∷ c ∷ q) ≡ route_of_found key found → Leads (47 ∷ c ∷ q)
leads_by key c w q None h f a b = nowhere a b
leads_by key c w q (Some rest) h f a b =
    leads_number key (47 ∷ c ∷ w) (47 ∷ c ∷ q) rest (ap (λ l. 47 ∷ c ∷ l) (after_prefix_is w q rest h)) f a b
    (number_says key rest)

-- the rows of the router without the slash that each begins with
abbrev after_slash : Rows
after_slash =
    (codes "close/" ++ param_token ∷ [], 0) ∷ (codes "join", 1) ∷ (codes "orders/" ++ param_token ∷ [], 2) ∷
    (codes "report/" ++ param_token ∷ [], 3) ∷ []

slash_first : (path : List ℕ)
    → first rows path ≡ option_and_then (λ rest. first after_slash rest) (after_prefix (codes "/") path)
slash_first path = lookup_after_prefix (codes "/") after_slash path (lit< tt, tt)

letter_step : (c : ℕ) (q : List ℕ) → first after_slash (c ∷ q) ≡ seek 0 (step c after_slash) q
unfolding seek
letter_step c q = simp (param_step-empty (c ∷ q), seek-empty ((param_step {K = ℕ} [] (c ∷ q)).0 - 1) q, or_else-none)

-- to look up a path in the router's rows is to look up what follows its slash and letter `c` in the rows that begin so
letter_first : (c : ℕ) (q : List ℕ) → first rows (47 ∷ c ∷ q) ≡ seek 0 (step c after_slash) q
letter_first c q = slash_first (47 ∷ c ∷ q) ∙ letter_step c q

leads_close : (q : List ℕ) → Leads (47 ∷ 99 ∷ q)
unfolding route_of
leads_close q =
    let same : (x : Option (List ℕ)) → numbered route.Close x None ≡ route_of_found 0 x = λ x. elim x as (λ x. numbered route.Close x None ≡ route_of_found 0 x) [ None ↦ refl | Some r ↦ refl ] in
    leads_by 0 99 (codes "lose/") q (after_prefix (codes "lose/") q) refl fronted_close (letter_first 99 q ∙ lookup_after_prefix (codes "lose/") (number_row 0) q (is_text (codes "lose/") refl)) (same (after_prefix (codes "lose/") q))

leads_orders : (q : List ℕ) → Leads (47 ∷ 111 ∷ q)
unfolding route_of
leads_orders q =
    let same : (x : Option (List ℕ)) → numbered route.Orders x None ≡ route_of_found 2 x = λ x. elim x as (λ x. numbered route.Orders x None ≡ route_of_found 2 x) [ None ↦ refl | Some r ↦ refl ] in
    leads_by 2 111 (codes "rders/") q (after_prefix (codes "rders/") q) refl fronted_orders (letter_first 111 q ∙ lookup_after_prefix (codes "rders/") (number_row 2) q (is_text (codes "rders/") refl)) (same (after_prefix (codes "rders/") q))

leads_report : (q : List ℕ) → Leads (47 ∷ 114 ∷ q)
unfolding route_of
leads_report q =
    let same : (x : Option (List ℕ)) → numbered route.Report x None ≡ route_of_found 3 x = λ x. elim x as (λ x. numbered route.Report x None ≡ route_of_found 3 x) [ None ↦ refl | Some r ↦ refl ] in
    leads_by 3 114 (codes "eport/") q (after_prefix (codes "eport/") q) refl fronted_report (letter_first 114 q ∙ lookup_after_prefix (codes "eport/") (number_row 3) q (is_text (codes "eport/") refl)) (same (after_prefix (codes "eport/") q))

-- the row of the router for the route `/join` once all bytes of its text are matched
abbrev join_row : Rows
join_row = ([], 1) ∷ []

-- a path that begins with `/j` and isn't `/join` finds no row for `/join`
join_none : (q : List ℕ) (found : Option (List ℕ)) → after_prefix (codes "oin") q ≡ found → (q ≡ codes "oin" → ⊥)
    → option_and_then (λ rest. first join_row rest) found ≡ None
join_none q None h n = refl
join_none q (Some []) h n = absurd (n (after_prefix_is (codes "oin") q [] h))
join_none q (Some (b ∷ rest)) h n = end_none 1 b rest

at_join : Leads (codes "/join")
unfolding seek route_of
at_join = to_join refl (ascii_utf8 (codes "/join") refl) refl

-- for each path that begins with `/j` the router finds the route that `route_of` gives, by whether it is `/join`
join_by : (q : List ℕ) (t : Bool) → bytes_eq q (codes "oin") ≡ t → Leads (47 ∷ 106 ∷ q)
unfolding route_of
join_by q true e = subst Leads (ap (λ l. 47 ∷ 106 ∷ l) (sym ((bytes_eq-Decides q (codes "oin")).0 e))) at_join
join_by q false e =
    nowhere
    (letter_first 106 q ∙ lookup_after_prefix (codes "oin") join_row q (is_text (codes "oin") refl) ∙ join_none q (after_prefix (codes "oin") q) refl (λ k. let yes = (bytes_eq-Decides q (codes "oin")).1 k in cc))
    (rw e refl)

leads_join : (q : List ℕ) → Leads (47 ∷ 106 ∷ q)
leads_join q = join_by q (bytes_eq q (codes "oin")) refl

-- for each path whose byte after the slash is not `c`, `j`, `o` or `r`, router and `route_of` find no route (`Leads`)
leads_other : (c : ℕ) (q : List ℕ) → (c == 99) ≡ false → (c == 106) ≡ false → (c == 111) ≡ false → (c == 114) ≡ false
    → Leads (47 ∷ c ∷ q)
unfolding route_of
leads_other c q one two three four =
    let first_one : (99 == c) ≡ false = grind (arith, nat_tests) in
    let first_two : (106 == c) ≡ false = grind (arith, nat_tests) in
    let first_three : (111 == c) ≡ false = grind (arith, nat_tests) in
    let first_four : (114 == c) ≡ false = grind (arith, nat_tests) in
    nowhere (letter_first c q ∙ rw (first_one, first_two, first_three, first_four) (seek-empty 0 q)) (rw (one, two, three, four) refl)

letter_report : (c : ℕ) (q : List ℕ) → (c == 99) ≡ false → (c == 106) ≡ false → (c == 111) ≡ false → (t : Bool)
    → (c == 114) ≡ t → Leads (47 ∷ c ∷ q)
letter_report c q one two three true e =
    let same : 114 ≡ c = grind (arith, nat_tests) in
    subst (λ x. Leads (47 ∷ x ∷ q)) same (leads_report q)
letter_report c q one two three false e = leads_other c q one two three e

letter_orders : (c : ℕ) (q : List ℕ) → (c == 99) ≡ false → (c == 106) ≡ false → (t : Bool) → (c == 111) ≡ t
    → Leads (47 ∷ c ∷ q)
letter_orders c q one two true e =
    let same : 111 ≡ c = grind (arith, nat_tests) in
    subst (λ x. Leads (47 ∷ x ∷ q)) same (leads_orders q)
letter_orders c q one two false e = letter_report c q one two e (c == 114) refl

letter_join : (c : ℕ) (q : List ℕ) → (c == 99) ≡ false → (t : Bool) → (c == 106) ≡ t → Leads (47 ∷ c ∷ q)
letter_join c q one true e =
    let same : 106 ≡ c = grind (arith, nat_tests) in
    subst (λ x. Leads (47 ∷ x ∷ q)) same (leads_join q)
letter_join c q one false e = letter_orders c q one e (c == 111) refl

letter_close : (c : ℕ) (q : List ℕ) (t : Bool) → (c == 99) ≡ t → Leads (47 ∷ c ∷ q)
letter_close c q true e =
    let same : 99 ≡ c = grind (arith, nat_tests) in
    subst (λ x. Leads (47 ∷ x ∷ q)) same (leads_close q)
letter_close c q false e = letter_join c q e (c == 106) refl

leads_slash : (q : List ℕ) → Leads (47 ∷ q)
unfolding seek route_of
leads_slash [] = nowhere (slash_first (47 ∷ [])) refl
leads_slash (c ∷ q) = letter_close c q (c == 99) refl

leads_begin : (a : ℕ) (q : List ℕ) (t : Bool) → (a == 47) ≡ t → Leads (a ∷ q)
unfolding route_of
leads_begin a q true e =
    let same : 47 ≡ a = grind (arith, nat_tests) in
    subst (λ x. Leads (x ∷ q)) same (leads_slash q)
leads_begin a q false e = nowhere (slash_first (a ∷ q) ∙ rw e refl) (rw e refl)

-- for each path the router finds the route that `route_of` gives (`Leads`)
leads : (path : List ℕ) → Leads path
unfolding seek route_of
leads [] = nowhere refl refl
leads (a ∷ q) = leads_begin a q (a == 47) refl

-- ---- the laws that the code needs

-- the lookup in the rows with routes finds the route whose index the lookup in the rows with indices finds
kept_first : (path : List ℕ) (found : Option ℕ) → first rows path ≡ found
    → first route_rows path ≡ map_key kept_at found
kept_first path found e = first-rename kept_at rows path ∙ ap (map_key kept_at) e

missing_by : (path : List ℕ) → first route_rows path ≡ None → Leads path → route_of path ≡ None
missing_by path h (to_join e text is) = (let some = kept_first path (Some 1) e in cc)
missing_by path h (to_number key rest e taken cut text is) = (let some = kept_first path (Some key) e in cc)
missing_by path h (nowhere e is) = is

-- a path for which the router finds no row has no route
pub no_route_if_none_found : (path : List ℕ) → first route_rows path ≡ None → route_of path ≡ None
no_route_if_none_found path h = missing_by path h (leads path)

-- The route found for a path has UTF-8 parameters, and with them gives `route_of` of the path.
abbrev FindsRoute : (path : List ℕ) → RouteOf RouteKey → Type 0
FindsRoute path e =
    AllText (walk e.pattern e.text path e.names 0 0) ×
    (route_of path ≡ route_in e.value (named (codes "number") (walk e.pattern e.text path e.names 0 0)))

-- the route that the router found for a UTF-8 path has UTF-8 parameters, and with them gives `route_of` of the path
-- (`FindsRoute`), if `Leads` holds of the path
finds_route_if_leads : (path : List ℕ) (e : RouteOf RouteKey) → IsUtf8 path → first route_rows path ≡ Some e
    → Leads path → FindsRoute path e
finds_route_if_leads path e text h (to_join at utf8 is) =
    let same : kept_at 1 ≡ e = (let some = kept_first path (Some 1) at in cc) in
    subst (λ x. FindsRoute path x) same (tt, is)
finds_route_if_leads path e text h (to_number key rest at taken cut utf8 is) =
    let same : kept_at key ≡ e = (let some = kept_first path (Some key) at in cc) in
    subst (λ x. FindsRoute path x) same (rw taken (ascii_utf8 (codes "number") refl, cut text, tt), rw taken is)
finds_route_if_leads path e text h (nowhere at is) = (let none = kept_first path None at in cc)

finds_route : (path : List ℕ) (e : RouteOf RouteKey) → IsUtf8 path → first route_rows path ≡ Some e → FindsRoute path e
finds_route path e text h = finds_route_if_leads path e text h (leads path)

-- A lookup gives the text of the parameter `number` among the parameters taken from a path, or None if there is none.
-- This is so if all of them are UTF-8.
abbrev GetsParameter : {A : Type 0} → (A → List ℕ) → Option A → List (List ℕ × List ℕ) → Type 0
GetsParameter view r taken =
    AllText taken → MatchOption r (named number_text taken ≡ None) (λ text. named number_text taken ≡ Some (view text))

matched_text_is : {A : Type 0} (view : A → List ℕ) (r : Option A) (text : Option (List ℕ))
    → MatchOption r (text ≡ None) (λ x. text ≡ Some (view x)) → text ≡ option_map view r
matched_text_is view None text h = h
matched_text_is view (Some x) text h = h

-- For a UTF-8 path, the route made from the key that the router finds and the text of the parameter `number` is that of
-- `route_of`. `given` is the path, `e` what the router finds, `r` this parameter, if there is one, and `view` gives its
-- text.
pub found_route_is : {A : Type 0} (view : A → List ℕ) (r : Option A) (path given : List ℕ) (e : RouteOf RouteKey) (route : Option Route)
    → given ≡ path → IsUtf8 path → first route_rows path ≡ Some e
    → GetsParameter view r (walk e.pattern e.text given e.names 0 0) → route ≡ route_in e.value (option_map view r)
    → route ≡ route_of path
found_route_is view r path given e route same text at gets is =
    let says : FindsRoute path e = finds_route path e text at in
    let taken : GetsParameter view r (walk e.pattern e.text path e.names 0 0) = subst (λ l. GetsParameter view r (walk e.pattern e.text l e.names 0 0)) same gets in
    is
    ∙ ap (λ x. route_in e.value x) (sym (matched_text_is view r (named number_text (walk e.pattern e.text path e.names 0 0)) (taken says.0)))
    ∙ sym says.1

no_text_by : (path : List ℕ) → (IsUtf8 path → ⊥) → Leads path → route_of path ≡ None
no_text_by path h (to_join e text is) = absurd (h text)
no_text_by path h (to_number key rest e taken cut (inl none) is) = none
no_text_by path h (to_number key rest e taken cut (inr text) is) = absurd (h text)
no_text_by path h (nowhere e is) = is

-- a path that isn't UTF-8 has no route
pub no_route_without_utf8 : (path : List ℕ) → (IsUtf8 path → ⊥) → route_of path ≡ None
no_route_without_utf8 path h = no_text_by path h (leads path)
