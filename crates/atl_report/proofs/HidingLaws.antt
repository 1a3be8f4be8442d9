-- Laws of the lists of units: the numbers gathered from a region's lists are those of the units that a faction sees
-- there.
-- `levels` has a region's lists of units by hiding level, the level of observation from which other factions see them.
-- `es` are pairs: each a level and its list, or a unit's number and the unit. `q` is the number that is asked for, and
-- `ns` a list of units' numbers. A set of numbers is a map from each of them to `tt`.
use Rattle.std.proofs.Common.{◌≡◌, ◌==◌, ℕ, Bool, true, false, cond, ◌&&◌, ◌||◌, nat_le, List, [], ◌∷◌, filter, map, Option, Some, None, is_some, unwrap_or, refl, sym, ap, ◌∙◌, inl, inr, arith}
use Rattle.std.specs.Prelude.{option_map, Result, Ok, Err, IfOk}
use Rattle.std.specs.Ordering.{nat_cmp, eq_by_cmp}
use Rattle.std.specs.Cmp.{nat_cmp_total, unsigned_tied}
use Rattle.std.specs.List.{filter_map, cons_option, list_any}
use Rattle.std.specs.Option.{option_map_or}
use Rattle.std.specs.FinMap.{FinMap, get, get-entries, get-empty, get-insert, insert, find, empty, entries}
use Rattle.std.proofs.lemmas.Bool.{false≢true, or_right}
use Rattle.std.proofs.lemmas.Bool.Decides.{nat_tests}
use Rattle.atl_world.specs.Sums.{numbers_among, numbers_where}
use Rattle.atl_world.specs.Worlds.{WorldValue}
use Rattle.atl_world.proofs.SumLaws.{chosen-cons}
use Rattle.atl_world.proofs.GeneralLaws.{key_itself, same_key, equal_itself}
use Rattle.atl_records.specs.declared.records.Unit.{Unit}
use Rattle.atl_world.specs.Every.{EachEntry}
use Rattle.atl_world.proofs.EveryLaws.{each-from_every}
use Rattle.atl_campaign.specs.Good.{guards}
use Rattle.atl_campaign.specs.Campaign.{CampaignValue, numbers_in_region, numbers_of_faction}
use Rattle.atl_lists.specs.Lists.{list_of}
use Rattle.atl_campaign.proofs.NumberListLaws.{IsListed, passing_listed, listed_passing}
use Rattle.atl_records.specs.Levels.{level_in_any}
use Rattle.atl_sight.specs.declared.watch.Watch.{Watch}
use Rattle.atl_sight.specs.declared.views.UnitView.{UnitView}
use Rattle.atl_sight.specs.Watching.{is_in, own_units_in, hiding_level, is_seen, is_seen_there}
use Rattle.atl_sight.specs.Units.{unit_view}
use Rattle.atl_report.specs.Sight.{seen_unit, unit_views}
use Rattle.atl_report.specs.Sites.{AreLevels, hides_at}
use Rattle.atl_report.specs.Gathering.{with_numbers, with_level, with_levels, numbers_seen}
use Rattle.atl_report.proofs.SightLaws.{chosen_numbers, values_looked_up}
use mathlib.Core.Bool.{and-true, and-false}

-- ---- whether a number is listed

-- whether a number is on a list
abbrev pub is_listed : ℕ → List ℕ → Bool
is_listed q ns = list_any (λ n. eq_by_cmp nat_cmp q n) ns

same_truth : (a b : Bool) → (a ≡ true → b ≡ true) → (b ≡ true → a ≡ true) → a ≡ b
same_truth true b f g = sym (f refl)
same_truth false true f g = g refl
same_truth false false f g = refl

-- the first number of a list, or a later one, is listed: for `listed_if`
listed_cons : (q n : ℕ) (ns : List ℕ) (b : Bool) → eq_by_cmp nat_cmp q n ≡ b → (is_listed q ns ≡ true → IsListed q ns)
    → (b || is_listed q ns) ≡ true → IsListed q (n ∷ ns)
listed_cons q n ns true is rest h = inl (same_key q n is)
listed_cons q n ns false is rest h = inr (rest h)

listed_if : (q : ℕ) (ns : List ℕ) → is_listed q ns ≡ true → IsListed q ns
listed_if q [] h = absurd (false≢true h)
listed_if q (n ∷ ns) h = listed_cons q n ns (eq_by_cmp nat_cmp q n) refl (listed_if q ns) h

if_listed : (q : ℕ) (ns : List ℕ) → IsListed q ns → is_listed q ns ≡ true
if_listed q [] h = absurd h
if_listed q (n ∷ ns) (inl same) =
    ap (λ k. eq_by_cmp nat_cmp q k || is_listed q ns) (sym same) ∙ ap (λ b. b || is_listed q ns) (key_itself q)
if_listed q (n ∷ ns) (inr rest) = or_right (eq_by_cmp nat_cmp q n) (is_listed q ns) (if_listed q ns rest)

-- a number of a list passes the test `p`, if it is the number `q` for which this is known: for `listed-filter`
filtered : (p : ℕ → Bool) (q n : ℕ) (ns : List ℕ) (b t : Bool) → eq_by_cmp nat_cmp q n ≡ b → p n ≡ t
    → is_listed q (filter p ns) ≡ (p q && is_listed q ns)
    → is_listed q (cond t (n ∷ filter p ns) (filter p ns)) ≡ (p q && (b || is_listed q ns))
filtered p q n ns true true is t rest =
    ap (λ b. b || is_listed q (filter p ns)) is ∙ sym (ap (λ b. b && true) (ap p (same_key q n is) ∙ t))
filtered p q n ns true false is t rest =
    rest ∙ ap (λ b. b && is_listed q ns) (ap p (same_key q n is) ∙ t)
    ∙ sym (ap (λ b. b && true) (ap p (same_key q n is) ∙ t))
filtered p q n ns false true is t rest = ap (λ b. b || is_listed q (filter p ns)) is ∙ rest
filtered p q n ns false false is t rest = rest

-- a number is on a filtered list exactly if it passes the test and is on the list
listed-filter : (p : ℕ → Bool) (q : ℕ) (ns : List ℕ) → is_listed q (filter p ns) ≡ (p q && is_listed q ns)
listed-filter p q [] = none (p q)
  where
    none : (a : Bool) → false ≡ (a && false)
    none true = refl
    none false = refl
listed-filter p q (n ∷ ns) = filtered p q n ns (eq_by_cmp nat_cmp q n) (p n) refl refl (listed-filter p q ns)

-- `p` is a test of the values of map `m`, and `q` is the number that is looked up
module _ {V : Type 0} (p : V → Bool) (m : FinMap nat_cmp V) (q : ℕ) where
  passes : (o : Option V) → get m q ≡ o → is_listed q (numbers_where p m) ≡ true → option_map_or p o false ≡ true
  passes o is h =
      let (v, at, t) = listed_passing p m q (listed_if q (numbers_where p m) h) in
      ap (λ o. option_map_or p o false) (sym is ∙ at) ∙ t

  passed : (o : Option V) → get m q ≡ o → option_map_or p o false ≡ true → is_listed q (numbers_where p m) ≡ true
  passed None is h = absurd (false≢true h)
  passed (Some v) is h = if_listed q (numbers_where p m) (passing_listed p m q v is h)

  -- a number is on the list of those whose values pass exactly if it has a value that passes
  listed-where : is_listed q (numbers_where p m) ≡ option_map_or p (get m q) false
  listed-where =
      same_truth (is_listed q (numbers_where p m)) (option_map_or p (get m q) false) (passes (get m q) refl)
      (passed (get m q) refl)

-- ---- the numbers gathered

one_or_other : (a b : Bool) (o : Option (Prim.Unit {0}))
    → cond a (Some tt) (cond b (Some tt) o) ≡ cond (b || a) (Some tt) o
one_or_other true true o = refl
one_or_other true false o = refl
one_or_other false true o = refl
one_or_other false false o = refl

-- a set with the numbers of a list added has those of the list and its own
get-with_numbers : (q : ℕ) (ns : List ℕ) (seen : FinMap nat_cmp (Prim.Unit {0}))
    → get (with_numbers seen ns) q ≡ cond (is_listed q ns) (Some tt) (get seen q)
get-with_numbers q [] seen = refl
get-with_numbers q (n ∷ ns) seen =
    get-with_numbers q ns (insert seen n tt)
    ∙ ap (cond (is_listed q ns) (Some tt)) (get-insert nat_cmp_total seen n tt q)
    ∙ one_or_other (is_listed q ns) (eq_by_cmp nat_cmp q n) (get seen q)

-- whether a number is on one of some lists whose level is at most the given level of observation
abbrev is_within : ℕ → ℕ → List (ℕ × List ℕ) → Bool
is_within q observation es = list_any (λ e. nat_le e.0 observation && is_listed q e.1) es

-- a set with the numbers of a list added, if its level is at most the given one, has those and its own
get-with_level : (q observation : ℕ) (seen : FinMap nat_cmp (Prim.Unit {0})) (level : ℕ) (ns : List ℕ)
    → get (with_level observation seen level ns) q
    ≡ cond (nat_le level observation && is_listed q ns) (Some tt) (get seen q)
get-with_level q observation seen level ns =
    elim (nat_le level observation) as
    (λ b. get (cond b (with_numbers seen ns) seen) q ≡ cond (b && is_listed q ns) (Some tt) (get seen q)) [
      | true ↦ get-with_numbers q ns seen
      | false ↦ refl
    ]

-- a set with the numbers of those lists added whose level is at most the given one has those and its own
get-with_levels : (q observation : ℕ) (es : List (ℕ × List ℕ)) (seen : FinMap nat_cmp (Prim.Unit {0}))
    → get (with_levels observation seen es) q ≡ cond (is_within q observation es) (Some tt) (get seen q)
get-with_levels q observation [] seen = refl
get-with_levels q observation (e ∷ es) seen =
    get-with_levels q observation es (with_level observation seen e.0 e.1)
    ∙ ap (cond (is_within q observation es) (Some tt)) (get-with_level q observation seen e.0 e.1)
    ∙ one_or_other (is_within q observation es) (nat_le e.0 observation && is_listed q e.1) (get seen q)

-- ---- who is seen

-- `q` is the number of a unit, `hides` its hiding level, and `observation` a level of observation; `here` says whether
-- the unit is in the watched region
module _ (q observation hides : ℕ) (here : Bool) where
  first_or_later : (level : ℕ) (ns : List ℕ) (b found : Bool) → eq_by_cmp nat_cmp hides level ≡ b
      → is_listed q ns ≡ ((hides == level) && here)
      → ((nat_le level observation && is_listed q ns) || (nat_le hides observation && (here && found))) ≡ (nat_le hides observation && (here && (b || found)))
  first_or_later level ns true found is listed =
      let same : (hides == level) ≡ true = ap (λ k. hides == k) (sym (same_key hides level is)) ∙ equal_itself hides in
      ap (λ k. (nat_le k observation && is_listed q ns) || (nat_le hides observation && (here && found))) (sym (same_key hides level is))
      ∙ ap (λ b. (nat_le hides observation && b) || (nat_le hides observation && (here && found))) (listed ∙ ap (λ b. b && here) same)
      ∙ both (nat_le hides observation) here found
    where
      both : (a b c : Bool) → ((a && b) || (a && (b && c))) ≡ (a && (b && true))
      both true true c = refl
      both true false c = refl
      both false b c = refl
  first_or_later level ns false found is listed =
      let other : (hides == level) ≡ false = sym (unsigned_tied hides level) ∙ is in
      ap (λ b. (nat_le level observation && b) || (nat_le hides observation && (here && found))) (listed ∙ ap (λ b. b && here) other)
      ∙ ap (λ b. b || (nat_le hides observation && (here && found))) (and-false (nat_le level observation))

  -- a number that is on just the list of the level at which it hides is on one of the lists up to a level of
  -- observation exactly if there is this list, and its level is at most that
  within_one : (es : List (ℕ × List ℕ)) → EachEntry (λ level ns. is_listed q ns ≡ ((hides == level) && here)) es
      → is_within q observation es ≡ (nat_le hides observation && (here && is_some (find nat_cmp hides es)))
  within_one [] h = nothing (nat_le hides observation) here
    where
      nothing : (a b : Bool) → false ≡ (a && (b && false))
      nothing true true = refl
      nothing true false = refl
      nothing false b = refl
  within_one (e ∷ es) h =
      ap (λ b. (nat_le e.0 observation && is_listed q e.1) || b) (within_one es h.1)
      ∙ first_or_later e.0 e.1 (eq_by_cmp nat_cmp hides e.0) (is_some (find nat_cmp hides es)) refl h.0
      ∙ ap (λ b. nat_le hides observation && (here && b)) (chosen (eq_by_cmp nat_cmp hides e.0) e.1 (find nat_cmp hides es))
    where
      chosen : (b : Bool) (ns : List ℕ) (o : Option (List ℕ)) → (b || is_some o) ≡ is_some (cond b (Some ns) o)
      chosen true ns o = refl
      chosen false ns o = refl

  -- the list of the level at which the number hides is there, if the number is on it
  has_list : (levels : FinMap nat_cmp (List ℕ)) (o : Option (List ℕ)) → get levels hides ≡ o
      → is_listed q (list_of levels hides) ≡ ((hides == hides) && here) → (here && is_some o) ≡ here
  has_list levels (Some ns) is listed = and-true here
  has_list levels None is listed =
      let empty_list : is_listed q (list_of levels hides) ≡ false = ap (λ o. is_listed q (unwrap_or o [])) is in
      let nowhere : here ≡ false = sym (ap (λ b. b && here) (equal_itself hides)) ∙ sym listed ∙ empty_list in
      and-false here ∙ sym nowhere

-- a number that is on no list is on none up to a level of observation
none_within : (q observation : ℕ) (es : List (ℕ × List ℕ)) → EachEntry (λ level ns. is_listed q ns ≡ false) es
    → is_within q observation es ≡ false
none_within q observation [] h = refl
none_within q observation (e ∷ es) h =
    ap (λ b. (nat_le e.0 observation && b) || is_within q observation es) h.0
    ∙ ap (λ b. b || is_within q observation es) (and-false (nat_le e.0 observation))
    ∙ none_within q observation es h.1

-- a unit's hiding level is at most a level of observation exactly if it guards, or its level of stealth is at most that
hidden_or_not : (g : Bool) (stealth observation : ℕ)
    → nat_le (cond g 0 stealth) observation ≡ (g || nat_le stealth observation)
hidden_or_not true stealth observation = grind (arith, nat_tests)
hidden_or_not false stealth observation = refl

-- For `seen_there`: whether a unit is seen, from whether it is in the region (r), the faction's (f), and hides at most
-- at the level of observation (l).
seen_by_parts : (r f l : Bool) → ((r && f) || (l && r)) ≡ (r && (f || l))
seen_by_parts true true l = refl
seen_by_parts true false true = refl
seen_by_parts true false false = refl
seen_by_parts false f true = refl
seen_by_parts false f false = refl

-- replaces a unit by `tt`, the only value of the unit type
abbrev forget_unit : Unit → Prim.Unit {0}
forget_unit u = tt

-- `watch` is a faction's watch in a region, and `levels` has for each hiding level the list of the region's units that
-- have it (`are`)
module _ (w : WorldValue) (c : CampaignValue) (watch : Watch) (levels : FinMap nat_cmp (List ℕ)) (are : AreLevels w c watch.region levels) where
  -- whether a unit of a number is seen in the region
  abbrev seen_at : ℕ → Bool
  seen_at n = is_seen_there w watch (get c.units n)

  -- a number is on a level's list exactly if its unit has this hiding level and is in the region
  listed_at : (q level : ℕ)
      → is_listed q (list_of levels level) ≡ (hides_at w level (get c.units q) && is_in watch.region (get c.units q))
  listed_at q level =
      ap (is_listed q) (are level)
      ∙ listed-filter (λ n. hides_at w level (get c.units n)) q (numbers_in_region watch.region c.units)
      ∙ ap (λ b. hides_at w level (get c.units q) && b) (listed-where (λ (u : Unit). u.region == watch.region) c.units q)

  -- a number is on the faction's list exactly if its unit is in the region and the faction's
  listed_own : (q : ℕ)
      → is_listed q (own_units_in c watch.faction watch.region)
      ≡ (is_in watch.region (get c.units q) && option_map_or (λ u. u.faction == watch.faction) (get c.units q) false)
  listed_own q =
      listed-filter (λ n. is_in watch.region (get c.units n)) q (numbers_of_faction watch.faction c.units)
      ∙ ap (λ b. is_in watch.region (get c.units q) && b) (listed-where (λ (u : Unit). u.faction == watch.faction) c.units q)

  -- a number is on a list up to the level of observation, or on the faction's, exactly if its unit is seen there
  seen_there : (q : ℕ) (o : Option Unit) → get c.units q ≡ o
      → cond (is_listed q (own_units_in c watch.faction watch.region) || is_within q watch.observation (entries levels)) (Some tt) None
      ≡ cond (is_seen_there w watch o) (option_map forget_unit o) None
  seen_there q None is =
      let own : is_listed q (own_units_in c watch.faction watch.region) ≡ false = listed_own q ∙ ap (λ o. is_in watch.region o && option_map_or (λ u. u.faction == watch.faction) o false) is in
      let each : EachEntry (λ level ns. is_listed q ns ≡ false) (entries levels) = each-from_every (λ level ns. is_listed q ns ≡ false) levels (λ level ns at. sym (ap (λ o. is_listed q (unwrap_or o [])) at) ∙ listed_at q level ∙ ap (λ o. hides_at w level o && is_in watch.region o) is) in
      ap (λ b. cond (b || is_within q watch.observation (entries levels)) (Some tt) None) own
      ∙ ap (λ b. cond b (Some tt) None) (none_within q watch.observation (entries levels) each)
  seen_there q (Some u) is =
      let hides = hiding_level w u in
      let here = u.region == watch.region in
      let own : is_listed q (own_units_in c watch.faction watch.region) ≡ (here && (u.faction == watch.faction)) = listed_own q ∙ ap (λ o. is_in watch.region o && option_map_or (λ u. u.faction == watch.faction) o false) is in
      let at_level : (level : ℕ) → is_listed q (list_of levels level) ≡ ((hides == level) && here) = λ level. listed_at q level ∙ ap (λ o. hides_at w level o && is_in watch.region o) is in
      let each : EachEntry (λ level ns. is_listed q ns ≡ ((hides == level) && here)) (entries levels) = each-from_every (λ level ns. is_listed q ns ≡ ((hides == level) && here)) levels (λ level ns at. sym (ap (λ o. is_listed q (unwrap_or o [])) at) ∙ at_level level) in
      let within : is_within q watch.observation (entries levels) ≡ (nat_le hides watch.observation && here) =
      within_one q watch.observation hides here (entries levels) each
      ∙ ap (λ o. nat_le hides watch.observation && (here && is_some o)) (sym (get-entries levels hides))
      ∙ ap (λ b. nat_le hides watch.observation && b) (has_list q watch.observation hides here levels (get levels hides) refl (at_level hides)) in
      ap (λ b. cond (b || is_within q watch.observation (entries levels)) (Some tt) None) own
      ∙ ap (λ b. cond ((here && (u.faction == watch.faction)) || b) (Some tt) None) within
      ∙ ap (λ b. cond b (Some tt) None) (seen_by_parts here (u.faction == watch.faction) (nat_le hides watch.observation))
      ∙ ap (λ b. cond (here && ((u.faction == watch.faction) || b)) (Some tt) None) (hidden_or_not (guards u) (level_in_any u.holding w.rules.stealth) watch.observation)

  -- the numbers gathered from a region's lists are those of the units that the faction sees there, in ascending order
  pub entries-numbers_seen : entries (numbers_seen (own_units_in c watch.faction watch.region) levels watch.observation)
      ≡ map (λ e. (e.0, tt)) (filter (λ e. is_seen_there w watch (get c.units e.0)) (entries c.units))
  entries-numbers_seen = chosen_numbers c.units seen_at (numbers_seen (own_units_in c watch.faction watch.region) levels watch.observation) (λ q.
      get-with_levels q watch.observation (entries levels) (with_numbers empty (own_units_in c watch.faction watch.region))
      ∙ ap (cond (is_within q watch.observation (entries levels)) (Some tt)) (get-with_numbers q (own_units_in c watch.faction watch.region) empty ∙ ap (cond (is_listed q (own_units_in c watch.faction watch.region)) (Some tt)) (get-empty nat_cmp q))
      ∙ one_or_other (is_within q watch.observation (entries levels)) (is_listed q (own_units_in c watch.faction watch.region)) None
      ∙ seen_there q (get c.units q) refl)

-- ---- the views

-- `watch` is a faction's watch in a region
module _ (w : WorldValue) (c : CampaignValue) (watch : Watch) where
  -- the views of the units of some pairs
  abbrev views : List (ℕ × Unit) → List UnitView
  views = map (λ (e : ℕ × Unit). unit_view c watch.faction e.0 e.1)

  -- those pairs whose units are seen in the region
  abbrev seen : List (ℕ × Unit) → List (ℕ × Unit)
  seen = filter (λ e. is_seen_there w watch (get c.units e.0))

  -- the views of those units of some numbers that are seen
  abbrev shown : List ℕ → List UnitView
  shown = filter_map (λ n. seen_unit w c watch n (get c.units n))

  -- for `seen_of`: the next pair, whose unit is in the region (r) and seen (s), or isn't
  next_seen : (e : ℕ × Unit) (es : List (ℕ × Unit)) (ns : List ℕ) (r s : Bool) → views (seen es) ≡ shown ns
      → views (cond (r && s) (e ∷ seen es) (seen es))
      ≡ cond r (cons_option (cond s (Some (unit_view c watch.faction e.0 e.1)) None) (shown ns)) (shown ns)
  next_seen e es ns true true h = ap (λ l. unit_view c watch.faction e.0 e.1 ∷ l) h
  next_seen e es ns true false h = h
  next_seen e es ns false s h = h

  -- for `seen_of`: the views of numbers, of which the next is in the region (r) or isn't
  next_shown : (n : ℕ) (ns : List ℕ) (r : Bool) (o : Option Unit) → get c.units n ≡ o
      → cond r (cons_option (seen_unit w c watch n o) (shown ns)) (shown ns) ≡ shown (cond r (n ∷ ns) ns)
  next_shown n ns true o is = ap (λ o. cons_option (seen_unit w c watch n o) (shown ns)) (sym is)
  next_shown n ns false o is = refl

  -- the views of those of some pairs that are seen in the region are those of the numbers of units there
  seen_of : (es : List (ℕ × Unit)) → EachEntry (λ n u. get c.units n ≡ Some u) es
      → views (seen es) ≡ shown (numbers_among (λ (u : Unit). u.region == watch.region) es)
  seen_of [] h = refl
  seen_of (e ∷ es) h =
      let ns = numbers_among (λ (u : Unit). u.region == watch.region) es in
      ap (λ o. views (cond (is_seen_there w watch o) (e ∷ seen es) (seen es))) h.0
      ∙ next_seen e es ns (e.1.region == watch.region) (is_seen w watch e.1) (seen_of es h.1)
      ∙ next_shown e.0 ns (e.1.region == watch.region) (Some e.1) h.0
      ∙ ap shown (sym (chosen-cons (λ (u : Unit). u.region == watch.region) e es))

-- to look up the units seen in the watched region by number, and to view each, gives the views of the units seen there
pub views_of_seen : (w : WorldValue) (c : CampaignValue) (watch : Watch)
    → filter_map (λ (e : ℕ × Prim.Unit {0}). option_map (unit_view c watch.faction e.0) (get c.units e.0)) (map (λ e. (e.0, tt)) (filter (λ e. is_seen_there w watch (get c.units e.0)) (entries c.units)))
    ≡ unit_views w c watch
views_of_seen w c watch =
    values_looked_up c.units (unit_view c watch.faction) (λ (e : ℕ × Unit). is_seen_there w watch (get c.units e.0))
    ∙ seen_of w c watch (entries c.units) (each-from_every (λ n u. get c.units n ≡ Some u) c.units (λ n u is. is))

-- ---- what the functions ask

-- Let the code's result `r`, if it is Ok, be the set gathered from the faction's units in the watched region (`own`),
-- and from the region's lists up to the watch's level (`levels`). It has just the numbers of the units seen there.
pub gathered_are_seen : {E : Type 0} (r : Result (FinMap nat_cmp (Prim.Unit {0})) E) (w : WorldValue) (c : CampaignValue) (watch : Watch) (own : List ℕ) (levels : FinMap nat_cmp (List ℕ))
    → AreLevels w c watch.region levels → own ≡ own_units_in c watch.faction watch.region
    → IfOk r (λ seen. seen ≡ numbers_seen own levels watch.observation)
    → IfOk r (λ seen. entries seen ≡ map (λ e. (e.0, tt)) (filter (λ e. is_seen_there w watch (get c.units e.0)) (entries c.units)))
gathered_are_seen (Ok seen) w c watch own levels are is gathered =
    ap entries (gathered ∙ ap (λ ns. numbers_seen ns levels watch.observation) is)
    ∙ entries-numbers_seen w c watch levels are
gathered_are_seen (Err e) w c watch own levels are is gathered = tt
