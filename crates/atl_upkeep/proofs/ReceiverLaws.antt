-- Laws of the receivers of the sweep, the lowest-numbered unit with men of each faction in each region: the code's map
-- has them, and sweeping a unit leaves them the same. To note a unit is to enter it in the map, if it has men and its
-- faction has no receiver in its region there. `r` and `f` are the numbers of a region and of a faction.
use Rattle.std.proofs.Common.{◌≡◌, ◌≢◌, ◌==◌, ◌&&◌, ℕ, ◌≤◌, ◌<◌, Bool, true, false, cond, List, [], ◌∷◌, Option, Some, refl, sym, ap, subst, ◌∙◌, inl, inr, arith}
use Rattle.std.specs.Prelude.{nat_lt, unwrap_or, if◌then◌else◌}
use Rattle.std.proofs.lemmas.Bool.Decides.{nat_tests}
use Rattle.std.proofs.lemmas.Bool.{and_parts, cases_eq}
use Rattle.std.specs.Ordering.{nat_cmp}
use Rattle.std.specs.FinMap.{FinMap, empty, entries, get, get-empty, is_sorted}
use Rattle.std.specs.FinMap.Entries.{below_all}
use Rattle.atl_world.specs.Worlds.{WorldValue}
use Rattle.atl_world.specs.Sums.{numbers_among, numbers_where}
use Rattle.atl_world.proofs.SumLaws.{chosen-cons}
use Rattle.atl_world.specs.Groups.{group_of}
use Rattle.atl_records.specs.declared.records.Unit.{Unit}
use Rattle.atl_world.specs.Every.{Every}
use Rattle.atl_campaign.specs.Good.{IsSteady}
use Rattle.atl_campaign.specs.Owners.{first_or_zero}
use Rattle.atl_campaign.specs.Campaign.{CampaignValue}
use Rattle.atl_world.proofs.EveryLaws.{sorted}
use Rattle.atl_campaign.proofs.NumberListLaws.{IsListed, listed_passing, passing_listed}
use Rattle.atl_upkeep.specs.Receivers.{AreReceivers, ReceiverMap, or_if_zero, receiver_in, with_receiver, with_receiver_of}
use Rattle.atl_upkeep.specs.Sweep.{IsKept, after_sweeping_unit, receiver, receives}
use Rattle.atl_upkeep.proofs.SweepLaws.{first_listed}
use Rattle.atl_upkeep.proofs.SweepAllLaws.{swept_at_keeps, swept_at_leaves_well, units_left_were_there}
use Rattle.atl_shares.proofs.GroupedLaws.{get-grouped}
use Rattle.atl_world.proofs.GeneralLaws.{is_equal}
use Rattle.atl_world.proofs.EntryOrderLaws.{less_by_comparison}

-- ---- the first number whose value passes a test

-- `p` is a test of the values of a map, whose keys are numbers
module _ {V : Type 0} (p : V → Bool) where
  either_listed : {P : Type 0} (b : Bool) (n k : ℕ) (ns : List ℕ) → (k ≡ n → P) → (IsListed k ns → P)
      → IsListed k (cond b (n ∷ ns) ns) → P
  either_listed true n k ns here rest (inl same) = here same
  either_listed true n k ns here rest (inr h) = rest h
  either_listed false n k ns here rest h = rest h

  below_listed : (x k : ℕ) (es : List (ℕ × V)) → below_all nat_cmp x es ≡ true → IsListed k (numbers_among p es) → x < k
  below_listed x k [] low h = absurd h
  below_listed x k (e ∷ es) low h =
      either_listed (p e.1) e.0 k (numbers_among p es) (λ same. let l = less_by_comparison x e.0 (and_parts _ _ low).0 in omega (arith, same, l)) (below_listed x k es (and_parts _ _ low).1)
      (subst (IsListed k) (chosen-cons p e es) h)

  first_least : (k : ℕ) (es : List (ℕ × V)) → is_sorted nat_cmp es ≡ true → IsListed k (numbers_among p es)
      → first_or_zero (numbers_among p es) ≤ k
  first_least k [] s h = absurd h
  first_least k (e ∷ es) s h =
      subst (λ ns. first_or_zero ns ≤ k) (sym (chosen-cons p e es))
      (by_test (p e.1) (first_least k es (and_parts _ _ s).1) (below_listed e.0 k es (and_parts _ _ s).0) (subst (IsListed k) (chosen-cons p e es) h))
    where
      by_test : (b : Bool) → (IsListed k (numbers_among p es) → first_or_zero (numbers_among p es) ≤ k)
          → (IsListed k (numbers_among p es) → e.0 < k)
          → IsListed k (cond b (e.0 ∷ numbers_among p es) (numbers_among p es))
          → first_or_zero (cond b (e.0 ∷ numbers_among p es) (numbers_among p es)) ≤ k
      by_test true least above (inl same) = omega (arith, same)
      by_test true least above (inr rest) = let l = above rest in omega arith
      by_test false least above rest = least rest

  abbrev PassesIn : FinMap nat_cmp V → ℕ → Type 0
  PassesIn m k = (v : V) × (get m k ≡ Some v) × (p v ≡ true)

  -- If each number that passes in map `o` passes in map `m`, and some number passes in `o`, then the first in `m` is no
  -- greater than the first in `o`. This supposes that the numbers of `m` begin at 1.
  first_below : (m o : FinMap nat_cmp V) → Every (λ k v. 1 ≤ k) m → ((k : ℕ) → PassesIn o k → PassesIn m k)
      → first_or_zero (numbers_where p o) ≢ 0
      → (first_or_zero (numbers_where p m) ≢ 0) × (first_or_zero (numbers_where p m) ≤ first_or_zero (numbers_where p o))
  first_below m o low also some =
      let first = first_or_zero (numbers_where p o) in
      let (v, is, t) = also first (listed_passing p o first (first_listed (numbers_where p o) some)) in
      let listed = passing_listed p m first v is t in
      (there (numbers_where p m) (λ k h. let (x, at, u) = listed_passing p m k h in low k x at) first listed, first_least first (entries m) (sorted m) listed)
    where
      there : (ns : List ℕ) → ((k : ℕ) → IsListed k ns → 1 ≤ k) → (k : ℕ) → IsListed k ns → first_or_zero ns ≢ 0
      there [] least k h = absurd h
      there (n ∷ ns) least k h = let l = least n (inl refl) in λ zero. absurd (omega (arith, zero, l))

  -- if the same numbers pass the test in maps m and o, whose numbers begin at 1, the first of them is the same in both,
  -- or none
  pub same_first : (m o : FinMap nat_cmp V) → Every (λ k v. 1 ≤ k) m → Every (λ k v. 1 ≤ k) o
      → ((k : ℕ) → PassesIn o k → PassesIn m k) → ((k : ℕ) → PassesIn m k → PassesIn o k)
      → first_or_zero (numbers_where p m) ≡ first_or_zero (numbers_where p o)
  same_first m o low deep there back =
      elim (cases_eq (first_or_zero (numbers_where p m)) 0) [
        | inl none ↦
            elim (cases_eq (first_or_zero (numbers_where p o)) 0) [
              | inl also ↦ none ∙ sym also
              | inr some ↦ absurd ((first_below m o low there some).0 none)
            ]
        | inr some ↦ let (other, more) = first_below o m deep back some in let less = first_below m o low there other in omega (arith, more, less.1)
      ]

-- ---- while units are swept

-- `n` is the number of the unit that is swept
module _ (w : WorldValue) (c : CampaignValue) (n : ℕ) (steady : IsSteady w c) where
  passes_still : (region faction : ℕ) (u v : Unit) → IsKept u v → receives region faction u ≡ receives region faction v
  passes_still region faction u v kept = cc (kept.no_worse.region, kept.no_worse.faction, kept.men)

  has_men : (region faction : ℕ) (u : Unit) → receives region faction u ≡ true → 1 ≤ u.holding.men
  has_men region faction u t = grind (arith, nat_tests, t)

  -- sweeping a unit leaves the receiver of each faction in each region the same, in a steady campaign
  pub receiver_stays : (region faction : ℕ)
      → receiver (after_sweeping_unit c n) region faction ≡ receiver c region faction
  receiver_stays region faction =
      same_first (receives region faction) (after_sweeping_unit c n).units c.units
      (λ k v is. ((swept_at_leaves_well w c n steady).leaves_it.numbers.units k v is).0)
      (λ k v is. (steady.numbers.units k v is).0)
      (λ k h. let (u, is, t) = h in let (v, there, kept) = swept_at_keeps w c n steady k u is (has_men region faction u t) in (v, there, sym (passes_still region faction u v kept) ∙ t))
      (λ k h. let (v, is, t) = h in let (apart, (u, was, kept)) = units_left_were_there w c n steady k v is in (u, was, passes_still region faction u v kept ∙ t))

-- ---- receivers put into the map, unit by unit

-- `m` has the receivers noted so far. Unit `n`, which is `u`, is noted next, and `es` are the units after it, by
-- number. Units are numbered from 1 (`low`).
module _ (m : ReceiverMap) (n : ℕ) (u : Unit) (es : List (ℕ × Unit)) (low : 1 ≤ n) where
  -- the receiver of a faction in a region among the units that come after unit `n`; 0 where there is none
  abbrev after : (region faction : ℕ) → ℕ
  after r f = first_or_zero (numbers_among (receives r f) es)

  opened : (r f : ℕ) → first_or_zero (numbers_among (receives r f) ((n, u) ∷ es)) ≡ cond (receives r f u) n (after r f)
  opened r f =
      ap first_or_zero (chosen-cons (receives r f) (n, u) es)
      ∙ first_of_cond (receives r f u) (numbers_among (receives r f) es)
    where
      first_of_cond : (b : Bool) (ns : List ℕ) → first_or_zero (cond b (n ∷ ns) ns) ≡ cond b n (first_or_zero ns)
      first_of_cond b ns = grind arith

  -- Noting unit `n` for its faction in its region, if test `b` says so, makes unit `n` the receiver there, and leaves
  -- every other faction and region its receiver.
  noted : (b : Bool) (r f : ℕ) → receiver_in (if b then with_receiver m u.region u.faction n else m) r f
      ≡ unwrap_or (cond (b && ((u.region == r) && (u.faction == f))) (Some n) (get (group_of m r) f)) 0
  noted true r f = ap (λ o. unwrap_or o 0) (get-grouped m u.region u.faction n r f)
  noted false r f = refl

  -- Noting unit `n` keeps the receiver of each faction in each region: the one in the map, else the first that receives
  -- among the units not noted yet.
  pub noted_goes_on : (r f : ℕ) → or_if_zero (receiver_in (with_receiver_of m n u) r f) (after r f)
      ≡ or_if_zero (receiver_in m r f) (first_or_zero (numbers_among (receives r f) ((n, u) ∷ es)))
  noted_goes_on r f =
      ap (λ x. or_if_zero x (after r f)) (noted (nat_lt 0 u.holding.men && (receiver_in m u.region u.faction == 0)) r f)
      ∙ goes_on (u.region == r) (u.faction == f) (nat_lt 0 u.holding.men) (get (group_of m r) f) (receiver_in m u.region u.faction) (after r f)
      (λ region faction. ap (λ k. receiver_in m k f) (sym (is_equal u.region r region)) ∙ ap (receiver_in m u.region) (sym (is_equal u.faction f faction)))
      ∙ ap (or_if_zero (receiver_in m r f)) (sym (opened r f))
    where
      -- Noting unit `n` keeps the receiver of a faction in a region: `o`, which the map has, else `next`, the first of
      -- the units after `n`. Tests `p`, `q` and `k` say whether unit `n` is in the region, is of the faction, and has
      -- men. The map has receiver `x` for the faction of unit `n` in its region.
      goes_on : (p q k : Bool) (o : Option ℕ) (x next : ℕ) → (p ≡ true → q ≡ true → unwrap_or o 0 ≡ x)
          → or_if_zero (unwrap_or (cond ((k && (x == 0)) && (p && q)) (Some n) o) 0) next ≡ or_if_zero (unwrap_or o 0) (cond (p && (q && k)) n next)
      goes_on p q k o x next same = grind (arith, nat_tests, low)

-- Before any unit is noted the map m is empty. Then the receiver in it, else the first that receives of all units, is
-- the campaign's receiver, for each faction and region.
pub nothing_noted : (c : CampaignValue) (m : ReceiverMap) → m ≡ empty → (r f : ℕ)
    → or_if_zero (receiver_in m r f) (first_or_zero (numbers_among (receives r f) (entries c.units))) ≡ receiver c r f
nothing_noted c m none r f = rw (none, get-empty nat_cmp r, get-empty nat_cmp f) refl

-- Once all units are noted, and none is to come, the map m has the receivers of the campaign. For this the one in the
-- map, else the first that receives of the units to come, is the campaign's, for each faction and region.
pub all_noted : (c : CampaignValue) (m : ReceiverMap)
    → ((r f : ℕ) → or_if_zero (receiver_in m r f) (first_or_zero (numbers_among (receives r f) [])) ≡ receiver c r f)
    → AreReceivers c m
all_noted c m h r f = plain (receiver_in m r f) ∙ h r f
  where
    plain : (x : ℕ) → x ≡ or_if_zero x 0
    plain x = grind (arith, nat_tests)
