-- Laws that each pot has enough for all shares that units draw from it, one unit after the other. A unit draws from a
-- pot if its share is taken off what is left of the pot. Shares are pairs (unit, share): `e` is the first, and `es` are
-- the others. `ns` are numbers of units, and `k`, where it is of type `K`, is the key of a pot.
use Rattle.std.proofs.Common.{◌≡◌, ◌≢◌, ℕ, ◌+◌, ◌<◌, ◌≤◌, ◌==◌, Bool, true, false, cond, List, [], ◌∷◌, map, sum, Some, refl, sym, ap, subst, ◌∙◌, inl, inr, arith}
use Rattle.std.specs.Prelude.{min, unwrap_or}
use Rattle.std.specs.List.{AllByRecursion}
use Rattle.std.specs.Ordering.{nat_cmp}
use Rattle.std.specs.FinMap.{FinMap, entries, get, insert}
use Rattle.std.proofs.lemmas.Bool.{cases_eq, eqb-true}
use Rattle.std.proofs.lemmas.List.Sums.{sum_by-cons}
use Rattle.std.proofs.Math.Nat.{add-zero}
use Rattle.atl_world.specs.Worlds.{WorldValue}
use Rattle.atl_records.specs.declared.records.Region.{Region}
use Rattle.atl_records.specs.declared.records.Unit.{Unit}
use Rattle.atl_world.specs.Every.{EachEntry, HasValue}
use Rattle.atl_campaign.specs.Good.{IsEarly}
use Rattle.atl_campaign.specs.Campaign.{CampaignValue, region_changed}
use Rattle.atl_campaign.proofs.ReadBackLaws.{Rise, entries_rise}
use Rattle.atl_world.proofs.EveryLaws.{each-from_every, get-insert_other, other_number, same_number}
use Rattle.atl_campaign.proofs.RegionLaws.{changed-known, get-insert_same}
use Rattle.atl_pots.specs.Pots.{amount_given, pot_shares, takers_in, wants_in}
use Rattle.atl_pots.proofs.PotLaws.{IsRisen, gives_each_pot, only_takers_get, taker_listed, takers_risen}
use Rattle.atl_market.specs.AtOnce.{is_in_region}
use Rattle.atl_campaign.proofs.NumberListLaws.{IsListed}

listed_is_above : (n : ℕ) (ns : List ℕ) → AllByRecursion (λ k. n < k) ns → (k : ℕ) → IsListed k ns → n < k
listed_is_above n [] h k is = absurd is
listed_is_above n (m ∷ ns) h k (inl same) = subst (λ j. n < j) (sym same) h.0
listed_is_above n (m ∷ ns) h k (inr rest) = listed_is_above n ns h.1 k rest

above_head_is_in_tail : (k n : ℕ) (ns : List ℕ) → n < k → IsListed k (n ∷ ns) → IsListed k ns
above_head_is_in_tail k n ns above is = elim is [ inl same ↦ absurd (omega (arith, above, same)) | inr rest ↦ rest ]

other_than_head_is_in_tail : (k n : ℕ) (ns : List ℕ) → k ≢ n → IsListed k (n ∷ ns) → IsListed k ns
other_than_head_is_in_tail k n ns apart is = elim is [ inl same ↦ absurd (apart same) | inr rest ↦ rest ]

-- what holds of each number and share of a list (`EachEntry`) holds of each as a pair (`AllByRecursion`)
pub all_pairs : (P : ℕ × ℕ → Type 0) (es : List (ℕ × ℕ)) → EachEntry (λ n share. P (n, share)) es → AllByRecursion P es
all_pairs P [] h = tt
all_pairs P (e ∷ es) h = (h.0, all_pairs P es h.1)

-- ---- what is drawn from one pot

-- a test on the numbers of units: which of them draw from a pot
abbrev pub Drawers : Type 0
Drawers = ℕ → Bool

-- `draws` tells which units draw from one pot; `e` and `es` are shares, as pairs (unit, share)
module _ (draws : Drawers) where
  -- the sum of those shares whose units draw from the pot
  abbrev pub drawn : List (ℕ × ℕ) → ℕ
  drawn [] = 0
  drawn (e ∷ es) = cond (draws e.0) e.1 0 + drawn es

  -- `amount` gives a share for each unit, by the unit's number
  module _ (amount : ℕ → ℕ) where
    -- if the unit of a pair (unit, share) draws from the pot, the unit is on a list, and the share is what `amount` has
    -- for it
    abbrev pub DrawsItsAmount : List ℕ → ℕ × ℕ → Type 0
    DrawsItsAmount ns e = draws e.0 ≡ true → IsListed e.0 ns × (amount e.0 ≡ e.1)

    listed_above : (n : ℕ) (ns : List ℕ) (es : List (ℕ × ℕ)) → AllByRecursion (λ f. n < f.0) es
        → AllByRecursion (DrawsItsAmount (n ∷ ns)) es → AllByRecursion (DrawsItsAmount ns) es
    listed_above n ns [] above all = tt
    listed_above n ns (f ∷ es) above all =
        (λ draws. let (is, same) = all.0 draws in (above_head_is_in_tail f.0 n ns above.0 is, same), listed_above n ns es above.1 all.1)

    lower : (n k : ℕ) (es : List (ℕ × ℕ)) → n ≤ k → AllByRecursion (λ f. k < f.0) es → AllByRecursion (λ f. n < f.0) es
    lower n k [] low above = tt
    lower n k (f ∷ es) low above = (omega (arith, low, above.0), lower n k es low above.1)

    none_first : (rest : ℕ) → rest ≡ 0 → 0 + rest ≡ 0
    none_first rest h = omega (arith, h)

    nothing_drawn : (es : List (ℕ × ℕ)) → AllByRecursion (DrawsItsAmount []) es → drawn es ≡ 0
    nothing_drawn [] all = refl
    nothing_drawn (e ∷ es) all =
        elim (draws e.0) as (λ b. draws e.0 ≡ b → cond b e.1 0 + drawn es ≡ 0) [
          | true ↦ λ is. absurd (all.0 is).0
          | false ↦ λ _. none_first (drawn es) (nothing_drawn es all.1)
        ] refl

    both : (mine rest others all : ℕ) → rest ≤ others → all ≡ mine + others → mine + rest ≤ all
    both mine rest others all h e = omega (arith, h, e)

    none_of : (rest all : ℕ) → rest ≤ all → 0 + rest ≤ all
    none_of rest all h = omega (arith, h)

    skipped : (drawing others first all : ℕ) → drawing ≤ others → all ≡ first + others → drawing ≤ all
    skipped drawing others first all h e = omega (arith, h, e)

    -- if the drawing units of sorted shares are on the sorted list `ns`, with their amounts as shares
    -- (`DrawsItsAmount`), they draw at most the sum of the amounts of `ns`
    abbrev DrawAtMostTheirAmounts : List ℕ → Type 0
    DrawAtMostTheirAmounts ns =
        (es : List (ℕ × ℕ)) → IsRisen ns → Rise es → AllByRecursion (DrawsItsAmount ns) es → drawn es ≤ sum
        (map amount ns)

    with_first : (n : ℕ) (ns : List ℕ) → DrawAtMostTheirAmounts ns → (es : List (ℕ × ℕ)) → IsRisen (n ∷ ns) → Rise es
        → AllByRecursion (DrawsItsAmount (n ∷ ns)) es → drawn es ≤ sum (map amount (n ∷ ns))
    with_first n ns rest [] up rise all = omega arith
    with_first n ns rest (e ∷ es) up rise all =
        let split : sum (map amount (n ∷ ns)) ≡ amount n + sum (map amount ns) = sum_by-cons (λ x. x) (amount n) (map amount ns) in
        elim (draws e.0) as (λ b. draws e.0 ≡ b → cond b e.1 0 + drawn es ≤ sum (map amount (n ∷ ns))) [
          | true ↦ λ is. elim (cases_eq e.0 n) [
            | inl same ↦
                let tail = listed_above n ns es (lower n e.0 es (omega (arith, same)) rise.0) all.1 in
                both e.1 (drawn es) (sum (map amount ns)) (sum (map amount (n ∷ ns))) (rest es up.1 rise.1 tail) (split ∙ ap (λ a. a + sum (map amount ns)) (ap amount (sym same) ∙ (all.0 is).1))
            | inr apart ↦
                let here = other_than_head_is_in_tail e.0 n ns apart (all.0 is).0 in
                let low : n < e.0 = listed_is_above n ns up.0 e.0 here in
                let tail = listed_above n ns es (lower n e.0 es (omega (arith, low)) rise.0) all.1 in
                let less = rest (e ∷ es) up.1 rise (λ _. (here, (all.0 is).1), tail) in
                skipped (e.1 + drawn es) (sum (map amount ns)) (amount n) (sum (map amount (n ∷ ns))) (subst (λ b. cond b e.1 0 + drawn es ≤ sum (map amount ns)) is less) split
          ]
          | false ↦ λ _. none_of (drawn es) (sum (map amount (n ∷ ns))) (with_first n ns rest es up rise.1 all.1)
        ] refl

    -- For each rising list `ns` of units and rising list of shares: if each unit that draws from the pot is on `ns`,
    -- with its amount as share, the shares drawn are at most the sum of the amounts of `ns`. Some units may draw
    -- nothing.
    pub drawn_among : (ns : List ℕ) → DrawAtMostTheirAmounts ns
    drawn_among [] es up rise all = let none = nothing_drawn es all in omega (arith, none)
    drawn_among (n ∷ ns) es up rise all = with_first n ns (drawn_among ns) es up rise all

-- ---- one unit draws after the other

-- Pots by a key, such as a region, or a region and an item: the region of each (`pot_region`), which units draw from it
-- (`draws`), and what is left of it in a region (`left`).
pub record DrawnPots (K : Type 0) : Type 0 where
  pub pot_region : K → ℕ
  pub draws : K → Drawers
  pub left : K → Region → ℕ

-- `d` is a campaign in which the shares `e` and `es`, pairs (unit, share), are still to be drawn from the pots
module _ {K : Type 0} (pots : DrawnPots K) where
  -- in a campaign each pot of a region that is there holds at least the sum of the shares whose units draw from it
  abbrev pub HaveEnough : CampaignValue → List (ℕ × ℕ) → Type 0
  HaveEnough d es =
      (k : K) (q : Region) → get d.regions (pots.pot_region k) ≡ Some q → drawn (pots.draws k) es ≤ pots.left k q

  -- From campaign `d` to `after` the pots from which the unit of `e` draws lose its share, and all others keep what
  -- they have. This holds of each pot whose region is in `after`; that region was in `d`.
  abbrev pub Drains : CampaignValue → ℕ × ℕ → CampaignValue → Type 0
  Drains d e after =
      (k : K) (x : Region) → get after.regions (pots.pot_region k) ≡ Some x
      → (q : Region) × (get d.regions (pots.pot_region k) ≡ Some q) × (pots.left k x + cond (pots.draws k e.0) e.1 0 ≡ pots.left k q)

  -- `e` and then `es` are the shares still to be drawn, as pairs (unit, share); the pots of `d` have enough for them
  module _ (d : CampaignValue) (e : ℕ × ℕ) (es : List (ℕ × ℕ)) (enough : HaveEnough d (e ∷ es)) where
    -- the first share is at most what is left of each pot that its unit draws from, if the region of the pot is in `d`
    pub first_draws : (k : K) (q : Region) → get d.regions (pots.pot_region k) ≡ Some q → pots.draws k e.0 ≡ true
        → e.1 ≤ pots.left k q
    first_draws k q around mine =
        at_least (pots.left k q)
        (subst (λ b. cond b e.1 0 + drawn (pots.draws k) es ≤ pots.left k q) mine (enough k q around))
      where
        at_least : (all : ℕ) → e.1 + drawn (pots.draws k) es ≤ all → e.1 ≤ all
        at_least all h = omega (arith, h)

    -- after the first share is drawn (`Drains`), what is left of each pot is enough for the later shares
    pub others_draw : (after : CampaignValue) → Drains d e after → HaveEnough after es
    others_draw after drains k x is =
        let (q, around, less) = drains k x is in
        left_over (cond (pots.draws k e.0) e.1 0) (drawn (pots.draws k) es) (pots.left k x) (pots.left k q) (enough k q around) less
      where
        left_over : (share rest less all : ℕ) → share + rest ≤ all → less + share ≡ all → rest ≤ less
        left_over share rest less all h k = omega (arith, h, k)

  -- `e` is a unit's number with the share that it draws; `d` is the campaign before, and `after` the one after
  module _ (d : CampaignValue) (e : ℕ × ℕ) (after : CampaignValue) where
    -- All pots lose just what a unit draws (`Drains`), if region `r` alone changes, from `q` to `f q`, its pots lose
    -- the share where the unit draws, and the unit draws in no other region.
    pub region_drains : (r : ℕ) (q : Region) → get d.regions r ≡ Some q → (f : Region → Region)
        → after.regions ≡ (region_changed f d r).regions
        → ((k : K) → pots.pot_region k ≡ r → pots.left k (f q) + cond (pots.draws k e.0) e.1 0 ≡ pots.left k q)
        → ((k : K) → pots.pot_region k ≢ r → pots.draws k e.0 ≡ false) → Drains d e after
    region_drains r q around f changed here others k x found = elim (cases_eq (pots.pot_region k) r) [
      | inl same ↦
          let new : Some (f q) ≡ Some x = sym (get-insert_same d.regions r (f q)) ∙ ap (get (insert d.regions r (f q))) (sym same) ∙ put in
          let value : f q ≡ x = cc in
          (q, ap (get d.regions) same ∙ around, subst (λ y. pots.left k y + cond (pots.draws k e.0) e.1 0 ≡ pots.left k q) value (here k same))
      | inr apart ↦
          (x, sym (get-insert_other d.regions r (pots.pot_region k) (f q) apart) ∙ put, subst (λ b. pots.left k x + cond b e.1 0 ≡ pots.left k x) (sym (others k apart)) (add-zero (pots.left k x)))
    ]
      where
        put : get (insert d.regions r (f q)) (pots.pot_region k) ≡ Some x
        put = sym (ap (λ m. get m (pots.pot_region k)) (changed ∙ changed-known f d.regions r q around)) ∙ found

    -- where a share is 0 and no region changes, the pots lose just the share (`Drains`)
    pub nothing_drains : after.regions ≡ d.regions → e.1 ≡ 0 → Drains d e after
    nothing_drains same none k x found =
        (x, sym (ap (λ m. get m (pots.pot_region k)) same) ∙ found, ap (λ s. pots.left k x + cond (pots.draws k e.0) s 0) none ∙ neither (pots.draws k e.0) (pots.left k x))
      where
        neither : (b : Bool) (a : ℕ) → a + cond b 0 0 ≡ a
        neither true a = add-zero a
        neither false a = add-zero a

-- ---- the pots of regions: the units of the region draw from them

-- which units, by their numbers, draw from the pot of a region: those of `units` that are in the region
abbrev pub draws_region : FinMap nat_cmp Unit → ℕ → Drawers
draws_region units r n = is_in_region r (get units n)

-- `units` are those of the campaign when the phase begins; `left` gives what is left of a region's pot
module _ (units : FinMap nat_cmp Unit) (left : Region → ℕ) where
  -- the pots of regions, by region: `left` gives what is left in each
  abbrev pub region_pots : DrawnPots ℕ
  region_pots = record { pot_region = λ r. r; draws = draws_region units; left = λ r q. left q }

  -- `e` is the number of unit `u` with its share, and `q` is the unit's region as it is in `d`
  module _ (d : CampaignValue) (e : ℕ × ℕ) (u : Unit) (q : Region) (there : get units e.0 ≡ Some u) (around : get d.regions u.region ≡ Some q) where
    -- a change `f` of the unit's region alone that takes the unit's share off its pot is a draw of the share (`Drains`)
    pub one_drains : (after : CampaignValue) (f : Region → Region)
        → after.regions ≡ (region_changed f d u.region).regions → left (f q) + e.1 ≡ left q
        → Drains region_pots d e after
    one_drains after f changed less =
        region_drains region_pots d e after u.region q around f changed
        (λ k same. subst (λ b. left (f q) + cond b e.1 0 ≡ left q) (sym (ap (is_in_region k) there ∙ ap (λ r. u.region == r) same ∙ same_number u.region)) less)
        (λ k apart. ap (is_in_region k) there ∙ other_number u.region k (λ is. apart (sym is)))

    -- the first share is at most what is left of the pot of its unit's region
    pub one_draws : (es : List (ℕ × ℕ)) → HaveEnough region_pots d (e ∷ es) → e.1 ≤ left q
    one_draws es enough =
        first_draws region_pots d e es enough u.region q around
        (ap (is_in_region u.region) there ∙ same_number u.region)

-- `r` is the number of a region, `draws` tells which units draw from its pot, and `c` is the campaign. `pot_of` gives
-- the pot of a region by its number. `wants` has by unit how much the unit wants, and `given` its share.
module _ (pot_of : ℕ → ℕ) (wants : FinMap nat_cmp ℕ) (c : CampaignValue) (r : ℕ) (draws : Drawers) (given : FinMap nat_cmp ℕ) where
  abbrev amount : ℕ → ℕ
  amount n = amount_given pot_of wants c n

  abbrev takers : List ℕ
  takers = takers_in wants c.units r

  -- Each unit with a share in `given` that draws from the pot is in region `r`, and its share is the one that
  -- `pot_shares` gives it.
  abbrev pub DrawShares : Type 0
  DrawShares =
      (n share : ℕ) → get given n ≡ Some share → draws n ≡ true → (get (pot_shares pot_of wants c) n ≡ Some share) ×
      (is_in_region r (get c.units n) ≡ true)

  listed : DrawShares → (n share : ℕ) → get given n ≡ Some share → DrawsItsAmount draws amount takers (n, share)
  listed shared n share found drawing =
      let (is, is_at) = shared n share found drawing in
      let (want, u, wanted, low, at, region) = only_takers_get pot_of wants c n share is in
      let here : u.region ≡ r = eqb-true u.region r (ap (is_in_region r) (sym at) ∙ is_at) in
      (subst (λ k. IsListed n (takers_in wants c.units k)) here (taker_listed wants c.units n want u wanted at), ap (λ o. unwrap_or o 0) is)

  least : (drawing pot all : ℕ) → drawing ≤ min pot all → drawing ≤ pot
  least drawing pot all h = omega (arith, h)

  -- if the units draw from the pot what it gives them (`DrawShares`), and the region is in the campaign, the pot is
  -- at least the sum of the shares drawn
  pub shares_are_enough : DrawShares → HasValue c.regions r → drawn draws (entries given) ≤ pot_of r
  shares_are_enough shared there =
      let drawing = drawn draws (entries given) in
      let each = all_pairs (DrawsItsAmount draws amount takers) (entries given) (each-from_every (λ n share. DrawsItsAmount draws amount takers (n, share)) given (listed shared)) in
      let few = drawn_among draws amount takers (entries given) (takers_risen wants c.units r) (entries_rise given) each in
      least drawing (pot_of r) (sum (wants_in wants c.units r)) (subst (λ s. drawing ≤ s) (gives_each_pot pot_of wants c r there) few)

-- the pot of a region of the campaign (`pot_of`) is enough for the shares of all units in it, whatever each `wants`
pub pot_is_enough : (pot_of : ℕ → ℕ) (wants : FinMap nat_cmp ℕ) (c : CampaignValue) (r : ℕ) → HasValue c.regions r
    → drawn (draws_region c.units r) (entries (pot_shares pot_of wants c)) ≤ pot_of r
pot_is_enough pot_of wants c r there =
    shares_are_enough pot_of wants c r (draws_region c.units r) (pot_shares pot_of wants c)
    (λ n share is is_at. (is, is_at)) there

-- ---- units that have not been paid yet are as they were

-- `c` is the campaign when the phase begins; the pairs below are units with their shares
module _ (c : CampaignValue) where
  -- the units of some shares are in campaign `d` as they are in `c`
  abbrev pub AreUntouched : CampaignValue → List (ℕ × ℕ) → Type 0
  AreUntouched d es = AllByRecursion (λ e. get d.units e.0 ≡ get c.units e.0) es

  -- after a change of unit `n` alone, the units of shares with numbers above `n` are still as they are in `c`
  pub still : (d after : CampaignValue) (n : ℕ) (es : List (ℕ × ℕ))
      → ((k : ℕ) → k ≢ n → get after.units k ≡ get d.units k) → AllByRecursion (λ f. n < f.0) es → AreUntouched d es
      → AreUntouched after es
  still d after n [] same above all = tt
  still d after n (f ∷ es) same above all =
      (same f.0 (λ e. absurd (omega (arith, e, above.0))) ∙ all.0, still d after n es same above.1 all.1)

  -- when the phase begins, in `c` itself, the units of all shares are as they are in `c`
  pub untouched : (es : List (ℕ × ℕ)) → AreUntouched c es
  untouched [] = tt
  untouched (e ∷ es) = (refl, untouched es)

-- ---- shares of pots, one after the other

-- The shares still to come, by rising unit numbers, can be paid in campaign `d`. It is early, and the units of the
-- shares are as they were when the phase began (in `c`). Each share is one that its unit can have (`Fits`), and each
-- pot has enough.
pub record SharesArePayable {K : Type 0} (pots : DrawnPots K) (Fits : ℕ × ℕ → Type 0) (w : WorldValue) (c d : CampaignValue) (es : List (ℕ × ℕ)) : Type 0 where
  pub early : IsEarly w d
  pub rise : Rise es
  pub same : AreUntouched c d es
  pub fits : AllByRecursion Fits es
  pub enough : HaveEnough pots d es

-- Where `e` and then `es` can be paid in `d`, `es` can be paid in `after`, once `e` is paid. This supposes that of the
-- units only that of `e` changed, that `after` is early, and that the pots lost just this share. `Fits` says which
-- shares a unit can have.
pub ready_after : {K : Type 0} (pots : DrawnPots K) {Fits : ℕ × ℕ → Type 0} (w : WorldValue) (c d : CampaignValue) (e : ℕ × ℕ) (es : List (ℕ × ℕ)) (after : CampaignValue)
    → SharesArePayable pots Fits w c d (e ∷ es) → IsEarly w after
    → ((k : ℕ) → k ≢ e.0 → get after.units k ≡ get d.units k)
    → Drains pots d e after → SharesArePayable pots Fits w c after es
ready_after pots w c d e es after ready early others drains = record {
  early = early;
  rise = ready.rise.1;
  same = still c d after e.0 es others ready.rise.0 ready.same.1;
  fits = ready.fits.1;
  enough = others_draw pots d e es ready.enough after drains;
}
