-- Laws of founding: a founded campaign is good, and its books balance.
-- `founded_of w pass` is the campaign that is founded of the world w, with the moderator's pass text `pass`.
use Rattle.std.proofs.Common.{◌≡◌, ℕ, ◌+◌, ◌≤◌, ◌==◌, cond, List, [], length, sym, ap, ◌∙◌, refl, arith, true, false}
use Rattle.std.specs.Prelude.{ℤ, pos, ◌+ℤ◌, ◌*◌, unwrap_or, IsSome, IsTrue}
use Rattle.std.proofs.lemmas.Int.{ints}
use Rattle.std.proofs.lemmas.List.{length-map}
use Rattle.std.proofs.lemmas.Bool.Decides.{nat_tests}
use Rattle.std.specs.Ordering.{nat_cmp}
use Rattle.std.specs.FinMap.{FinMap, entries, empty, get-empty, len-empty, len-entries}
use Rattle.std.specs.FinSet as set
use Rattle.atl_world.specs.Worlds.{WorldValue, IsWorld, IsRegionPlan}
use Rattle.atl_world.specs.Sums.{sum_over, map_values}
use Rattle.atl_world.proofs.MappedLaws.{entries-mapped}
use Rattle.atl_world.proofs.Maps.{entries-empty}
use Rattle.atl_records.specs.declared.books.BooksEntry.{BooksEntry}
use Rattle.atl_records.specs.declared.books.BooksEntry.TheVariants.{Founding}
use Rattle.atl_records.specs.declared.books.Thing.{Thing}
use Rattle.atl_records.specs.declared.books.Thing.TheVariants.{Money, People, Item}
use Rattle.atl_lists.specs.declared.lists.UnitLists.{UnitLists}
use Rattle.atl_records.specs.declared.records.Faction.{Faction}
use Rattle.atl_records.specs.declared.records.Region.{Region}
use Rattle.atl_records.specs.declared.records.Structure.{Structure}
use Rattle.atl_records.specs.declared.records.Unit.{Unit}
use Rattle.atl_records.specs.Books.{amount_in, booked, no_amounts, after_booking, AreBooks, IsWithin}
use Rattle.atl_lists.specs.Lists.{AreUnitLists}
use Rattle.atl_campaign.specs.KeptLists.{AreListsAndMarksKept}
use Rattle.atl_world.specs.Names.{name_ok, pass_ok}
use Rattle.atl_world.specs.declared.world.RegionPlan.{RegionPlan}
use Rattle.atl_world.specs.ByNumber.{is_land_at, market_of, size_of}
use Rattle.atl_words.specs.Header.{IsMailingOf}
use Rattle.atl_records.specs.Limits.{entry_count, most_days}
use Rattle.atl_records.specs.Amounts.{region_amount, unit_amount}
use Rattle.atl_campaign.specs.Totals.{total, Balances}
use Rattle.atl_campaign.specs.Stocks.{stock_limit}
use Rattle.atl_campaign.specs.Founding.{founded_of, founded_region, thing_count}
use Rattle.atl_records.specs.Holdings.{IsHolding}
use Rattle.atl_campaign.specs.Campaign.{numbers_of_faction}
use Rattle.atl_world.specs.Every.{Every, HasValue}
use Rattle.atl_campaign.proofs.GoodLaws.{AreOfFactions-empty}
use Rattle.atl_campaign.specs.Good.{IsActive, IsRegion, AreInRange, AreAmountsWithin, AreNamed, IsPlaced, IsBuilt, AreKnown, AreOfMarkets, IsNumbered, IsOwned, is_ship, IsAboard, guards, IsSteady, IsGood}
use Rattle.atl_world.proofs.EveryLaws.{each-from_every, every-empty, every-mapped, there-mapped}
use Rattle.atl_campaign.proofs.TotalLaws.{sum_of_zeros_is_zero}
use Rattle.atl_campaign.proofs.AmountMarkLaws.{none_marked}
use Rattle.atl_records.proofs.BookLaws.{booked-after_booking, booked-no_amounts, amount-no_amounts, AreBooks-no_amounts, AreBooks-after_booking, IsWithin-after_booking, booked_for}

-- The invariant of a `Campaign` (AreListsAndMarksKept) holds if the lists are those of the units, and no amount of the
-- books is marked. The dirty set has room for just the amounts of the first `things` things.
pub AreKept-without_marks : (things : ℕ) (units : FinMap nat_cmp Unit) (lists : UnitLists) → AreUnitLists units lists
    → AreListsAndMarksKept units lists things (record { numbers = set.empty; room = entry_count * things })
AreKept-without_marks things units lists listed =
    record { unit_lists = listed; amounts = none_marked things (entry_count * things) (omega arith) }

AreBooks-founding : (things money people : ℕ) → 2 ≤ things
    → AreBooks things (after_booking (after_booking (no_amounts things) Founding Money (pos money)) Founding People (pos people))
AreBooks-founding things money people l =
    AreBooks-after_booking things (after_booking (no_amounts things) Founding Money (pos money)) Founding People (pos people) (AreBooks-after_booking things (no_amounts things) Founding Money (pos money) (AreBooks-no_amounts things) (omega arith)) (omega arith)

total_of_no_units_is_zero : (t : Thing)
    → sum_over (λ (u : Unit). unit_amount t u.holding) (empty {X = Unit} {R = nat_cmp}) ≡ 0
total_of_no_units_is_zero t = rw (entries-empty {X = Unit}) refl

no_items : (w : WorldValue) (i : ℕ)
    → sum_over (λ (r : Region). region_amount (Item i) r) (map_values founded_region w.regions) ≡ 0
no_items w i =
    let founded = map_values founded_region w.regions in
    let nothing : Every (λ n r. region_amount (Item i) r ≡ 0) founded = every-mapped founded_region (λ n r. region_amount (Item i) r ≡ 0) w.regions (λ n p is. ap (λ o. unwrap_or o 0) (get-empty nat_cmp i)) in
    sum_of_zeros_is_zero (λ (r : Region). region_amount (Item i) r) (entries founded) (each-from_every (λ n r. region_amount (Item i) r ≡ 0) founded nothing)

founding_booked : (things money people : ℕ) (t : Thing)
    → booked (after_booking (after_booking (no_amounts things) Founding Money (pos money)) Founding People (pos people)) t
    ≡ booked_for t Money (pos money) +ℤ booked_for t People (pos people)
founding_booked things money people t =
    booked-after_booking (after_booking (no_amounts things) Founding Money (pos money)) Founding People (pos people) t
    ∙ ap (λ z. z +ℤ booked_for t People (pos people)) (booked-after_booking (no_amounts things) Founding Money (pos money) t ∙ ap (λ z. z +ℤ booked_for t Money (pos money)) (booked-no_amounts things t) ∙ from_nothing (booked_for t Money (pos money)))
  where
    from_nothing : (z : ℤ) → pos 0 +ℤ z ≡ z
    from_nothing z = omega (arith, ints)

held_money : (a m : ℕ) → a ≡ 0 → pos (a + m) ≡ pos m +ℤ pos 0
held_money a m h = omega (arith, ints)

held_people : (a p : ℕ) → a ≡ 0 → pos (a + p) ≡ pos 0 +ℤ pos p
held_people a p h = omega (arith, ints)

held_items : (a b i m p : ℕ) → a ≡ 0 → b ≡ 0 → (2 + i == 0) ≡ false → (2 + i == 1) ≡ false
    → pos (a + b) ≡ cond (2 + i == 0) (pos m) (pos 0) +ℤ cond (2 + i == 1) (pos p) (pos 0)
held_items a b i m p h g e f =
    ap (λ n. pos (n + b)) h ∙ ap (λ n. pos (0 + n)) g
    ∙ sym
    (ap (λ q. cond q (pos m) (pos 0) +ℤ cond (2 + i == 1) (pos p) (pos 0)) e ∙ ap (λ q. pos 0 +ℤ cond q (pos p) (pos 0)) f)

-- the books of a founded campaign balance: what its regions hold is booked under Founding
pub founded-balances : (w : WorldValue) (pass : List ℕ) → Balances (founded_of w pass)
unfolding founded_of total
founded-balances w pass Money =
    held_money _ _ (total_of_no_units_is_zero Money) ∙ sym (founding_booked (thing_count w) _ _ Money)
founded-balances w pass People =
    held_people _ _ (total_of_no_units_is_zero People) ∙ sym (founding_booked (thing_count w) _ _ People)
founded-balances w pass (Item i) =
    held_items _ _ i (sum_over (λ (r : Region). region_amount Money r) (map_values founded_region w.regions)) (sum_over (λ (r : Region). region_amount People r) (map_values founded_region w.regions))
    (total_of_no_units_is_zero (Item i)) (no_items w i) (grind (arith, nat_tests)) (grind (arith, nat_tests))
    ∙ sym (founding_booked (thing_count w) _ _ (Item i))

none_within : (things : ℕ) (e : BooksEntry) (t : Thing) → IsWithin 0 (amount_in (no_amounts things) e t)
none_within things e t =
    rw (amount-no_amounts things e t) record { most = omega (arith, ints); least = omega (arith, ints) }

founded_region_in_range : (w : WorldValue) (p : RegionPlan) (terrains items n : ℕ) → IsRegionPlan terrains items n p
    → IsRegion w n (founded_region p)
founded_region_in_range w p terrains items n plan =
    record { peasants = plan.peasants; money = plan.money; stocks = every-empty (λ i amount. (1 ≤ amount) × (amount ≤ stock_limit w n i)) }

numbered_none : {V : Type 0} → IsNumbered (empty {X = V} {R = nat_cmp}) 1
numbered_none {V} =
    record { first = get-empty nat_cmp 0; count = ap (λ n. n + 1) (sym (len-empty nat_cmp V)); free = λ n _. get-empty nat_cmp n }

-- w keeps the rules of worlds. `regions` are its regions as founded; `money` and `people` are what they have together.
module _ (w : WorldValue) (pass : List ℕ) (world : IsWorld w) where
  abbrev regions : FinMap nat_cmp Region
  regions = map_values founded_region w.regions

  abbrev money : ℕ
  money = sum_over (λ (r : Region). region_amount Money r) regions

  abbrev people : ℕ
  people = sum_over (λ (r : Region). region_amount People r) regions

  founded-numbers : AreInRange w (founded_of w pass)
  unfolding founded_of
  founded-numbers = record {
    month = omega arith;
    few_factions = omega (arith, len-empty nat_cmp Faction);
    few_regions = rw (len-entries regions, entries-mapped founded_region w.regions) (simp length-map (omega (arith, len-entries w.regions, world.few_regions)));
    few_units = omega (arith, len-empty nat_cmp Unit);
    few_structures = omega (arith, len-empty nat_cmp Structure);
    next_unit_least = omega arith;
    next_unit_most = omega arith;
    factions = every-empty (λ n f. f.number ≡ n);
    regions = every-mapped founded_region (λ n r. IsRegion w n r) w.regions (λ n p is. founded_region_in_range w p (length w.terrains) (length w.items) n (world.regions n p is));
    units = every-empty (λ n u. (1 ≤ n) × IsHolding u.holding);
    structures = every-empty (λ n s. (1 ≤ s.done) × (s.done ≤ size_of w s.kind));
    books = AreBooks-founding (thing_count w) money people (omega arith);
  }

  founded-names : IsTrue (pass_ok pass) → AreNamed (founded_of w pass)
  unfolding founded_of
  founded-names passes = record {
    pass = passes;
    factions = every-empty (λ n f. IsTrue (name_ok f.joined_as) × IsTrue (name_ok f.name) × IsTrue (pass_ok f.pass));
    joined = every-empty (λ n f. Every (λ m g. f.joined_as ≡ g.joined_as → n ≡ m) empty);
    units = every-empty (λ n u. IsTrue (name_ok u.holding.name));
    structures = every-empty (λ n s. IsTrue (name_ok s.name));
  }

  founded-known : AreKnown w (founded_of w pass)
  unfolding founded_of
  founded-known = record {
    regions = there-mapped founded_region w.regions;
    markets = every-mapped founded_region (λ n r. AreOfMarkets w n r.stocks) w.regions (λ n p is. every-empty (λ i amount. IsSome (market_of w n i)));
    units = every-empty (λ n u. IsPlaced w (founded_of w pass) u);
    structures = every-empty (λ n s. IsBuilt w (founded_of w pass) s);
    posts = AreOfFactions-empty;
  }

  founded-steady : IsTrue (pass_ok pass) → IsSteady w (founded_of w pass)
  unfolding founded_of
  founded-steady passes = record {
    numbers = founded-numbers;
    names = founded-names passes;
    known = founded-known;
    next = record { factions = numbered_none; structures = numbered_none; units = λ n _. get-empty nat_cmp n };
    days = every-empty (λ n u. Every (λ s days. (1 ≤ days) × (days ≤ most_days * u.holding.men)) u.holding.days);
    gone = every-empty (λ n f. f.gone ≡ true → numbers_of_faction n empty ≡ []);
    owners = every-empty (λ n s. IsOwned (founded_of w pass) n s);
    water = record {
      units = every-empty (λ n u. is_land_at w u.region ≡ false → IsAboard w (founded_of w pass) u);
      structures = every-empty (λ n s. is_land_at w s.region ≡ false → (is_ship w s ≡ true) × (s.done ≡ size_of w s.kind));
    };
    guarded = every-empty (λ n u. Every (λ m v. guards u ≡ true → guards v ≡ true → u.region ≡ v.region → u.faction ≡ v.faction) empty);
  }

  -- the amounts of a founded campaign's books are within their bound (amount_bound), if its money and its people are at
  -- most 10^14
  founded-amounts : money ≤ 100000000000000 → people ≤ 100000000000000 → AreAmountsWithin (founded_of w pass)
  unfolding founded_of
  founded-amounts few_money few_people =
      let things = thing_count w in
      let one = after_booking (no_amounts things) Founding Money (pos money) in
      IsWithin-after_booking one Founding People people money _ (IsWithin-after_booking (no_amounts things) Founding Money money 0 money (none_within things) (omega arith)) (omega arith)

  -- a founded campaign is good, if its pass text keeps its rule, and its money and people are at most 10^14
  pub founded-good : IsTrue (pass_ok pass) → money ≤ 100000000000000 → people ≤ 100000000000000
      → IsGood w (founded_of w pass)
  unfolding founded_of
  founded-good passes few_money few_people = record {
    sound = record {
      steady = founded-steady passes;
      men = every-empty (λ n u. 1 ≤ u.holding.men);
      amounts = founded-amounts few_money few_people;
      gone = every-empty (λ n f. numbers_of_faction n empty ≡ [] → f.gone ≡ true);
      balances = founded-balances w pass;
      mail = every-empty (λ n text. IsMailingOf n text × IsActive (founded_of w pass) n);
    };
    reported = every-empty (λ n f. HasValue empty n);
  }
