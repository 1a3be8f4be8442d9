-- Laws of joining: a sound campaign that a faction joins is sound, rule by rule. The faction joins with the name `name`
-- and the pass text `pass`, and `word`, a word of the dice, picks the region where it begins.
-- c is the campaign before the join, and `after_join w name pass word c` the one after it.
use Rattle.std.proofs.Common.{◌≡◌, ◌≢◌, ℕ, ◌+◌, ◌%◌, ◌≤◌, ◌<◌, ◌==◌, ◌||◌, true, false, cond, List, [], ◌∷◌, length, Some, None, is_some, take, drop, ◌*◌, refl, sym, ap, ◌∙◌, arith, nat_le, nat_lt, nat_eq, length-append, true≢false}
use Rattle.std.proofs.lemmas.Bool.{false≢true}
use Rattle.std.specs.Prelude.{unwrap_or, ℤ, pos, ◌+ℤ◌, IsTrue}
use Rattle.std.specs.Option.{option_map_or}
use Rattle.std.specs.Ordering.{nat_cmp}
use Rattle.std.specs.Cmp.{nat_cmp_total}
use Rattle.std.specs.Cmp.Lexicographic.{pointwise}
use Rattle.std.specs.FinMap.{FinMap, get, insert, len, get-empty, len-insert}
use Rattle.std.proofs.lemmas.Int.{ints}
use Rattle.std.proofs.lemmas.Bool.Decides.{nat_tests}
use Rattle.std.proofs.lemmas.Slice.Eq.{bytes_eq-Decides}
use Rattle.atl_world.specs.Names.{name_ok, pass_ok}
use Rattle.atl_world.specs.Worlds.{WorldValue, IsWorld, land_of, is_land}
use Rattle.atl_world.specs.declared.world.RegionPlan.{RegionPlan}
use Rattle.atl_world.proofs.SumLaws.{numbers_where-insert_other}
use Rattle.atl_world.specs.ByNumber.{is_land_at}
use Rattle.atl_words.specs.Limits.{last_faction}
use Rattle.atl_records.specs.Limits.{most_units, last_unit, most_days, holding_limit}
use Rattle.atl_records.specs.declared.books.BooksEntry.TheVariants.{Joining}
use Rattle.atl_records.specs.declared.books.Thing.{Thing}
use Rattle.atl_records.specs.declared.books.Thing.TheVariants.{Money, People, Item}
use Rattle.atl_records.specs.declared.records.Faction.{Faction}
use Rattle.atl_records.specs.declared.records.Unit.{Unit}
use Rattle.atl_records.specs.Holdings.{IsHolding}
use Rattle.atl_campaign.specs.Campaign.{CampaignValue, numbers_of_faction}
use Rattle.atl_records.specs.Books.{booked, after_booking, amount_in, LeavesRoomForJoining}
use Rattle.atl_records.specs.Amounts.{unit_amount}
use Rattle.atl_campaign.specs.Totals.{total, Balances}
use Rattle.atl_campaign.specs.Founding.{thing_count}
use Rattle.atl_world.specs.Every.{Every}
use Rattle.atl_campaign.proofs.GoodLaws.{posted-there}
use Rattle.atl_campaign.specs.Good.{AreInRange, AreAmountsWithin, HaveMen, AreNamed, IsPlaced, AreKnown, IsNumbered, AreNumbered, AreDays, GoneHaveNone, UnitlessAreGone, AreOwned, IsAboard, AreAfloat, guards, AreOfOneFaction, HasValidMail, IsSteady, IsSound, amount_bound}
use Rattle.atl_campaign.specs.Joining.{after_join, new_faction, first_unit, home_of, is_full, name_taken}
use Rattle.atl_containers.specs.Ordered.{put_number, first_not_below}
use Rattle.atl_records.proofs.BookLaws.{booked-after_booking, AreBooks-after_booking, IsWithin-after_booking, LeavesRoomForJoining-within, booked_for}
use Rattle.atl_world.proofs.EveryLaws.{every-empty, every-insert, every-from_none, get-insert_other, there-new, there-insert, passes-listed, none_some}
use Rattle.atl_campaign.proofs.NumberedNameLaws.{unit_name_ok}
use Rattle.atl_containers.proofs.OrderedLaws.{numbers_where-insert_new}
use Rattle.atl_campaign.proofs.TotalLaws.{total-with_unit}

-- ---- the books

total_after_join : (x n : ℕ) (b p q : ℤ) → pos x ≡ b → pos n ≡ p +ℤ q → pos (x + n) ≡ (b +ℤ p) +ℤ q
total_after_join x n b p q h g = omega (arith, ints)

no_item_is_booked : (w : WorldValue) (word : ℕ) (c : CampaignValue) (i : ℕ) → (2 + i == 0) ≡ false
    → (2 + i == 1) ≡ false
    → pos (unit_amount (Item i) (first_unit w word c).holding)
    ≡ booked_for (Item i) Money (pos w.rules.start_money) +ℤ booked_for (Item i) People (pos 1)
no_item_is_booked w word c i a b =
    ap (λ o. pos (unwrap_or o 0)) (get-empty nat_cmp i)
    ∙ sym (ap (λ q. cond q (pos w.rules.start_money) (pos 0) +ℤ cond (2 + i == 1) (pos 1) (pos 0)) a ∙ ap (λ q. pos 0 +ℤ cond q (pos 1) (pos 0)) b)

held_booked : (w : WorldValue) (word : ℕ) (c : CampaignValue) (t : Thing)
    → pos (unit_amount t (first_unit w word c).holding)
    ≡ booked_for t Money (pos w.rules.start_money) +ℤ booked_for t People (pos 1)
held_booked w word c Money = omega (arith, ints)
held_booked w word c People = refl
held_booked w word c (Item i) = no_item_is_booked w word c i (grind (arith, nat_tests)) (grind (arith, nat_tests))

-- the books balance after a join if they did before, and no unit had the next number: the new unit's money and man are
-- booked
pub joined-balances : (w : WorldValue) (name pass : List ℕ) (word : ℕ) (c : CampaignValue)
    → get c.units c.next_unit ≡ None → Balances c → Balances (after_join w name pass word c)
unfolding after_join total
joined-balances w name pass word c free h t =
    let one = after_booking c.books Joining Money (pos w.rules.start_money) in
    ap pos (total-with_unit c c.next_unit (first_unit w word c) t free)
    ∙ total_after_join (total c t) (unit_amount t (first_unit w word c).holding) (booked c.books t) (booked_for t Money (pos w.rules.start_money)) (booked_for t People (pos 1)) (h t) (held_booked w word c t)
    ∙ ap (λ z. z +ℤ booked_for t People (pos 1)) (sym (booked-after_booking c.books Joining Money (pos w.rules.start_money) t))
    ∙ sym (booked-after_booking one Joining People (pos 1) t)

amounts_small : (w : WorldValue) (c : CampaignValue) → AreInRange w c → amount_bound c ≤ 4000000000000000000
amounts_small w c numbers = omega (arith, numbers.month, numbers.few_factions)

-- the money and the people booked under Joining in a sound campaign are from -2^62 - 1 to 2^62 (LeavesRoomForJoining)
pub joining_small : (w : WorldValue) (c : CampaignValue) → IsSound w c
    → LeavesRoomForJoining (amount_in c.books Joining Money) × LeavesRoomForJoining (amount_in c.books Joining People)
joining_small w c sound =
    let small = amounts_small w c sound.steady.numbers in
    (LeavesRoomForJoining-within _ _ (sound.amounts Joining Money) small, LeavesRoomForJoining-within _ _ (sound.amounts Joining People) small)

-- ---- the numbers

pub len_new : {V : Type 0} (m : FinMap nat_cmp V) (k : ℕ) (v : V) → get m k ≡ None → len (insert m k v) ≡ len m + 1
len_new m k v h = len-insert nat_cmp_total m k v ∙ ap (λ o. cond (is_some o) (len m) (len m + 1)) h

counts_below_limits : (f u n : ℕ) → ((nat_le last_faction f || nat_le most_units u) || nat_lt last_unit n) ≡ false
    → (f < last_faction) × (u < most_units) × (n ≤ last_unit)
counts_below_limits f u n h = (grind (arith, nat_tests), grind (arith, nat_tests), grind (arith, nat_tests))

-- a campaign that isn't full has fewer factions and units than the most, and its next unit number is at most last_unit
pub room_to_join : (c : CampaignValue) → is_full c ≡ false
    → (len c.factions < last_faction) × (len c.units < most_units) × (c.next_unit ≤ last_unit)
room_to_join c h = counts_below_limits (len c.factions) (len c.units) c.next_unit h

still_free : {V : Type 0} (m : FinMap nat_cmp V) (n k : ℕ) (v : V) → ((q : ℕ) → n ≤ q → get m q ≡ None) → k < n
    → (q : ℕ) → n ≤ q → get (insert m k v) q ≡ None
still_free m n k v free below q h = get-insert_other m k q v (λ same. omega arith) ∙ free q h

still_numbered : {V : Type 0} (m : FinMap nat_cmp V) (n : ℕ) (v : V) → IsNumbered m n
    → IsNumbered (insert m n v) (n + 1)
still_numbered m n v old = record {
  first = get-insert_other m n 0 v (λ same. omega (arith, old.count)) ∙ old.first;
  count = ap (λ k. k + 1) (old.count ∙ sym (len_new m n v (old.free n (omega arith))));
  free = still_free m (n + 1) n v (λ q l. old.free q (omega arith)) (omega arith);
}

-- what is under a number of a map stays when a value is put under a number that has none
pub still_there : {V : Type 0} (m : FinMap nat_cmp V) (k q : ℕ) (v x : V) → get m k ≡ None → get m q ≡ Some x
    → get (insert m k v) q ≡ Some x
still_there m k q v x free is =
    get-insert_other m k q v (λ same. none_some x (sym free ∙ ap (get m) (sym same) ∙ is)) ∙ is

other_key : {V : Type 0} (m : FinMap nat_cmp V) (k n : ℕ) (v : V) → get m k ≡ None → get m n ≡ Some v → (k == n) ≡ false
other_key m k n v free is = let apart : k ≢ n = λ same. none_some v (sym free ∙ ap (get m) same ∙ is) in grind (arith, nat_tests)

-- ---- each rule

some_put : {P : Type 0} (n : ℕ) (xs : List ℕ) → put_number n xs ≡ [] → P
unfolding put_number
some_put n xs e =
    absurd
    (omega (arith, ap length e, length-append (take (first_not_below n xs) xs) (n ∷ drop (first_not_below n xs) xs)))

name_is_free : (c : CampaignValue) (name : List ℕ) → name_taken c name ≡ false
    → Every (λ n f. f.joined_as ≢ name) c.factions
name_is_free c name h n f is same =
    let differs = every-from_none (λ (g : Faction). pointwise nat_eq g.joined_as name) c.factions h n f is in
    let equal = (bytes_eq-Decides f.joined_as name).1 same in
    absurd (true≢false (sym equal ∙ differs))

module _ (w : WorldValue) (name pass : List ℕ) (word : ℕ) (c : CampaignValue) where
  abbrev member : Faction
  member = new_faction c.next_faction name pass

  abbrev unit : Unit
  unit = first_unit w word c

  abbrev factions : FinMap nat_cmp Faction
  factions = insert c.factions c.next_faction member

  abbrev units : FinMap nat_cmp Unit
  units = insert c.units c.next_unit unit

  joined-numbers : is_full c ≡ false → IsWorld w → AreNumbered c → AreInRange w c
      → AreInRange w (after_join w name pass word c)
  unfolding after_join
  joined-numbers full world next old =
      let r = room_to_join c full in
      let one = after_booking c.books Joining Money (pos w.rules.start_money) in
      record {
        month = old.month;
        few_factions = omega (arith, len_new c.factions c.next_faction member (next.factions.free c.next_faction (omega arith)), r.0);
        few_regions = old.few_regions;
        few_units = omega (arith, len_new c.units c.next_unit unit (next.units c.next_unit (omega arith)), r.1);
        few_structures = old.few_structures;
        next_unit_least = omega arith;
        next_unit_most = omega (arith, r.2);
        factions = every-insert (λ n f. f.number ≡ n) c.factions c.next_faction member refl old.factions;
        regions = old.regions;
        units = every-insert (λ n u. (1 ≤ n) × IsHolding u.holding) c.units c.next_unit unit (old.next_unit_least, record { men = omega arith; money = world.rules.start_money; items = every-empty (λ item amount. (1 ≤ amount) × (amount ≤ holding_limit)) }) old.units;
        structures = old.structures;
        books = AreBooks-after_booking (thing_count w) one Joining People (pos 1) (AreBooks-after_booking (thing_count w) c.books Joining Money (pos w.rules.start_money) old.books (omega arith)) (omega arith);
      }

  joined-names : is_full c ≡ false → name_taken c name ≡ false → IsTrue (name_ok name) → IsTrue (pass_ok pass)
      → AreNamed c → AreNamed (after_join w name pass word c)
  unfolding after_join
  joined-names full free named passes old =
      let own = name_is_free c name free in
      record {
        pass = old.pass;
        factions = every-insert (λ n f. IsTrue (name_ok f.joined_as) × IsTrue (name_ok f.name) × IsTrue (pass_ok f.pass)) c.factions c.next_faction member (named, named, passes) old.factions;
        joined =
            every-insert (λ n f. Every (λ m g. f.joined_as ≡ g.joined_as → n ≡ m) factions) c.factions c.next_faction
            member
            (every-insert (λ m g. name ≡ g.joined_as → c.next_faction ≡ m) c.factions c.next_faction member (λ _. refl) (λ m g is same. absurd (own m g is (sym same))))
            (λ n f is. every-insert (λ m g. f.joined_as ≡ g.joined_as → n ≡ m) c.factions c.next_faction member (λ same. absurd (own n f is same)) (old.joined n f is));
        units = every-insert (λ n u. IsTrue (name_ok u.holding.name)) c.units c.next_unit unit (unit_name_ok c.next_unit (room_to_join c full).2) old.units;
        structures = old.structures;
      }

  home_there : IsWorld w → (p : RegionPlan) × (get w.regions (home_of w word) ≡ Some p) × (is_land w.terrains p ≡ true)
  home_there world =
      passes-listed (is_land w.terrains) w.regions (word % length (land_of w)) 0 (omega (arith, world.some_land))

  joined-known : IsWorld w → AreKnown w c → AreKnown w (after_join w name pass word c)
  unfolding after_join
  joined-known world old =
      let home = home_there world in
      record {
        regions = old.regions;
        markets = old.markets;
        units = every-insert (λ n u. IsPlaced w (after_join w name pass word c) u) c.units c.next_unit unit record {
          faction = there-new c.factions c.next_faction member;
          region = (old.regions (home_of w word)).1 (home.0, home.1);
          structure = λ inside. absurd (inside refl);
          items = every-empty (λ i amount. i < length w.items);
          skills = every-empty (λ s days. s < length w.skills);
        } (λ n u is. let p = old.units n u is in record {
          faction = there-insert c.factions c.next_faction u.faction member p.faction;
          region = p.region;
          structure = p.structure;
          items = p.items;
          skills = p.skills;
        });
        structures = λ n s is. let b = old.structures n s is in record { kind = b.kind; region = b.region; owner = λ owned. there-insert c.units c.next_unit s.owner unit (b.owner owned) };
        posts = posted-there (λ n. there-insert c.factions c.next_faction n member) old.posts;
      }

  joined-next : AreNumbered c → AreNumbered (after_join w name pass word c)
  unfolding after_join
  joined-next old = record {
    factions = still_numbered c.factions c.next_faction member old.factions;
    structures = old.structures;
    units = still_free c.units (c.next_unit + 1) c.next_unit unit (λ q l. old.units q (omega arith)) (omega arith);
  }

  joined-days : AreDays c → AreDays (after_join w name pass word c)
  unfolding after_join
  joined-days old =
      every-insert (λ n u. Every (λ s days. (1 ≤ days) × (days ≤ most_days * u.holding.men)) u.holding.days) c.units
      c.next_unit unit (every-empty (λ s days. (1 ≤ days) × (days ≤ most_days * 1))) old

  module _ (next : AreNumbered c) where
    free_faction : get c.factions c.next_faction ≡ None
    free_faction = next.factions.free c.next_faction (omega arith)

    free_unit : get c.units c.next_unit ≡ None
    free_unit = next.units c.next_unit (omega arith)

    same_units : (n : ℕ) (f : Faction) → get c.factions n ≡ Some f
        → numbers_of_faction n units ≡ numbers_of_faction n c.units
    same_units n f is =
        numbers_where-insert_other (λ (u : Unit). u.faction == n) c.units c.next_unit unit free_unit
        (other_key c.factions c.next_faction n f free_faction is)

    joined-gone : GoneHaveNone c → GoneHaveNone (after_join w name pass word c)
    unfolding after_join
    joined-gone old =
        every-insert (λ n f. f.gone ≡ true → numbers_of_faction n units ≡ []) c.factions c.next_faction member
        (λ e. absurd (false≢true e)) (λ n f is gone. same_units n f is ∙ old n f is gone)

    own_unit : numbers_of_faction c.next_faction units ≡ [] → false ≡ true
    own_unit none =
        let same : (c.next_faction == c.next_faction) ≡ true = grind (arith, nat_tests) in
        some_put c.next_unit (numbers_of_faction c.next_faction c.units) (sym (numbers_where-insert_new (λ (u : Unit). u.faction == c.next_faction) c.units c.next_unit unit free_unit same) ∙ none)

    joined-none : UnitlessAreGone c → UnitlessAreGone (after_join w name pass word c)
    unfolding after_join
    joined-none old =
        every-insert (λ n f. numbers_of_faction n units ≡ [] → f.gone ≡ true) c.factions c.next_faction member own_unit
        (λ n f is none. old n f is (sym (same_units n f is) ∙ none))

    joined-owners : AreOwned c → AreOwned (after_join w name pass word c)
    unfolding after_join
    joined-owners old n s is = let o = old n s is in record {
      owned = λ some. let (u, there, inside) = o.owned some in (u, still_there c.units c.next_unit s.owner unit u free_unit there, inside);
      ownerless = λ none. every-insert (λ m u. u.structure ≢ n) c.units c.next_unit unit (λ same. none_some s (sym next.structures.first ∙ ap (get c.structures) same ∙ is)) (o.ownerless none);
    }

    joined-mail : HasValidMail c → HasValidMail (after_join w name pass word c)
    unfolding after_join
    joined-mail old n text is = let (own, active) = old n text is in let (f, there, stays) = active in (own, (f, still_there c.factions c.next_faction n member f free_faction there, stays))

  joined-water : IsWorld w → AreAfloat w c → AreAfloat w (after_join w name pass word c)
  unfolding after_join
  joined-water world old =
      let home = home_there world in
      let dry : is_land_at w (home_of w word) ≡ true = ap (λ p. option_map_or (is_land w.terrains) p false) home.1 ∙ home.2 in
      record {
        units = every-insert (λ n u. is_land_at w u.region ≡ false → IsAboard w (after_join w name pass word c) u) c.units c.next_unit unit (λ wet. absurd (true≢false (sym dry ∙ wet))) old.units;
        structures = old.structures;
      }

  joined-guarded : AreOfOneFaction guards c → AreOfOneFaction guards (after_join w name pass word c)
  unfolding after_join
  joined-guarded old =
      every-insert
      (λ n u. Every (λ m v. guards u ≡ true → guards v ≡ true → u.region ≡ v.region → u.faction ≡ v.faction) units)
      c.units c.next_unit unit (λ m v is e. absurd (true≢false (sym e)))
      (λ n u is. every-insert (λ m v. guards u ≡ true → guards v ≡ true → u.region ≡ v.region → u.faction ≡ v.faction) c.units c.next_unit unit (λ _ e. absurd (true≢false (sym e))) (old n u is))

  joined-men : HaveMen c → HaveMen (after_join w name pass word c)
  unfolding after_join
  joined-men old = every-insert (λ n u. 1 ≤ u.holding.men) c.units c.next_unit unit (omega arith) old

  joined-amounts : IsWorld w → AreNumbered c → AreAmountsWithin c → AreAmountsWithin (after_join w name pass word c)
  unfolding after_join
  joined-amounts world next old =
      let more = len_new c.factions c.next_faction member (next.factions.free c.next_faction (omega arith)) in
      let one = after_booking c.books Joining Money (pos w.rules.start_money) in
      IsWithin-after_booking one Joining People 1 (amount_bound c + w.rules.start_money) _
      (IsWithin-after_booking c.books Joining Money w.rules.start_money (amount_bound c) (amount_bound c + w.rules.start_money) old (omega arith)) (omega (arith, more, world.rules.start_money))

  module _ (full : is_full c ≡ false) (free : name_taken c name ≡ false) (named : IsTrue (name_ok name)) (passes : IsTrue (pass_ok pass)) (world : IsWorld w) where
    joined-steady : IsSteady w c → IsSteady w (after_join w name pass word c)
    joined-steady old = record {
      numbers = joined-numbers full world old.next old.numbers;
      names = joined-names full free named passes old.names;
      known = joined-known world old.known;
      next = joined-next old.next;
      days = joined-days old.days;
      gone = joined-gone old.next old.gone;
      owners = joined-owners old.next old.owners;
      water = joined-water world old.water;
      guarded = joined-guarded old.guarded;
    }

    -- a sound campaign that a faction joins stays sound, if it isn't full, no faction joined under this name, and name,
    -- pass text and world keep their rules
    pub joined-sound : IsSound w c → IsSound w (after_join w name pass word c)
    joined-sound old = let next = old.steady.next in record {
      steady = joined-steady old.steady;
      men = joined-men old.men;
      amounts = joined-amounts world next old.amounts;
      gone = joined-none next old.gone;
      balances = joined-balances w name pass word c (next.units c.next_unit (omega arith)) old.balances;
      mail = joined-mail next old.mail;
    }
