-- Laws of a refit, a campaign in which one unit is in another structure of its region, and structures have other owners
-- and names: the campaign stays steady. A relabelled structure is one with another owner or name (`IsRelabelled`). The
-- right owner (`IsOwned`) is a unit inside the structure, or nobody (0) where no unit is inside.
use Rattle.std.proofs.Common.{◌≡◌, ◌≢◌, ◌==◌, ℕ, ◌+◌, ◌*◌, ◌≤◌, Bool, true, false, Option, Some, None, refl, sym, ap, subst, ◌∙◌, arith}
use Rattle.std.specs.Prelude.{IsTrue, option_map}
use Rattle.std.specs.Ordering.{nat_cmp}
use Rattle.std.specs.FinMap.{FinMap, get, insert, len}
use Rattle.atl_world.specs.Names.{name_ok}
use Rattle.atl_world.specs.Worlds.{WorldValue}
use Rattle.atl_world.specs.Sums.{sum_over}
use Rattle.atl_world.proofs.SumLaws.{numbers_where-insert_known, put_same, sum_over-insert_known}
use Rattle.atl_world.specs.ByNumber.{is_land_at, size_of}
use Rattle.atl_records.specs.Limits.{most_days}
use Rattle.atl_records.specs.declared.books.Thing.{Thing}
use Rattle.atl_records.specs.declared.records.Region.{Region}
use Rattle.atl_records.specs.declared.records.Structure.{Structure}
use Rattle.atl_records.specs.declared.records.Unit.{Unit}
use Rattle.atl_world.specs.Every.{Every}
use Rattle.atl_campaign.specs.Good.{AreAfloat, AreInRange, AreKnown, AreNamed, AreNumbered, AreOfOneFaction, GoneHaveNone, IsAboard, IsBuilt, IsEarly, IsOwned, IsPlaced, IsSteady, guards, is_ship}
use Rattle.atl_records.specs.Holdings.{IsHolding}
use Rattle.atl_campaign.specs.Campaign.{CampaignValue}
use Rattle.atl_records.specs.Amounts.{region_amount, unit_amount}
use Rattle.atl_campaign.specs.Totals.{total}
use Rattle.atl_world.proofs.EveryLaws.{every-insert, get-insert_other, none_some}
use Rattle.atl_campaign.proofs.RegionLaws.{same_len}

-- The structure after is the structure before, but for owner and name; the name follows the name rule if it did before.
pub record IsRelabelled (before after : Structure) : Type 0 where
  pub kind : after.kind ≡ before.kind
  pub region : after.region ≡ before.region
  pub done : after.done ≡ before.done
  pub name : IsTrue (name_ok before.name) → IsTrue (name_ok after.name)

-- where f mapped over an option o makes Some x, the option has a value v of which f makes x
pub mapped_from : {A B : Type 0} (f : A → B) (o : Option A) (x : B) → option_map f o ≡ Some x
    → (v : A) × (o ≡ Some v) × (f v ≡ x)
mapped_from f None x is = none_some x is
mapped_from f (Some v) x is = let same : f v ≡ x = cc in (v, refl, same)

-- campaign c, and the units and structures that take the place of its own, both by number
module _ (c : CampaignValue) (units : FinMap nat_cmp Unit) (structures : FinMap nat_cmp Structure) where
  -- campaign c with `units` and `structures` in place of its own
  abbrev pub replaced : CampaignValue
  replaced = record c { units = units; structures = structures }

  -- Campaign c keeps its limits (`AreInRange`) with as many other units and structures. For this the units have numbers
  -- from 1 on and hold what is within the limits, and what is done of each structure is from 1 to its size.
  pub in_range_replaced : (w : WorldValue) → len units ≡ len c.units → len structures ≡ len c.structures
      → Every (λ k x. (1 ≤ k) × IsHolding x.holding) units
      → Every (λ k x. (1 ≤ x.done) × (x.done ≤ size_of w x.kind)) structures → AreInRange w c → AreInRange w replaced
  in_range_replaced w unit_count structure_count new_units new_structures old = record {
    month = old.month;
    few_factions = old.few_factions;
    few_regions = old.few_regions;
    few_units = omega (arith, unit_count, old.few_units);
    few_structures = omega (arith, structure_count, old.few_structures);
    next_unit_least = old.next_unit_least;
    next_unit_most = old.next_unit_most;
    factions = old.factions;
    regions = old.regions;
    units = new_units;
    structures = new_structures;
    books = old.books;
  }

  -- campaign c keeps the rules of names (`AreNamed`) with other units and structures, if their names follow the name
  -- rule
  pub named_replaced : Every (λ k x. IsTrue (name_ok x.holding.name)) units
      → Every (λ k x. IsTrue (name_ok x.name)) structures → AreNamed c → AreNamed replaced
  named_replaced new_units new_structures old =
      record { pass = old.pass; factions = old.factions; joined = old.joined; units = new_units; structures = new_structures }

  -- campaign c keeps the rules of numbers (`AreNumbered`) with other units and structures, if none of them has a new
  -- number, and there are as many structures
  pub numbered_replaced : len structures ≡ len c.structures → ((k : ℕ) → get c.units k ≡ None → get units k ≡ None)
      → ((k : ℕ) → get c.structures k ≡ None → get structures k ≡ None)
      → AreNumbered c → AreNumbered replaced
  numbered_replaced count no_unit no_structure old = record {
    factions = old.factions;
    structures = record { first = no_structure 0 old.structures.first; count = old.structures.count ∙ ap (λ l. l + 1) (sym count); free = λ k l. no_structure k (old.structures.free k l) };
    units = λ k l. no_unit k (old.units k l);
  }

-- Unit n (u) of campaign c is put inside structure s (0 for none), and `structures` take the place of the old ones. g
-- makes of a structure's number and the structure before the structure after.
module _ (w : WorldValue) (c : CampaignValue) (n : ℕ) (u : Unit) (s : ℕ) (is : get c.units n ≡ Some u) (structures : FinMap nat_cmp Structure) (g : ℕ → Structure → Structure) where
  -- unit n as it is inside structure s
  abbrev pub moved_unit : Unit
  moved_unit = record u { structure = s }

  abbrev units : FinMap nat_cmp Unit
  units = insert c.units n moved_unit

  -- the campaign in which unit n is inside structure s, and `structures` are in place of its own
  abbrev pub refitted : CampaignValue
  refitted = record c { units = units; structures = structures }

  -- A refit: unit n is inside structure s of its region, or inside none (s is 0). There are as many structures: those
  -- that g makes of the old ones, each changed in owner and name at most, and with its right owner.
  pub record IsRefit : Type 0 where
    pub at : (k : ℕ) → get structures k ≡ option_map (g k) (get c.structures k)
    pub count : len structures ≡ len c.structures
    pub same : Every (λ k y. IsRelabelled y (g k y)) c.structures
    pub owned : Every (λ k y. IsOwned refitted k (g k y)) c.structures
    -- s, if it isn't 0, is a structure of the unit's region
    pub inside : s ≢ 0 → (x : Structure) × (get c.structures s ≡ Some x) × (x.region ≡ u.region)
    -- where the unit's region is water, s is a ship
    pub afloat : is_land_at w u.region ≡ false → (x : Structure) × (get c.structures s ≡ Some x) × (is_ship w x ≡ true)

  -- the campaign `refitted` is a refit of c, with right owners (`refit`)
  module _ (refit : IsRefit) where
    every_structure : (P : ℕ → Structure → Type 0) → Every (λ k y. P k (g k y)) c.structures → Every P structures
    every_structure P h k x there =
        let (y, was, same) = mapped_from (g k) (get c.structures k) x (sym (refit.at k) ∙ there) in
        subst (P k) same (h k y was)

    forth : (k : ℕ) (y : Structure) → get c.structures k ≡ Some y → get structures k ≡ Some (g k y)
    forth k y there = refit.at k ∙ ap (option_map (g k)) there

    none_kept : (k : ℕ) → get c.structures k ≡ None → get structures k ≡ None
    none_kept k none = refit.at k ∙ ap (option_map (g k)) none

    numbers_kept : AreInRange w c → AreInRange w refitted
    numbers_kept old =
        in_range_replaced c units structures w (same_len c.units n u moved_unit is) refit.count
        (every-insert (λ k x. (1 ≤ k) × IsHolding x.holding) c.units n moved_unit (old.units n u is) old.units)
        (every_structure (λ k x. (1 ≤ x.done) × (x.done ≤ size_of w x.kind)) (λ k y was. let r = refit.same k y was in rw (r.done, r.kind) (old.structures k y was))) old

    still_inside : (j region : ℕ) → (x : Structure) × (get c.structures j ≡ Some x) × (x.region ≡ region)
        → (x : Structure) × (get structures j ≡ Some x) × (x.region ≡ region)
    still_inside j region (x, there, here) = (g j x, forth j x there, (refit.same j x there).region ∙ here)

    known_kept : AreKnown w c → AreKnown w refitted
    known_kept old = record {
      regions = old.regions;
      markets = old.markets;
      units = every-insert (λ k x. IsPlaced w refitted x) c.units n moved_unit
          (let p = old.units n u is in record { faction = p.faction; region = p.region; structure = λ some. still_inside s u.region (refit.inside some); items = p.items; skills = p.skills })
          (λ k x there. let p = old.units k x there in record { faction = p.faction; region = p.region; structure = λ some. still_inside x.structure x.region (p.structure some); items = p.items; skills = p.skills });
      structures = every_structure (λ k x. IsBuilt w refitted x) (λ k y was.
          let b = old.structures k y was in
          let r = refit.same k y was in
          record {
            kind = rw r.kind b.kind;
            region = rw r.region b.region;
            owner = λ some. let (v, here, inside) = (refit.owned k y was).owned some in (v, here);
          });
      posts = old.posts;
    }

    next_kept : AreNumbered c → AreNumbered refitted
    next_kept =
        numbered_replaced c units structures refit.count
        (λ k none. get-insert_other c.units n k moved_unit (λ same. none_some u (sym none ∙ ap (get c.units) same ∙ is)) ∙ none) none_kept

    gone_kept : GoneHaveNone c → GoneHaveNone refitted
    gone_kept old m f there gone =
        numbers_where-insert_known (λ x. x.faction == m) c.units n u moved_unit is refl ∙ old m f there gone

    still_aboard : (j : ℕ) → (x : Structure) × (get c.structures j ≡ Some x) × (is_ship w x ≡ true)
        → (x : Structure) × (get structures j ≡ Some x) × (is_ship w x ≡ true)
    still_aboard j (x, there, ship) = (g j x, forth j x there, rw ((refit.same j x there).kind) ship)

    water_kept : AreAfloat w c → AreAfloat w refitted
    water_kept old = record {
      units =
          every-insert (λ k x. is_land_at w x.region ≡ false → IsAboard w refitted x) c.units n moved_unit
          (λ sea. still_aboard s (refit.afloat sea))
          (λ k x there sea. still_aboard x.structure (old.units k x there sea));
      structures = every_structure (λ k x. is_land_at w x.region ≡ false → (is_ship w x ≡ true) × (x.done ≡ size_of w x.kind)) (λ k y was. let r = refit.same k y was in rw (r.region, r.kind, r.done) (old.structures k y was));
    }

    -- Units that pass a test are of one faction in each region after the refit, if they were before.
    -- The moved unit passes the test only if it did before.
    module _ (test : Unit → Bool) (only : test moved_unit ≡ true → test u ≡ true) where
      abbrev Agree : Unit → Unit → Type 0
      Agree x y = test x ≡ true → test y ≡ true → x.region ≡ y.region → x.faction ≡ y.faction

      -- the units of each region that pass the test are of one faction after the refit, if they were before
      pub of_one_faction_refitted : AreOfOneFaction test c → AreOfOneFaction test refitted
      of_one_faction_refitted old =
          every-insert (λ k x. Every (λ m y. Agree x y) units) c.units n moved_unit
          (every-insert (λ m y. Agree moved_unit y) c.units n moved_unit (λ g k same. refl) (λ m y there g k same. old n u is m y there (only g) k same))
          (λ k x here. every-insert (λ m y. Agree x y) c.units n moved_unit (λ g k2 same. old k x here n u is g (only k2) same) (old k x here))

    -- a refit of a steady campaign is steady
    pub steady-refitted : IsSteady w c → IsSteady w refitted
    steady-refitted old = record {
      numbers = numbers_kept old.numbers;
      names =
          named_replaced c units structures (every-insert (λ k x. IsTrue (name_ok x.holding.name)) c.units n moved_unit (old.names.units n u is) old.names.units)
          (every_structure (λ k x. IsTrue (name_ok x.name)) (λ k y was. (refit.same k y was).name (old.names.structures k y was))) old.names;
      known = known_kept old.known;
      next = next_kept old.next;
      days = every-insert (λ k x. Every (λ j days. (1 ≤ days) × (days ≤ most_days * x.holding.men)) x.holding.days) c.units n moved_unit (old.days n u is) old.days;
      gone = gone_kept old.gone;
      owners = every_structure (λ k x. IsOwned refitted k x) refit.owned;
      water = water_kept old.water;
      guarded = of_one_faction_refitted guards (λ g. g) old.guarded;
    }

    -- a refit of an early campaign is early
    pub early-refitted : IsEarly w c → IsEarly w refitted
    early-refitted old =
        record { steady = steady-refitted old.steady; flags = of_one_faction_refitted (λ x. x.holding.guard) (λ g. g) old.flags }

  cancelled : (a b h r : ℕ) → a + h ≡ b + h → a + r ≡ b + r
  cancelled a b h r e = omega arith

  -- a refit has the same total of each thing as the campaign before
  pub total-refitted : (t : Thing) → total refitted t ≡ total c t
  unfolding total
  total-refitted t =
      let stock = λ (x : Unit). unit_amount t x.holding in
      cancelled (sum_over stock units) (sum_over stock c.units) (unit_amount t u.holding) (sum_over (λ (r : Region). region_amount t r) c.regions)
      (sum_over-insert_known stock c.units n u moved_unit is)

-- Campaign c with `structures` in place of its own, as g makes them of each number and structure (`at`): as many,
-- changed in owner and name at most (`same`), rightly owned (`owned`). Unit n (u) stays where it is.
module _ (w : WorldValue) (c : CampaignValue) (n : ℕ) (u : Unit) (is : get c.units n ≡ Some u) (structures : FinMap nat_cmp Structure) (g : ℕ → Structure → Structure)
    (at : (k : ℕ) → get structures k ≡ option_map (g k) (get c.structures k)) (count : len structures ≡ len c.structures)
    (same : Every (λ k y. IsRelabelled y (g k y)) c.structures) (owned : Every (λ k y. IsOwned c k (g k y)) c.structures) where
  -- unit n put inside the structure that it is inside already, so it is the same unit
  abbrev as_it_was : Unit
  as_it_was = record u { structure = u.structure }

  units_stay : insert c.units n as_it_was ≡ c.units
  units_stay = put_same c.units n u as_it_was is refl

  relabelled_refit : IsEarly w c → IsRefit w c n u u.structure is structures g
  relabelled_refit old = record {
    at = at;
    count = count;
    same = same;
    owned = λ k y there. let o = owned k y there in subst (λ (m : FinMap nat_cmp Unit). IsOwned (record c { units = m; structures = structures }) k (g k y)) (sym units_stay) (record { owned = o.owned; ownerless = o.ownerless });
    inside = (old.steady.known.units n u is).structure;
    afloat = old.steady.water.units n u is;
  }

  -- an early campaign stays early when its structures change, each in owner and name at most, and with its right owner
  pub early-relabelled : IsEarly w c → IsEarly w (record c { structures = structures })
  early-relabelled old =
      subst (λ (m : FinMap nat_cmp Unit). IsEarly w (record c { units = m; structures = structures })) units_stay
      (early-refitted w c n u u.structure is structures g (relabelled_refit old) old)
