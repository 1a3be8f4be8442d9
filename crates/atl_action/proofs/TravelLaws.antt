-- Laws of steady campaigns: a campaign stays steady when units change region, structure and guard flag, and structures
-- change region and owner. The campaign after these changes is called the travelled campaign.
use Rattle.std.proofs.Common.{◌≡◌, ◌≢◌, ℕ, ◌*◌, ◌≤◌, true, false, Some, None, sym, ap, subst, ◌∙◌}
use Rattle.std.specs.Prelude.{IsTrue, option_map}
use Rattle.std.specs.Ordering.{nat_cmp}
use Rattle.std.specs.FinMap.{FinMap, get, len}
use Rattle.atl_world.specs.Names.{name_ok}
use Rattle.atl_world.specs.Worlds.{WorldValue}
use Rattle.atl_world.specs.ByNumber.{is_land_at, size_of}
use Rattle.atl_records.specs.Limits.{most_days}
use Rattle.atl_records.specs.declared.records.Structure.{Structure}
use Rattle.atl_records.specs.declared.records.Unit.{Unit}
use Rattle.atl_world.specs.Every.{Every, HasValue}
use Rattle.atl_campaign.specs.Good.{AreAfloat, AreInRange, AreKnown, AreNumbered, AreOfOneFaction, IsAboard, IsBuilt, IsOwned, IsPlaced, IsSteady, guards, is_ship}
use Rattle.atl_records.specs.Holdings.{IsHolding}
use Rattle.atl_campaign.specs.Campaign.{CampaignValue, numbers_of_faction}
use Rattle.atl_phase.proofs.RefitLaws.{in_range_replaced, named_replaced, numbered_replaced, mapped_from}

-- Unit `after` is the same as unit `before`, but for its region, structure and guard flag.
pub record IsSameUnit (before after : Unit) : Type 0 where
  pub faction : after.faction ≡ before.faction
  pub name : after.holding.name ≡ before.holding.name
  pub men : after.holding.men ≡ before.holding.men
  pub money : after.holding.money ≡ before.holding.money
  pub items : after.holding.items ≡ before.holding.items
  pub days : after.holding.days ≡ before.holding.days

-- Structure `after` is the same as structure `before`, but for its region and its owner.
pub record IsSameStructure (before after : Structure) : Type 0 where
  pub kind : after.kind ≡ before.kind
  pub done : after.done ≡ before.done
  pub name : after.name ≡ before.name

-- `units` and `structures` are those after the changes. `f` and `g` make them, by number, of the units and structures
-- of campaign `c` (`AreTravelled`).
module _ (w : WorldValue) (c : CampaignValue) (units : FinMap nat_cmp Unit) (structures : FinMap nat_cmp Structure) (f : ℕ → Unit → Unit) (g : ℕ → Structure → Structure) where
  -- campaign c with `units` and `structures` in the place of its own
  abbrev pub travelled : CampaignValue
  travelled = record c { units = units; structures = structures }

  -- unit u is in a region that is there, and the structure that it is inside, if any, is in that region
  pub record IsPut (u : Unit) : Type 0 where
    pub region : HasValue c.regions u.region
    pub structure : u.structure ≢ 0 → (s : Structure) × (get structures u.structure ≡ Some s) × (s.region ≡ u.region)

  -- The units and structures are as many as in `c`, and what `f` and `g` make of those of `c`.
  pub record AreTravelled : Type 0 where
    pub units_at : (k : ℕ) → get units k ≡ option_map (f k) (get c.units k)
    pub structures_at : (k : ℕ) → get structures k ≡ option_map (g k) (get c.structures k)
    pub unit_count : len units ≡ len c.units
    pub structure_count : len structures ≡ len c.structures
    -- each faction has the same unit numbers
    pub of_factions : (m : ℕ) → numbers_of_faction m units ≡ numbers_of_faction m c.units
    -- units are other at most in region, structure and guard flag
    pub same_units : Every (λ k u. IsSameUnit u (f k u)) c.units
    -- structures are other at most in region and owner
    pub same_structures : Every (λ k y. IsSameStructure y (g k y)) c.structures
    -- each unit is in a region that is there, and inside a structure of this region or none
    pub put : Every (λ k u. IsPut (f k u)) c.units
    -- each structure is in a region that is there
    pub built : Every (λ k y. HasValue c.regions (g k y).region) c.structures
    -- after the changes each structure is owned by a unit inside it, or by nobody where no unit is inside
    pub owned : Every (λ k y. IsOwned travelled k (g k y)) c.structures
    -- on water units are inside ships (`IsAboard`)
    pub aboard : Every (λ k u. is_land_at w (f k u).region ≡ false → IsAboard w travelled (f k u)) c.units
    -- on water structures are complete ships
    pub afloat : Every (λ k y. is_land_at w (g k y).region ≡ false → (is_ship w y ≡ true) × (y.done ≡ size_of w y.kind)) c.structures
    -- units that still guard are as they were
    pub guarding : Every (λ k u. guards (f k u) ≡ true → f k u ≡ u) c.units

  -- the units and structures after the changes are as `AreTravelled` says
  module _ (are : AreTravelled) where
    every_unit : (P : ℕ → Unit → Type 0) → Every (λ k u. P k (f k u)) c.units → Every P units
    every_unit P h k x there =
        let (u, was, same) = mapped_from (f k) (get c.units k) x (sym (are.units_at k) ∙ there) in
        subst (P k) same (h k u was)

    every_structure : (P : ℕ → Structure → Type 0) → Every (λ k y. P k (g k y)) c.structures → Every P structures
    every_structure P h k x there =
        let (y, was, same) = mapped_from (g k) (get c.structures k) x (sym (are.structures_at k) ∙ there) in
        subst (P k) same (h k y was)

    no_unit : (k : ℕ) → get c.units k ≡ None → get units k ≡ None
    no_unit k none = are.units_at k ∙ ap (option_map (f k)) none

    no_structure : (k : ℕ) → get c.structures k ≡ None → get structures k ≡ None
    no_structure k none = are.structures_at k ∙ ap (option_map (g k)) none

    numbers_kept : AreInRange w c → AreInRange w travelled
    numbers_kept old =
        in_range_replaced c units structures w are.unit_count are.structure_count
        (every_unit (λ k x. (1 ≤ k) × IsHolding x.holding) (λ k u was.
        let s = are.same_units k u was in
        let h = old.units k u was in
        (h.0, record { men = rw s.men h.1.men; money = rw s.money h.1.money; items = rw s.items h.1.items })))
        (every_structure (λ k x. (1 ≤ x.done) × (x.done ≤ size_of w x.kind)) (λ k y was. let s = are.same_structures k y was in rw (s.done, s.kind) (old.structures k y was))) old

    placed_kept : AreKnown w c → Every (λ k x. IsPlaced w travelled x) units
    placed_kept old = every_unit (λ k x. IsPlaced w travelled x) (λ k u was.
        let s = are.same_units k u was in
        let p = old.units k u was in
        let q = are.put k u was in
        record { faction = rw s.faction p.faction; region = q.region; structure = q.structure; items = rw s.items p.items; skills = rw s.days p.skills })

    built_kept : AreKnown w c → Every (λ k x. IsBuilt w travelled x) structures
    built_kept old = every_structure (λ k x. IsBuilt w travelled x) (λ k y was.
        let s = are.same_structures k y was in
        record {
          kind = rw s.kind ((old.structures k y was).kind);
          region = are.built k y was;
          owner = λ some. let (v, here, inside) = (are.owned k y was).owned some in (v, here);
        })

    next_kept : AreNumbered c → AreNumbered travelled
    next_kept = numbered_replaced c units structures are.structure_count no_unit no_structure

    water_kept : AreAfloat w travelled
    water_kept = record {
      units = every_unit (λ k x. is_land_at w x.region ≡ false → IsAboard w travelled x) are.aboard;
      structures = every_structure (λ k x. is_land_at w x.region ≡ false → (is_ship w x ≡ true) × (x.done ≡ size_of w x.kind)) (λ k y was sea.
          let s = are.same_structures k y was in
          let a = are.afloat k y was sea in
          (rw s.kind a.0, rw (s.done, s.kind) a.1));
    }

    abbrev Agree : Unit → Unit → Type 0
    Agree x y = guards x ≡ true → guards y ≡ true → x.region ≡ y.region → x.faction ≡ y.faction

    guards_kept : AreOfOneFaction guards c → AreOfOneFaction guards travelled
    guards_kept old =
        every_unit (λ k x. Every (λ m y. Agree x y) units) (λ k u here.
        every_unit (λ m y. Agree (f k u) y) (λ m v there one two.
        let first = are.guarding k u here one in
        let second = are.guarding m v there two in
        agree first second (old k u here m v there) one two))
      where
        agree : {x u y v : Unit} → x ≡ u → y ≡ v → Agree u v → Agree x y
        agree one two same = rw (one, two) same

    -- the travelled campaign is steady, if campaign c is
    pub steady-travelled : IsSteady w c → IsSteady w travelled
    steady-travelled old = record {
      numbers = numbers_kept old.numbers;
      names =
          named_replaced c units structures (every_unit (λ k x. IsTrue (name_ok x.holding.name)) (λ k u was. let s = are.same_units k u was in rw s.name (old.names.units k u was)))
          (every_structure (λ k x. IsTrue (name_ok x.name)) (λ k y was. let s = are.same_structures k y was in rw s.name (old.names.structures k y was))) old.names;
      known = record { regions = old.known.regions; markets = old.known.markets; units = placed_kept old.known; structures = built_kept old.known; posts = old.known.posts };
      next = next_kept old.next;
      days = every_unit (λ k x. Every (λ j days. (1 ≤ days) × (days ≤ most_days * x.holding.men)) x.holding.days) (λ k u was. let s = are.same_units k u was in rw (s.days, s.men) (old.days k u was));
      gone = λ m x there gone. are.of_factions m ∙ old.gone m x there gone;
      owners = every_structure (λ k x. IsOwned travelled k x) are.owned;
      water = water_kept;
      guarded = guards_kept old.guarded;
    }
