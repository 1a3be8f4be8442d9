-- Laws of beginning a structure and building on it: the campaign stays steady, totals are kept, and changes are marked.
-- To build on a structure sets how much of it is done, to as much as before or more, up to its kind's size.
-- w is the world, c the campaign before the change, and s the structure. In the laws on building, s is structure k as
-- it is before, and `done` is how much of it is done after. `MarksChanges` also says that no mark is lost.
use Rattle.std.proofs.Common.{◌≡◌, ◌≢◌, ℕ, ◌+◌, ◌≤◌, ◌<◌, true, false, cond, length, Some, None, refl, sym, ap, subst, ◌∙◌, inl, inr, arith, true≢false}
use Rattle.std.specs.Prelude.{IsTrue, is_some}
use Rattle.std.proofs.lemmas.Bool.{cases_eq}
use Rattle.std.specs.Cmp.{nat_cmp_total}
use Rattle.std.specs.Ordering.{nat_cmp}
use Rattle.std.specs.FinMap.{FinMap, get, insert, len, len-insert}
use Rattle.atl_world.specs.Names.{name_ok}
use Rattle.atl_world.specs.Worlds.{WorldValue}
use Rattle.atl_world.specs.ByNumber.{is_land_at, size_of}
use Rattle.atl_campaign.specs.Covers.{MarksChanges}
use Rattle.atl_records.specs.declared.books.Thing.{Thing}
use Rattle.atl_records.specs.declared.records.Structure.{Structure}
use Rattle.atl_world.specs.Every.{Every, HasValue}
use Rattle.atl_campaign.specs.Good.{AreAfloat, AreInRange, AreKnown, AreNumbered, AreOwned, IsBuilt, IsOwned, IsSteady, is_ship}
use Rattle.atl_records.specs.Limits.{most_structures}
use Rattle.atl_campaign.specs.Marking.{mark_structure_begun}
use Rattle.atl_campaign.specs.Campaign.{MarkedCampaign, CampaignValue, with_done, with_structure_begun}
use Rattle.atl_campaign.specs.Totals.{total}
use Rattle.atl_campaign.proofs.CoverLaws.{Row, PartStaysMarked, Structures, KeepsUnmarked, unmarked_differs_from_put, part_by_part, put_stays}
use Rattle.atl_world.proofs.EveryLaws.{every-insert, get-insert_other, none_some}
use Rattle.atl_campaign.proofs.RegionLaws.{changed-known, get-insert_same, same_len}

-- ---- a structure is begun

-- A structure that can be begun: its name keeps the rule of names, it has no owner, and it is of a kind of the world.
-- It is in a land region of the campaign, and from 1 to the kind's size of it is done.
pub record IsFresh (w : WorldValue) (c : CampaignValue) (s : Structure) : Type 0 where
  pub kind : s.kind < length w.kinds
  pub name : IsTrue (name_ok s.name)
  pub region : HasValue c.regions s.region
  pub land : is_land_at w s.region ≡ true
  pub least : 1 ≤ s.done
  pub most : s.done ≤ size_of w s.kind
  pub ownerless : s.owner ≡ 0

-- c is steady, s can be begun (IsFresh), and the next structure number, which s gets, is at most most_structures
module _ (w : WorldValue) (c : CampaignValue) (s : Structure) (fresh : IsFresh w c s) (room : c.next_structure ≤ most_structures) (old : IsSteady w c) where
  abbrev next : ℕ
  next = c.next_structure

  abbrev structures : FinMap nat_cmp Structure
  structures = insert c.structures next s

  -- the campaign with structure s begun, and the next structure number one higher
  abbrev pub raised : CampaignValue
  raised = with_structure_begun c s

  free : get c.structures next ≡ None
  free = old.next.structures.free next (omega arith)

  stays : (k : ℕ) (y : Structure) → get c.structures k ≡ Some y → get structures k ≡ Some y
  stays k y there =
      get-insert_other c.structures next k s (λ same. none_some y (sym free ∙ ap (get c.structures) (sym same) ∙ there))
      ∙ there

  one_more : len structures ≡ len c.structures + 1
  one_more =
      len-insert nat_cmp_total c.structures next s
      ∙ ap (λ o. cond (is_some o) (len c.structures) (len c.structures + 1)) free

  numbers_kept : AreInRange w raised
  numbers_kept = record {
    month = old.numbers.month;
    few_factions = old.numbers.few_factions;
    few_regions = old.numbers.few_regions;
    few_units = old.numbers.few_units;
    few_structures = omega (arith, one_more, old.next.structures.count, room);
    next_unit_least = old.numbers.next_unit_least;
    next_unit_most = old.numbers.next_unit_most;
    factions = old.numbers.factions;
    regions = old.numbers.regions;
    units = old.numbers.units;
    structures = every-insert (λ k x. (1 ≤ x.done) × (x.done ≤ size_of w x.kind)) c.structures next s (fresh.least, fresh.most) old.numbers.structures;
    books = old.numbers.books;
  }

  nobody : {P : Type 0} → s.owner ≢ 0 → P
  nobody some = absurd (some fresh.ownerless)

  known_kept : AreKnown w raised
  known_kept = record {
    regions = old.known.regions;
    markets = old.known.markets;
    units = λ k x there.
        let p = old.known.units k x there in
        record { faction = p.faction; region = p.region; structure = λ some. let (y, at, here) = p.structure some in (y, stays x.structure y at, here); items = p.items; skills = p.skills };
    structures =
        every-insert (λ k x. IsBuilt w raised x) c.structures next s
        (record { kind = fresh.kind; region = fresh.region; owner = λ some. nobody some })
        old.known.structures;
    posts = old.known.posts;
  }

  next_kept : AreNumbered raised
  next_kept =
      let numbered = old.next.structures in
      record {
        factions = old.next.factions;
        structures = record {
          first = get-insert_other c.structures next 0 s (λ same. omega (arith, numbered.count, same)) ∙ numbered.first;
          count = omega (arith, numbered.count, one_more);
          free = λ k l. get-insert_other c.structures next k s (λ same. omega (arith, l, same)) ∙ numbered.free k (omega (arith, l));
        };
        units = old.next.units;
      }

  -- no unit is inside the structure of the next number before it is begun
  pub nobody_inside : Every (λ m v. v.structure ≢ next) c.units
  nobody_inside m v there here =
      let (y, at, region) = (old.known.units m v there).structure (λ none. omega (arith, none, here, old.next.structures.count)) in
      none_some y (sym free ∙ ap (get c.structures) (sym here) ∙ at)

  owners_kept : AreOwned raised
  owners_kept =
      every-insert (λ k x. IsOwned raised k x) c.structures next s (record { owned = λ some. nobody some; ownerless = λ none. nobody_inside })
      old.owners

  water_kept : AreAfloat w raised
  water_kept = record {
    units = λ k x there wet. let (y, at, ship) = old.water.units k x there wet in (y, stays x.structure y at, ship);
    structures = every-insert (λ k x. is_land_at w x.region ≡ false → (is_ship w x ≡ true) × (x.done ≡ size_of w x.kind)) c.structures next s (λ wet. absurd (true≢false (sym fresh.land ∙ wet))) old.water.structures;
  }

  -- the campaign stays steady once structure s is begun
  pub steady_raised : IsSteady w raised
  steady_raised = record {
    numbers = numbers_kept;
    names = record {
      pass = old.names.pass;
      factions = old.names.factions;
      joined = old.names.joined;
      units = old.names.units;
      structures = every-insert (λ k x. IsTrue (name_ok x.name)) c.structures next s fresh.name old.names.structures;
    };
    known = known_kept;
    next = next_kept;
    days = old.days;
    gone = old.gone;
    owners = owners_kept;
    water = water_kept;
    guarded = old.guarded;
  }

  -- beginning a structure changes no total
  pub total_raised : (t : Thing) → total raised t ≡ total c t
  unfolding total
  total_raised t = refl

  pub raised_there : get raised.structures next ≡ Some s
  raised_there = get-insert_same c.structures next s

-- beginning a structure, with it and the campaign row marked, marks all that changes
pub marks-structure_begun : (c : MarkedCampaign) (s : Structure)
    → MarksChanges c (record { value = with_structure_begun c.value s; marks = mark_structure_begun c })
marks-structure_begun c s =
    let n = c.value.next_structure in
    let next : MarkedCampaign = record { value = with_structure_begun c.value s; marks = mark_structure_begun c } in
    part_by_part c next
    (λ p. elim p as (PartStaysMarked c.marks next.marks) [ Structures ↦ put_stays c.marks.structures n | Row ↦ λ k h. refl | _ ↦ λ k h. h ])
    (λ p. elim p as (KeepsUnmarked next.marks c.value next.value) [
      | Structures ↦ λ k free. get-insert_other c.value.structures n k s (unmarked_differs_from_put c.marks.structures n k free)
      | Row ↦ λ k free. absurd (true≢false free)
      | _ ↦ λ k free. refl
    ])

-- ---- more of a structure is done

module _ (w : WorldValue) (c : CampaignValue) (k : ℕ) (s : Structure) (done : ℕ) (is : get c.structures k ≡ Some s) where
  abbrev further : Structure
  further = record s { done = done }

  -- the campaign in which structure k is s, but with `done` of it done
  abbrev pub built : CampaignValue
  built = record c { structures = insert c.structures k further }

  pub built_is : with_done c k done ≡ built
  built_is = ap (λ m. record c { structures = m }) (changed-known (λ x. record x { done = done }) c.structures k s is)

  -- c is steady, and `done` is at least as much as before, and at most the size of s's kind
  module _ (more : s.done ≤ done) (most : done ≤ size_of w s.kind) (was : IsSteady w c) where
    -- a structure with a property P is still there with P after building on structure k, if building on k keeps P
    still : (P : Structure → Type 0) → (P s → P further) → (j : ℕ)
        → (y : Structure) × (get c.structures j ≡ Some y) × P y
        → (y : Structure) × (get built.structures j ≡ Some y) × P y
    still P keep j (y, there, p) = elim (cases_eq j k) [
      | inl same ↦
          let one : Some y ≡ Some s = sym there ∙ ap (get c.structures) same ∙ is in
          let structure : y ≡ s = cc in
          (further, ap (get built.structures) same ∙ get-insert_same c.structures k further, keep (subst P structure p))
      | inr apart ↦ (y, get-insert_other c.structures k j further apart ∙ there, p)
    ]

    numbers_built : AreInRange w built
    numbers_built = record {
      month = was.numbers.month;
      few_factions = was.numbers.few_factions;
      few_regions = was.numbers.few_regions;
      few_units = was.numbers.few_units;
      few_structures = omega (arith, same_len c.structures k s further is, was.numbers.few_structures);
      next_unit_least = was.numbers.next_unit_least;
      next_unit_most = was.numbers.next_unit_most;
      factions = was.numbers.factions;
      regions = was.numbers.regions;
      units = was.numbers.units;
      structures = every-insert (λ j x. (1 ≤ x.done) × (x.done ≤ size_of w x.kind)) c.structures k further (omega (arith, more, (was.numbers.structures k s is).0), most) was.numbers.structures;
      books = was.numbers.books;
    }

    known_built : AreKnown w built
    known_built = record {
      regions = was.known.regions;
      markets = was.known.markets;
      units = λ j x there.
          let p = was.known.units j x there in
          record { faction = p.faction; region = p.region; structure = λ some. still (λ y. y.region ≡ x.region) (λ here. here) x.structure (p.structure some); items = p.items; skills = p.skills };
      structures =
          every-insert (λ j x. IsBuilt w built x) c.structures k further
          (let b = was.known.structures k s is in record { kind = b.kind; region = b.region; owner = b.owner })
          was.known.structures;
      posts = was.known.posts;
    }

    apart_free : (j : ℕ) → get c.structures j ≡ None → get built.structures j ≡ None
    apart_free j none =
        get-insert_other c.structures k j further (λ same. none_some s (sym none ∙ ap (get c.structures) same ∙ is))
        ∙ none

    next_built : AreNumbered built
    next_built = record {
      factions = was.next.factions;
      structures = record {
        first = apart_free 0 was.next.structures.first;
        count = was.next.structures.count ∙ ap (λ l. l + 1) (sym (same_len c.structures k s further is));
        free = λ j l. apart_free j (was.next.structures.free j l);
      };
      units = was.next.units;
    }

    owners_built : AreOwned built
    owners_built =
        every-insert (λ j x. IsOwned built j x) c.structures k further (let o = was.owners k s is in record { owned = o.owned; ownerless = o.ownerless })
        was.owners

    complete : s.done ≡ size_of w s.kind → done ≡ size_of w s.kind
    complete e = omega (arith, e, more, most)

    water_built : AreAfloat w built
    water_built = record {
      units = λ j x there wet. still (λ y. is_ship w y ≡ true) (λ ship. ship) x.structure (was.water.units j x there wet);
      structures =
          every-insert (λ j x. is_land_at w x.region ≡ false → (is_ship w x ≡ true) × (x.done ≡ size_of w x.kind))
          c.structures k further
          (λ wet. let (ship, all) = was.water.structures k s is wet in (ship, complete all)) was.water.structures;
    }

    -- building on a structure keeps the campaign steady
    pub steady_built : IsSteady w built
    steady_built = record {
      numbers = numbers_built;
      names = record {
        pass = was.names.pass;
        factions = was.names.factions;
        joined = was.names.joined;
        units = was.names.units;
        structures = every-insert (λ j x. IsTrue (name_ok x.name)) c.structures k further (was.names.structures k s is) was.names.structures;
      };
      known = known_built;
      next = next_built;
      days = was.days;
      gone = was.gone;
      owners = owners_built;
      water = water_built;
      guarded = was.guarded;
    }

    -- building on a structure changes no total
    pub total_built : (t : Thing) → total built t ≡ total c t
    unfolding total
    total_built t = refl
