-- Laws of removing a unit: the campaign stays steady, totals lose what the unit held, and what changed is marked.
-- Unit n of the campaign c of the world w is u, and `without_unit c n` is the campaign without it. There a structure
-- that n was inside and owned has its next owner: the lowest-numbered other unit inside, or 0 for nobody.
-- `MarksChanges` also says that no mark is lost. Where the unit or structure of a law on marks isn't there, nothing
-- changes and nothing is marked.
use Rattle.std.proofs.Common.{◌≡◌, ◌≢◌, ◌==◌, ℕ, ◌+◌, ◌≤◌, ◌<◌, Bool, true, false, length, not, List, Option, Some, None, refl, sym, ap, subst, ◌∙◌, arith, true≢false}
use Rattle.std.specs.Prelude.{option_map, if◌then◌else◌}
use Rattle.std.proofs.lemmas.Bool.{not-false}
use Rattle.std.proofs.lemmas.Bool.Decides.{nat_tests}
use Rattle.std.specs.declared.cmp.Ordering.TheVariants.{Less, Equal, Greater}
use Rattle.std.specs.Ordering.{nat_cmp}
use Rattle.std.specs.Cmp.{ranked}
use Rattle.std.specs.FinMap.{FinMap, get, insert, len, nat_cmp-IsAntisymmetric, remove}
use Rattle.atl_world.specs.Worlds.{WorldValue}
use Rattle.atl_world.specs.Tracking.{marked_with}
use Rattle.atl_world.specs.ByNumber.{is_land_at, size_of}
use Rattle.atl_campaign.specs.Covers.{MarksChanges}
use Rattle.atl_records.specs.declared.books.Thing.{Thing}
use Rattle.atl_records.specs.declared.records.Region.{Region}
use Rattle.atl_records.specs.declared.records.Structure.{Structure}
use Rattle.atl_records.specs.declared.records.Unit.{Unit}
use Rattle.atl_world.specs.Every.{Every}
use Rattle.atl_campaign.specs.Good.{AreAfloat, AreInRange, AreKnown, AreNumbered, AreOwned, GoneHaveNone, IsBuilt, IsOwned, IsPlaced, IsSteady, is_ship}
use Rattle.atl_campaign.specs.Marking.{gone_marked, gone_marked_at, handed_marked, mark_structure, taken_marked, whole_marked}
use Rattle.atl_campaign.specs.Owners.{after_handover, heir, is_owned_by, without_unit, without_unit_at}
use Rattle.atl_campaign.specs.Campaign.{MarkedCampaign, CampaignValue, numbers_inside, structure_changed, with_owner}
use Rattle.atl_records.specs.Amounts.{unit_amount}
use Rattle.atl_campaign.specs.Totals.{total}
use Rattle.atl_campaign.proofs.CoverLaws.{PartStaysMarked, Structures, KeepsUnmarked, unmarked_differs_from_put, holds_of_changed, marks-refl, marks-trans, marks-unit, part_by_part, put_stays}
use Rattle.atl_world.proofs.EveryLaws.{every-insert, get-insert_other, none_some}
use Rattle.atl_campaign.proofs.HoldingLaws.{structure_in}
use Rattle.atl_campaign.proofs.InsideLaws.{inside_is_listed, is_no_zero, listed_is_inside}
use Rattle.atl_campaign.proofs.OwnerLaws.{gone-what, taken_none}
use Rattle.atl_campaign.proofs.RegionLaws.{changed-known, get-insert_same, same_len}
use Rattle.atl_records.proofs.RemovedLaws.{every-insert_other, every-remove, fewer, get-remove_other, still, sum_over-remove}
use Rattle.atl_campaign.proofs.NumberListLaws.{IsListed, first_of, none_passing, nothing_listed}

-- a structure with the given owner in place of its own
abbrev pub owned_by : ℕ → Structure → Structure
owned_by n s = record s { owner = n }

module _ (w : WorldValue) (c : CampaignValue) (n : ℕ) (u : Unit) (is : get c.units n ≡ Some u) where
  abbrev left : FinMap nat_cmp Unit
  left = remove c.units n

  -- the campaign without unit n, and with the given structures
  abbrev reduced : FinMap nat_cmp Structure → CampaignValue
  reduced structures = record c { units = left; structures = structures }

  -- structures that differ from the campaign's at most in owners: each is owned by a unit left inside, or by nobody
  -- where no unit is left inside
  pub record AreReowned (structures : FinMap nat_cmp Structure) : Type 0 where
    pub count : len structures ≡ len c.structures
    -- each of these structures is, but for its owner, the campaign's of the same number
    pub back : Every (λ k x. (y : Structure) × (o : ℕ) × (get c.structures k ≡ Some y) × (owned_by o y ≡ x)) structures
    -- each of the campaign's structures is, but for its owner, among these under its number
    pub forth : Every (λ k y. (o : ℕ) × (get structures k ≡ Some (owned_by o y))) c.structures
    pub owned : Every (λ k x. IsOwned (reduced structures) k x) structures

  module _ (structures : FinMap nat_cmp Structure) (re : AreReowned structures) where
    abbrev after : CampaignValue
    after = reduced structures

    every_owned : (P : ℕ → Structure → Type 0) → ((k o : ℕ) (y : Structure) → P k y → P k (owned_by o y))
        → Every P c.structures → Every P structures
    every_owned P free old k x there = let (y, o, was, same) = re.back k x there in subst (P k) same (free k o y (old k y was))

    none_kept : (k : ℕ) → get c.structures k ≡ None → get structures k ≡ None
    none_kept k none = by_option (get structures k) refl
      where
        by_option : (o : Option Structure) → get structures k ≡ o → o ≡ None
        by_option None e = refl
        by_option (Some x) e = let (y, p, was, same) = re.back k x e in none_some y (sym none ∙ was)

    numbers_left : AreInRange w c → AreInRange w after
    numbers_left old = record {
      month = old.month;
      few_factions = old.few_factions;
      few_regions = old.few_regions;
      few_units = omega (arith, fewer c.units n, old.few_units);
      few_structures = omega (arith, re.count, old.few_structures);
      next_unit_least = old.next_unit_least;
      next_unit_most = old.next_unit_most;
      factions = old.factions;
      regions = old.regions;
      units = every-remove c.units n _ old.units;
      structures = every_owned (λ k s. (1 ≤ s.done) × (s.done ≤ size_of w s.kind)) (λ k o y h. h) old.structures;
      books = old.books;
    }

    placed_left : AreKnown w c → Every (λ k v. IsPlaced w after v) left
    placed_left old k v there =
        let p = old.units k v (still c.units n k v there).1 in
        record {
          faction = p.faction;
          region = p.region;
          structure = λ some. let (s, at, inside) = p.structure some in let (o, new) = re.forth v.structure s at in (owned_by o s, new, inside);
          items = p.items;
          skills = p.skills;
        }

    built_left : AreKnown w c → Every (λ k s. IsBuilt w after s) structures
    built_left old k x there =
        let (y, o, was, same) = re.back k x there in
        let b = old.structures k y was in
        record {
          kind = subst (λ (s : Structure). s.kind < length w.kinds) same b.kind;
          region = subst (λ (s : Structure). (r : Region) × (get c.regions s.region ≡ Some r)) same b.region;
          owner = λ some. let (v, here, inside) = (re.owned k x there).owned some in (v, here);
        }

    next_left : AreNumbered c → AreNumbered after
    next_left old = record {
      factions = old.factions;
      structures = record { first = none_kept 0 old.structures.first; count = old.structures.count ∙ ap (λ l. l + 1) (sym re.count); free = λ k l. none_kept k (old.structures.free k l) };
      units = λ k l. none_left k (old.units k l);
    }
      where
        none_left : (k : ℕ) → get c.units k ≡ None → get left k ≡ None
        none_left k none = by_option (get left k) refl
          where
            by_option : (o : Option Unit) → get left k ≡ o → o ≡ None
            by_option None e = refl
            by_option (Some x) e = none_some x (sym none ∙ (still c.units n k x e).1)

    gone_left : GoneHaveNone c → GoneHaveNone after
    gone_left old m f there gone =
        let test = λ (v : Unit). v.faction == m in
        nothing_listed test left (every-remove c.units n (λ k v. test v ≡ false) (none_passing test c.units (old m f there gone)))

    water_left : AreAfloat w c → AreAfloat w after
    water_left old = record {
      units = λ k v there sea.
          let (s, at, ship) = old.units k v (still c.units n k v there).1 sea in
          let (o, new) = re.forth v.structure s at in
          (owned_by o s, new, ship);
      structures = every_owned (λ k s. is_land_at w s.region ≡ false → (is_ship w s ≡ true) × (s.done ≡ size_of w s.kind)) (λ k o y h. h) old.structures;
    }

    -- the campaign stays steady without unit n, and with structures that differ at most in owners, if each is owned by
    -- a unit left inside, or by nobody where none is (AreReowned)
    pub steady_left : IsSteady w c → IsSteady w after
    steady_left old = record {
      numbers = numbers_left old.numbers;
      names = record {
        pass = old.names.pass;
        factions = old.names.factions;
        joined = old.names.joined;
        units = every-remove c.units n _ old.names.units;
        structures = every_owned _ (λ k o y h. h) old.names.structures;
      };
      known = record { regions = old.known.regions; markets = old.known.markets; units = placed_left old.known; structures = built_left old.known; posts = old.known.posts };
      next = next_left old.next;
      days = every-remove c.units n _ old.days;
      gone = gone_left old.gone;
      owners = re.owned;
      water = water_left old.water;
      guarded = λ k v there m x here. old.guarded k v (still c.units n k v there).1 m x (still c.units n m x here).1;
    }

  -- ---- who owns the structures

  module _ (old : AreOwned c) (low : Every (λ k v. 1 ≤ k) c.units) where
    -- a structure that unit n owns is the one that n is inside, if owners are inside their structures (AreOwned)
    owns_own : (k : ℕ) (x : Structure) → get c.structures k ≡ Some x → x.owner ≡ n → u.structure ≡ k
    owns_own k x there own =
        let least = low n u is in
        let (v, at, inside) = (old k x there).owned (λ none. absurd (omega (arith, own, none, least))) in
        let one : Some v ≡ Some u = sym at ∙ ap (get c.units) own ∙ is in
        sym (ap (λ o. structure_in o u) one) ∙ inside

    still_owned : (k : ℕ) (x : Structure) (structures : FinMap nat_cmp Structure) → get c.structures k ≡ Some x
        → x.owner ≢ n → IsOwned (reduced structures) k x
    still_owned k x structures there apart =
        let o = old k x there in
        record {
          owned = λ some. let (v, at, inside) = o.owned some in (v, get-remove_other c.units n x.owner apart ∙ at, inside);
          ownerless = λ none. every-remove c.units n (λ m v. v.structure ≢ k) (o.ownerless none);
        }

    -- if unit n does not own the structure that it is inside, each structure still has its owner inside, or no unit
    -- inside, once n is removed (AreReowned)
    AreReowned-unchanged : is_owned_by (get c.structures u.structure) n ≡ false → AreReowned c.structures
    AreReowned-unchanged free = record {
      count = refl;
      back = λ k x there. (x, x.owner, there, refl);
      forth = λ k y there. (y.owner, there);
      owned = λ k x there. still_owned k x c.structures there (λ own. not_owner k x there own);
    }
      where
        owner_test : (o : Option Structure) (x : Structure) → o ≡ Some x → x.owner ≡ n → is_owned_by o n ≡ false → ⊥
        owner_test None x e own f = none_some x e
        owner_test (Some y) x e own f =
            let same : y.owner ≡ x.owner = ap (λ (p : Option Structure). owner_in p x) e in
            let t : (y.owner == n) ≡ true = (let eq : y.owner ≡ n = same ∙ own in grind (arith, nat_tests)) in
            absurd (true≢false (sym t ∙ f))
          where
            -- for owner_test: the owner of the structure in the option, or of the second argument where the option is
            -- None, which it never is there
            owner_in : Option Structure → Structure → ℕ
            owner_in (Some z) d = z.owner
            owner_in None d = d.owner

        not_owner : (k : ℕ) (x : Structure) → get c.structures k ≡ Some x → x.owner ≡ n → ⊥
        not_owner k x there own =
            owner_test (get c.structures u.structure) x (ap (get c.structures) (owns_own k x there own) ∙ there) own
            free

    -- for a unit that owns the structure that it is inside
    module _ (mine : Structure) (here : get c.structures u.structure ≡ Some mine) (some_place : u.structure ≢ 0) where
      -- the next owner of unit n's structure: the first other unit inside, or 0 (nobody) where there is none
      abbrev next : ℕ
      next = heir c u.structure n

      abbrev handed_on : FinMap nat_cmp Structure
      handed_on = insert c.structures u.structure (owned_by next mine)

      abbrev among : List ℕ
      among = numbers_inside u.structure c.units

      is_other : (k : ℕ) → not (k == n) ≡ true → k ≢ n
      is_other k t same = let e : (k == n) ≡ true = grind (arith, nat_tests) in other_not (k == n) t e
        where
          other_not : (b : Bool) → not b ≡ true → b ≡ true → ⊥
          other_not true a b = cc
          other_not false a b = cc

      is_same : (k : ℕ) → not (k == n) ≡ false → k ≡ n
      is_same k t = let e : (k == n) ≡ true = not-false (k == n) t in grind (arith, nat_tests)

      listed_low : (k : ℕ) → IsListed k among → 1 ≤ k
      listed_low k h = let (v, at, inside) = listed_is_inside u.structure c.units k h in low k v at

      heir_owns : IsOwned (reduced handed_on) u.structure (owned_by next mine)
      heir_owns =
          let first = first_of (λ k. not (k == n)) among listed_low in
          record {
            owned = λ some.
                let (listed, other) = first.0 some in
                let (v, at, inside) = listed_is_inside u.structure c.units next listed in
                (v, get-remove_other c.units n next (is_other next other) ∙ at, inside);
            ownerless = λ none k v there within.
                let (apart, at) = still c.units n k v there in
                apart (is_same k (first.1 none k (inside_is_listed u.structure c.units some_place k v at within)));
          }

      as_handed_on : AreReowned handed_on
      as_handed_on = record {
        count = same_len c.structures u.structure mine (owned_by next mine) here;
        back = every-insert (λ k x. (y : Structure) × (o : ℕ) × (get c.structures k ≡ Some y) × (owned_by o y ≡ x)) c.structures u.structure (owned_by next mine) (mine, next, here, refl) (λ k x there. (x, x.owner, there, refl));
        forth = λ k y there. new_owner k y there;
        owned =
            every-insert_other (λ k x. IsOwned (reduced handed_on) k x) c.structures u.structure (owned_by next mine)
            heir_owns
            (λ k x apart there. still_owned k x handed_on there (λ own. apart (sym (owns_own k x there own))));
      }
        where
          new_owner : (k : ℕ) (y : Structure) → get c.structures k ≡ Some y
              → (o : ℕ) × (get handed_on k ≡ Some (owned_by o y))
          new_owner k y there =
              elim (nat_cmp k u.structure) as (λ o. nat_cmp k u.structure ≡ o → (p : ℕ) × (get handed_on k ≡ Some (owned_by p y))) [
                | Less ↦ λ o. (y.owner, get-insert_other c.structures u.structure k (owned_by next mine) (λ same. let l = ranked k u.structure Less (sym o) in absurd (omega arith)) ∙ there)
                | Equal ↦ λ o.
                    let same : k ≡ u.structure = nat_cmp-IsAntisymmetric k u.structure o in
                    let one : Some y ≡ Some mine = sym there ∙ ap (get c.structures) same ∙ here in
                    (next, ap (get handed_on) same ∙ get-insert_same c.structures u.structure (owned_by next mine) ∙ ap (option_map (owned_by next)) (sym one))
                | Greater ↦ λ o. (y.owner, get-insert_other c.structures u.structure k (owned_by next mine) (λ same. let l = ranked k u.structure Greater (sym o) in absurd (omega arith)) ∙ there)
              ] refl

  -- ---- the campaign without the unit

  abbrev gone_from : CampaignValue
  gone_from = record c { units = left }

  -- without_unit removes unit n, and hands the structure that n was inside, if n owned it, to its next owner (`heir`)
  without-known : without_unit c n ≡ after_handover gone_from u.structure n (heir c u.structure n)
  unfolding without_unit
  without-known = ap (without_unit_at c n) is

  steady_handed : IsSteady w c → IsSteady w (after_handover gone_from u.structure n (heir c u.structure n))
  steady_handed old = by_owner (get c.structures u.structure) refl
    where
      low : Every (λ k v. 1 ≤ k) c.units
      low k v there = (old.numbers.units k v there).0

      by_test : (s : Structure) → get c.structures u.structure ≡ Some s → (b : Bool)
          → is_owned_by (get c.structures u.structure) n ≡ b
          → IsSteady w (if b then with_owner gone_from u.structure (heir c u.structure n) else gone_from)
      by_test s here true t =
          subst (λ (m : FinMap nat_cmp Structure). IsSteady w (reduced m)) (sym (changed-known (owned_by (heir c u.structure n)) c.structures u.structure s here))
          (steady_left (insert c.structures u.structure (owned_by (heir c u.structure n) s)) (as_handed_on old.owners low s here (is_no_zero c.structures c.next_structure old.next.structures u.structure s here)) old)
      by_test s here false t = steady_left c.structures (AreReowned-unchanged old.owners low t) old

      by_owner : (o : Option Structure) → get c.structures u.structure ≡ o
          → IsSteady w (if is_owned_by o n then with_owner gone_from u.structure (heir c u.structure n) else gone_from)
      by_owner None here =
          steady_left c.structures (AreReowned-unchanged old.owners low (ap (λ o. is_owned_by o n) here)) old
      by_owner (Some s) here = by_test s here (is_owned_by (Some s) n) (ap (λ o. is_owned_by o n) here)

  -- a steady campaign stays steady when unit n is removed, and a structure that it owned gets its next owner
  pub steady-without : IsSteady w c → IsSteady w (without_unit c n)
  steady-without old = subst (IsSteady w) (sym without-known) (steady_handed old)

  -- removing unit n takes from each total what the unit held
  pub total-without : (t : Thing) → total (without_unit c n) t + unit_amount t u.holding ≡ total c t
  unfolding total
  total-without t =
      ap (λ (d : CampaignValue). total d t + unit_amount t u.holding) without-known
      ∙ by_test (is_owned_by (get c.structures u.structure) n)
    where
      regrouped : (a b s h : ℕ) → a + h ≡ b → (a + s) + h ≡ b + s
      regrouped a b s h e = omega arith

      by_test : (b : Bool)
          → total (if b then with_owner gone_from u.structure (heir c u.structure n) else gone_from) t + unit_amount t u.holding
          ≡ total c t
      by_test true = regrouped _ _ _ _ (sum_over-remove c.units n (λ (x : Unit). unit_amount t x.holding) u is)
      by_test false = regrouped _ _ _ _ (sum_over-remove c.units n (λ (x : Unit). unit_amount t x.holding) u is)

  -- the campaign d has the units of the campaign c but unit n, and the same factions, regions, books, month and reports
  -- as c
  pub record IsOnlyReduced (d : CampaignValue) : Type 0 where
    pub units : d.units ≡ remove c.units n
    pub factions : d.factions ≡ c.factions
    pub regions : d.regions ≡ c.regions
    pub books : d.books ≡ c.books
    pub month : d.month ≡ c.month
    pub reports : d.reports ≡ c.reports

  -- removing unit n leaves the other units, the factions, regions, books, month and reports as they are (IsOnlyReduced)
  pub only_reduced : IsOnlyReduced (without_unit c n)
  only_reduced = subst IsOnlyReduced (sym without-known) (by_test (is_owned_by (get c.structures u.structure) n))
    where
      by_test : (b : Bool)
          → IsOnlyReduced (if b then with_owner gone_from u.structure (heir c u.structure n) else gone_from)
      by_test true =
          record { units = refl; factions = refl; regions = refl; books = refl; month = refl; reports = refl }
      by_test false =
          record { units = refl; factions = refl; regions = refl; books = refl; month = refl; reports = refl }

-- ---- what is marked

-- changing structure n by any function f, with the structure marked, marks all that changes
pub marks-structure : (f : Structure → Structure) (c : MarkedCampaign) (n : ℕ)
    → MarksChanges c (record { value = structure_changed f c.value n; marks = mark_structure c n })
marks-structure f c n =
    let after : FinMap nat_cmp Structure → Option Structure → MarkedCampaign = λ m o. record { value = record c.value { structures = m }; marks = record c.marks { structures = marked_with c.marks.structures n o } } in
    holds_of_changed (λ m o. MarksChanges c (after m o)) f c.value.structures n (marks-refl c) (λ v is.
    let next = after (insert c.value.structures n (f v)) (Some v) in
    part_by_part c next
    (λ p. elim p as (PartStaysMarked c.marks next.marks) [ Structures ↦ put_stays c.marks.structures n | _ ↦ λ k h. h ])
    (λ p. elim p as (KeepsUnmarked next.marks c.value next.value) [ Structures ↦ λ k free. get-insert_other c.value.structures n k (f v) (unmarked_differs_from_put c.marks.structures n k free) | _ ↦ λ k free. refl ]))

-- handing a structure from owner `from` to `to`, with the structure marked if `from` owns it, marks all that changes
pub marks-after_handover : (c : MarkedCampaign) (s from to : ℕ) → MarksChanges c (handed_marked c s from to)
marks-after_handover c s from to = by_test (is_owned_by (get c.value.structures s) from)
  where
    by_test : (b : Bool)
        → MarksChanges c (if b then record { value = with_owner c.value s to; marks = mark_structure c s } else c)
    by_test true = marks-structure (owned_by to) c s
    by_test false = marks-refl c

-- taking unit n out, with it, its row and all its goods (items and days) marked, marks all that changes
pub marks-taken : (c : MarkedCampaign) (n : ℕ) → MarksChanges c (taken_marked c n)
marks-taken c n = by_unit (get c.value.units n) refl
  where
    by_unit : (o : Option Unit) → get c.value.units n ≡ o → MarksChanges c (taken_marked c n)
    by_unit None is = subst (MarksChanges c) (taken_none c n is) (marks-refl c)
    by_unit (Some u) is =
        subst (λ (o : Option Unit). MarksChanges c (record { value = record c.value { units = remove c.value.units n }; marks = whole_marked c.marks n o })) (sym is)
        (marks-unit c (remove c.value.units n) n (λ k apart. get-remove_other c.value.units n k apart))

marks_gone : (c : MarkedCampaign) (n : ℕ) (o : Option Unit) → MarksChanges c (gone_marked_at c n o)
marks_gone c n None = marks-refl c
marks_gone c n (Some u) =
    marks-trans c (taken_marked c n) (gone_marked_at c n (Some u)) (marks-taken c n)
    (marks-after_handover (taken_marked c n) u.structure n (heir c.value u.structure n))

-- all that changes from campaign c to d is marked (MarksChanges), if d is c without unit n, with the marks that
-- gone_marked gives
pub marks-without : (c d : MarkedCampaign) (n : ℕ) → d.value ≡ without_unit c.value n
    → d.marks ≡ (gone_marked c n).marks → MarksChanges c d
unfolding gone_marked
marks-without c d n what marks =
    let all = marks_gone c n (get c.value.units n) in
    rw (what ∙ sym (gone-what c n), marks) (record { stay = all.stay; covers = all.covers })
