-- Laws of the owners of structures when one unit goes elsewhere, and all other units stay. A structure is rightly owned
-- (`IsOwned`) if a unit inside it owns it, or nobody does and no unit is inside.
use Rattle.std.proofs.Common.{◌≡◌, ◌≢◌, ◌==◌, ℕ, ◌≤◌, not, Some, sym, ap, subst, ◌∙◌, inl, inr}
use Rattle.std.proofs.lemmas.Bool.{cases_eq, not-true, not-false}
use Rattle.std.specs.FinMap.{get}
use Rattle.atl_world.proofs.GeneralLaws.{is_equal, is_unequal}
use Rattle.atl_records.specs.declared.records.Structure.{Structure}
use Rattle.atl_records.specs.declared.records.Unit.{Unit}
use Rattle.atl_world.specs.Every.{Every}
use Rattle.atl_campaign.specs.Good.{IsOwned}
use Rattle.atl_campaign.specs.Owners.{heir}
use Rattle.atl_campaign.specs.Campaign.{CampaignValue, numbers_inside}
use Rattle.atl_campaign.proofs.InsideLaws.{inside_is_listed, listed_is_inside}
use Rattle.atl_campaign.proofs.LeavingLaws.{owned_by}
use Rattle.atl_campaign.proofs.NumberListLaws.{IsListed, first_of}

-- campaigns c before and d after unit n went elsewhere: all units but n are the same in both (`away`)
module _ (c d : CampaignValue) (n : ℕ) (away : (k : ℕ) → k ≢ n → get d.units k ≡ get c.units k) where
  -- from campaign c to d units other than n stay: P holds of each unit of d, if it holds of unit n there, and of each
  -- other unit as it is in c
  every_away : (P : ℕ → Unit → Type 0) → ((v : Unit) → get d.units n ≡ Some v → P n v)
      → ((k : ℕ) (v : Unit) → k ≢ n → get c.units k ≡ Some v → P k v) → Every P d.units
  every_away P mine others k v there = elim (cases_eq k n) [
    | inl same ↦ subst (λ j. P j v) (sym same) (mine v (ap (get d.units) (sym same) ∙ there))
    | inr apart ↦ others k v apart (sym (away k apart) ∙ there)
  ]

  -- Structure q (y) that is rightly owned in c, by another unit than n or by nobody, is so in d. If nobody owns it,
  -- unit n must not be inside it in d.
  pub owner_stays : (q : ℕ) (y : Structure) → IsOwned c q y → y.owner ≢ n
      → (y.owner ≡ 0 → (v : Unit) → get d.units n ≡ Some v → v.structure ≢ q) → IsOwned d q y
  owner_stays q y old other outside = record {
    owned = λ some. let (v, there, inside) = old.owned some in (v, away y.owner other ∙ there, inside);
    ownerless = λ none. every_away (λ k v. v.structure ≢ q) (outside none) (λ k v apart there. old.ownerless none k v there);
  }

  -- The structure (y) of number `location`, which isn't 0, is in d rightly owned by its heir: the lowest of the units
  -- but n inside it in c, or nobody (0) where there is none. For this unit n isn't inside it in d, and all units have
  -- numbers of at least 1.
  pub heir_owns : (location : ℕ) → location ≢ 0 → Every (λ k v. 1 ≤ k) c.units
      → ((v : Unit) → get d.units n ≡ Some v → v.structure ≢ location) → (y : Structure)
      → IsOwned d location (owned_by (heir c location n) y)
  heir_owns location some low outside y =
      let next = heir c location n in
      let first = first_of (λ k. not (k == n)) (numbers_inside location c.units) listed_low in
      record {
        owned = λ is_one.
            let (listed, other) = first.0 is_one in
            let (v, there, inside) = listed_is_inside location c.units next listed in
            (v, away next (is_unequal next n (not-true (next == n) other)) ∙ there, inside);
        ownerless = λ none. every_away (λ k v. v.structure ≢ location) outside
            (λ k v apart there inside. apart (is_equal k n (not-false (k == n) (first.1 none k (inside_is_listed location c.units some k v there inside)))));
      }
    where
      listed_low : (k : ℕ) → IsListed k (numbers_inside location c.units) → 1 ≤ k
      listed_low k h = let (v, there, inside) = listed_is_inside location c.units k h in low k v there
