-- Laws of a change of one value of a map, and of the structures after one of them went to another owner (a handover).
-- In the laws k is the number of the value or the structure that changes, and q any number.
use Rattle.std.proofs.Common.{◌≡◌, ◌≢◌, ◌==◌, ◌&&◌, ℕ, Bool, true, false, Option, Some, None, refl, sym, ap, ◌∙◌, inl, inr}
use Rattle.std.specs.Prelude.{option_map, if◌then◌else◌}
use Rattle.std.specs.Ordering.{nat_cmp}
use Rattle.std.specs.FinMap.{FinMap, get, len}
use Rattle.std.proofs.lemmas.Bool.{cases_eq, eq-eqb}
use Rattle.atl_world.specs.Sums.{with_changed_value, with_changed_option}
use Rattle.atl_records.specs.declared.records.Structure.{Structure}
use Rattle.atl_records.specs.declared.records.Unit.{Unit}
use Rattle.atl_campaign.specs.Owners.{after_handover, heir, is_owned_by, with_position, with_place, with_place_at}
use Rattle.atl_campaign.specs.Campaign.{CampaignValue, with_owner}
use Rattle.atl_world.proofs.EveryLaws.{get-insert_other, other_number}
use Rattle.atl_campaign.proofs.LeavingLaws.{owned_by}
use Rattle.atl_campaign.proofs.RegionLaws.{get-insert_same, same_len}

-- ---- a value of a map that is changed

-- map m, in which the value under number k, if there is one, is changed to f of it
module _ {V : Type 0} (f : V → V) (m : FinMap nat_cmp V) (k : ℕ) where
  -- what a change under number k makes of the value under number q: f of it if q is k, and the value as it is otherwise
  abbrev pub at_number : ℕ → V → V
  at_number q v = if q == k then f v else v

  mapped_here : (q : ℕ) → (q == k) ≡ true → (o : Option V) → option_map f o ≡ option_map (at_number q) o
  mapped_here q t None = refl
  mapped_here q t (Some v) = ap (λ b. Some (if b then f v else v)) (sym t)

  mapped_else : (q : ℕ) → (q == k) ≡ false → (o : Option V) → o ≡ option_map (at_number q) o
  mapped_else q t None = refl
  mapped_else q t (Some v) = ap (λ b. Some (if b then f v else v)) (sym t)

  changed_here : (o : Option V) → get m k ≡ o → get (with_changed_option f m k o) k ≡ option_map f o
  changed_here None is = is
  changed_here (Some v) is = get-insert_same m k (f v)

  -- a change under number k to f of the value in `o`, if there is one, leaves what the map has under another number q
  pub changed_else : (q : ℕ) → q ≢ k → (o : Option V) → get (with_changed_option f m k o) q ≡ get m q
  changed_else q apart None = refl
  changed_else q apart (Some v) = get-insert_other m k q (f v) apart

  -- a look-up after a change under number k finds what `at_number` makes of the value before
  pub get-changed : (q : ℕ) → get (with_changed_value f m k) q ≡ option_map (at_number q) (get m q)
  get-changed q = elim (cases_eq q k) [
    | inl same ↦
        ap (get (with_changed_value f m k)) same ∙ changed_here (get m k) refl
        ∙ ap (λ j. option_map f (get m j)) (sym same)
        ∙ mapped_here q (eq-eqb q k same) (get m q)
    | inr apart ↦ changed_else q apart (get m k) ∙ mapped_else q (other_number q k apart) (get m q)
  ]

  len_by : (o : Option V) → get m k ≡ o → len (with_changed_option f m k o) ≡ len m
  len_by None is = refl
  len_by (Some v) is = same_len m k v (f v) is

  -- the map has as many values after a change as before
  pub len-changed : len (with_changed_value f m k) ≡ len m
  len-changed = len_by (get m k) refl

-- ---- a structure that goes from one owner to another

-- structure q after a handover of structure k: with the owner `to` if q is k and `from` owned it, and as it was
-- otherwise
abbrev pub handed_on : (k from to q : ℕ) → Structure → Structure
handed_on k from to q y = if q == k && y.owner == from then owned_by to y else y

-- a handover in campaign c: structure k, if its owner is unit `from`, gets unit `to` as owner; owner 0 is nobody
module _ (c : CampaignValue) (k from to : ℕ) where
  -- the campaign after structure k got the owner `to`, if `from` owned it (the test is true), and otherwise as it was
  abbrev after : Bool → CampaignValue
  after b = if b then with_owner c k to else c

  here_by : (y : Structure) → get c.structures k ≡ Some y → (b : Bool)
      → get (after b).structures k ≡ Some (if b then owned_by to y else y)
  here_by y is true =
      changed_here (owned_by to) c.structures k (get c.structures k) refl ∙ ap (option_map (owned_by to)) is
  here_by y is false = is

  here : (o : Option Structure) → get c.structures k ≡ o
      → get (after (is_owned_by o from)).structures k ≡ option_map (handed_on k from to k) o
  here None is = is
  here (Some y) is =
      here_by y is (y.owner == from)
      ∙ ap (λ b. Some (if b && y.owner == from then owned_by to y else y)) (sym (eq-eqb k k refl))

  else_by : (q : ℕ) → q ≢ k → (b : Bool) → get (after b).structures q ≡ get c.structures q
  else_by q apart true = changed_else (owned_by to) c.structures k q apart (get c.structures k)
  else_by q apart false = refl

  unmoved : (q : ℕ) → q ≢ k → (o : Option Structure) → o ≡ option_map (handed_on k from to q) o
  unmoved q apart None = refl
  unmoved q apart (Some y) =
      ap (λ b. Some (if b && y.owner == from then owned_by to y else y)) (sym (other_number q k apart))

  -- a look-up after a handover finds structure k with the owner `to`, if `from` owned it, and each structure as it was
  -- otherwise (`handed_on`)
  pub get-after_handover : (q : ℕ)
      → get (after_handover c k from to).structures q ≡ option_map (handed_on k from to q) (get c.structures q)
  get-after_handover q = elim (cases_eq q k) [
    | inl same ↦
        ap (get (after_handover c k from to).structures) same ∙ here (get c.structures k) refl
        ∙ ap (λ j. option_map (handed_on k from to j) (get c.structures j)) (sym same)
    | inr apart ↦ else_by q apart (is_owned_by (get c.structures k) from) ∙ unmoved q apart (get c.structures q)
  ]

  handed_cases : (P : CampaignValue → Type 0) → P c → P (with_owner c k to) → P (after_handover c k from to)
  handed_cases P same handed =
      elim (is_owned_by (get c.structures k) from) as (λ b. P (after b)) [ true ↦ handed | false ↦ same ]

  -- there are as many structures after a handover as before
  pub len-after_handover : len (after_handover c k from to).structures ≡ len c.structures
  len-after_handover =
      handed_cases (λ d. len d.structures ≡ len c.structures) refl (len-changed (owned_by to) c.structures k)

  -- a handover changes nothing but the structures
  pub handed_is : after_handover c k from to ≡ record c { structures = (after_handover c k from to).structures }
  handed_is = handed_cases (λ d. d ≡ record c { structures = d.structures }) refl refl

-- P holds of the campaign after unit n is put in region r and structure s, where three things hold. P holds of the
-- campaign as it was, and of the one in which only the unit is put there; and each handover of a structure keeps P.
pub placed_cases : (P : CampaignValue → Type 0) (c : CampaignValue) (n r s : ℕ) → P c → P (with_position c n r s)
    → ((d : CampaignValue) (k from to : ℕ) → P d → P (after_handover d k from to)) → P (with_place c n r s)
unfolding with_place
placed_cases P c n r s same put handed = by_unit (get c.units n)
  where
    by_unit : (o : Option Unit) → P (with_place_at c n r s o)
    by_unit None = same
    by_unit (Some u) =
        let out = after_handover (with_position c n r s) u.structure n (heir c u.structure n) in
        elim (u.structure == s) as (λ b. P (if b then with_position c n r s else after_handover out s 0 n)) [
          | true ↦ put
          | false ↦ handed out s 0 n (handed (with_position c n r s) u.structure n (heir c u.structure n) put)
        ]
