-- Laws of the list of units inside a structure: it has those units, and no others.
-- `numbers_inside s units` is this list: the numbers of the units inside structure s, in rising order; none for 0.
use Rattle.std.proofs.Common.{◌≡◌, ◌≢◌, ◌==◌, ℕ, true, false, cond, [], Some, ap, sym, ◌∙◌}
use Rattle.std.specs.Ordering.{nat_cmp}
use Rattle.std.specs.FinMap.{FinMap, get}
use Rattle.atl_world.proofs.GeneralLaws.{is_equal}
use Rattle.atl_world.specs.Sums.{numbers_where}
use Rattle.atl_records.specs.declared.records.Unit.{Unit}
use Rattle.atl_world.specs.Every.{Every}
use Rattle.atl_campaign.specs.Good.{IsNumbered}
use Rattle.atl_campaign.specs.Campaign.{numbers_inside}
use Rattle.atl_world.proofs.EveryLaws.{none_some, other_number, same_number}
use Rattle.atl_campaign.proofs.NumberListLaws.{IsListed, listed_passing, passing_listed}

-- each number in the list of units inside structure s is that of a unit inside it
pub listed_is_inside : (s : ℕ) (units : FinMap nat_cmp Unit) (k : ℕ) → IsListed k (numbers_inside s units)
    → (v : Unit) × (get units k ≡ Some v) × (v.structure ≡ s)
listed_is_inside s units k listed =
    elim (s == 0) as (λ b. IsListed k (cond b [] (numbers_where (λ u. u.structure == s) units)) → (v : Unit) × (get units k ≡ Some v) × (v.structure ≡ s)) [
      | true ↦ λ h. absurd h
      | false ↦ λ h. let (v, is, t) = listed_passing (λ u. u.structure == s) units k h in (v, is, is_equal v.structure s t)
    ] listed

-- each unit inside structure s, which isn't 0 (no structure), is in the list of units inside it
pub inside_is_listed : (s : ℕ) (units : FinMap nat_cmp Unit) → s ≢ 0
    → Every (λ k v. v.structure ≡ s → IsListed k (numbers_inside s units)) units
inside_is_listed s units some k v is inside =
    rw (other_number s 0 some)
    (passing_listed (λ u. u.structure == s) units k v is (ap (λ q. q == s) inside ∙ same_number s))

-- the lists of units inside s are equal in two maps of units if the same units have s as their structure in both
pub inside_as_before : (s : ℕ) (units others : FinMap nat_cmp Unit)
    → numbers_where (λ u. u.structure == s) others ≡ numbers_where (λ u. u.structure == s) units
    → numbers_inside s others ≡ numbers_inside s units
inside_as_before s units others same = ap (λ ns. cond (s == 0) [] ns) same

-- in a map whose numbers are those from 1 to `next - 1`, no value is under 0
pub is_no_zero : {V : Type 0} (m : FinMap nat_cmp V) (next : ℕ) → IsNumbered m next → (k : ℕ) (v : V) → get m k ≡ Some v
    → k ≢ 0
is_no_zero m next numbered k v is zero = none_some v (sym numbered.first ∙ ap (get m) (sym zero) ∙ is)
