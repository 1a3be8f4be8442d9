use Rattle.std.proofs.Common.{◌≡◌, ◌≤◌, ◌+◌, ◌-◌, ℕ, drop, min, sum_by}
use Rattle.std.specs.Prelude.{nat_eq}
use Rattle.std.specs.List.{IsDistinct}
use Rattle.atl_records.specs.Holdings.{amount_of}
use Rattle.atl_teaching.specs.Teach.{taught_in_lesson, untaught_men}
use Rattle.atl_teaching.proofs.teach.teach_men.Given as goal

-- The men taught so far and a lesson to the units left, for the places left, are together the whole lesson. The units
-- left are distinct.
abbrev pub invariant-loop-unit : goal.invariant-loop-unit
invariant-loop-unit l = record {
  taught : (k : ℕ) →
      amount_of l.taught k + taught_in_lesson l.campaign.value (amount_of l.taught) l.left (drop l.unit-index l.units) k
      ≡ amount_of l.fn.taught k + taught_in_lesson l.campaign.value (amount_of l.fn.taught) l.places l.units k;
  men : (l.places - l.left) + min (sum_by (untaught_men l.campaign.value (amount_of l.taught)) (drop l.unit-index l.units)) l.left
      ≡ min (sum_by (untaught_men l.campaign.value (amount_of l.fn.taught)) l.units) l.places;
  left : l.left ≤ l.places;
  distinct : IsDistinct nat_eq (drop l.unit-index l.units);
}
