-- Laws of the tests of a list of faults: if no fault applies, each test fails. In such a list each fault has a test,
-- which is true if the fault applies.
use Rattle.std.proofs.Common.{◌≡◌, ◌==◌, ℕ, ◌≤◌, Bool, true, false, not, List, ◌∷◌, None, refl, arith}
use Rattle.std.specs.Prelude.{nat_lt}
use Rattle.std.proofs.lemmas.Bool.{not-false}
use Rattle.std.proofs.lemmas.Bool.Decides.{nat_tests}
use Rattle.atl_records.specs.declared.event.EventFault.{EventFault}
use Rattle.atl_phase.specs.Outcomes.{first_fault}

-- if false were true, anything would hold
pub false_true : {P : Type 0} → false ≡ true → P
false_true e = cc

-- if no fault of a list fits, the test of the first one (`fits`) is false, and none of the others (`more`) fits
pub none_fits : (fits : Bool) (fault : EventFault) (more : List (Bool × EventFault))
    → first_fault ((fits, fault) ∷ more) ≡ None → (fits ≡ false) × (first_fault more ≡ None)
none_fits true fault more is = cc
none_fits false fault more is = (refl, is)

pub not_apart : (a b : ℕ) → not (a == b) ≡ false → a ≡ b
not_apart a b is = let same : (a == b) ≡ true = not-false (a == b) is in grind (arith, nat_tests)

pub not_less : (a b : ℕ) → nat_lt a b ≡ false → b ≤ a
not_less a b is = grind (arith, nat_tests)
