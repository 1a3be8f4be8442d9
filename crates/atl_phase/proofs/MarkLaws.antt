-- Laws of changes of a campaign that mark all that they change and lose no mark (`MarksChanges`). In the laws campaign
-- a or c is before a change, and b or d after it.
use Rattle.std.proofs.Common.{◌≡◌, ◌==◌, ℕ, Bool, true, false, Option, Some, None, refl, sym, ◌∙◌}
use Rattle.std.specs.Prelude.{ℤ, Result, Ok, Err, OnOk, if◌then◌else◌}
use Rattle.std.specs.FinMap.{get}
use Rattle.atl_campaign.specs.Covers.{MarksChanges}
use Rattle.atl_records.specs.declared.books.BooksEntry.{BooksEntry}
use Rattle.atl_records.specs.declared.books.Thing.{Thing}
use Rattle.atl_records.specs.declared.records.Unit.{Unit}
use Rattle.atl_campaign.specs.Marking.{handed_marked, mark_amount, place_marked, place_marked_at, put_marked}
use Rattle.atl_campaign.specs.Owners.{heir, with_place}
use Rattle.atl_campaign.specs.Campaign.{MarkedCampaign, with_booking}
use Rattle.atl_campaign.proofs.CoverLaws.{marks-amount, marks-refl, marks-trans}
use Rattle.atl_campaign.proofs.HoldingLaws.{marks-unit_row}
use Rattle.atl_campaign.proofs.LeavingLaws.{marks-after_handover}
use Rattle.atl_campaign.proofs.OwnerLaws.{place-what}

-- if all that changed from a to m is marked (`MarksChanges`), so is all from a to b, which has the value and marks of m
pub marks_by : (a b m : MarkedCampaign) → b.value ≡ m.value → b.marks ≡ m.marks → MarksChanges a m → MarksChanges a b
marks_by a b m what marks h = rw (what, marks) (record { stay = h.stay; covers = h.covers })

-- if all that changed from a to b is marked, so is all from a to d, which is b with z booked under e for t, and marked
pub booked_marks : (a b d : MarkedCampaign) (e : BooksEntry) (t : Thing) (z : ℤ) → MarksChanges a b
    → d.value ≡ with_booking b.value e t z → d.marks ≡ mark_amount b e t → MarksChanges a d
booked_marks a b d e t z before what marks =
    marks-trans a b d before (marks_by b d (record { value = with_booking b.value e t z; marks = mark_amount b e t }) what marks (marks-amount b e t z))

marks_place_at : (c : MarkedCampaign) (n r s : ℕ) (o : Option Unit) → MarksChanges c (place_marked_at c n r s o)
marks_place_at c n r s None = marks-refl c
marks_place_at c n r s (Some u) = by_test (u.structure == s)
  where
    one_put : MarksChanges c (put_marked c n r s)
    one_put = marks-unit_row (λ x. record x { region = r; structure = s }) (λ x. refl) c n

    by_test : (b : Bool)
        → MarksChanges c (if b then put_marked c n r s else handed_marked (handed_marked (put_marked c n r s) u.structure n (heir c.value u.structure n)) s 0 n)
    by_test true = one_put
    by_test false =
        let next = handed_marked (put_marked c n r s) u.structure n (heir c.value u.structure n) in
        marks-trans c next (handed_marked next s 0 n) (marks-trans c (put_marked c n r s) next one_put (marks-after_handover (put_marked c n r s) u.structure n (heir c.value u.structure n))) (marks-after_handover next s 0 n)

-- putting unit n in region r and structure s (0 for none), with the marks of `place_marked`, marks all that it changes
pub marks-place : (c d : MarkedCampaign) (n r s : ℕ) → d.value ≡ with_place c.value n r s
    → d.marks ≡ (place_marked c n r s).marks → MarksChanges c d
unfolding place_marked
marks-place c d n r s what marks =
    marks_by c d (place_marked c n r s) (what ∙ sym (place-what c n r s)) marks
    (marks_place_at c n r s (get c.value.units n))

-- if P and Q imply R, and each of them holds where the result r is Ok, R holds where r is Ok
pub on_ok_both : {A E : Type 0} {P Q R : Type 0} (r : Result A E) → (P → Q → R) → OnOk r P → OnOk r Q → OnOk r R
on_ok_both (Ok a) f p q = f p q
on_ok_both (Err e) f p q = tt
