-- Laws of marks when the month is set, a report is stored, and all mail is removed: each change is marked.
-- `MarksChanges c d` says that from the marked campaign c to d no mark is lost, and all that changed is marked. n is
-- the new month, or the number of a faction.
use Rattle.std.proofs.Common.{◌≡◌, ◌||◌, ℕ, List, Bool, true, false, Option, Some, None, is_some, refl, sym, ap, ◌∙◌, true≢false}
use Rattle.std.specs.Ordering.{nat_cmp}
use Rattle.std.specs.Cmp.{nat_cmp_total}
use Rattle.std.specs.FinMap.{FinMap, get, get-empty, keys, empty, contains_key, contains_key-keys}
use Rattle.std.specs.FinSet.{FinSet, contains, contains-union, contains-from_list, from_list, union}
use Rattle.atl_campaign.specs.Covers.{MarksChanges, SameBut, StaysMarked}
use Rattle.atl_campaign.specs.Marking.{mark_all_mail, mark_campaign_row, mark_report}
use Rattle.atl_campaign.specs.Campaign.{MarkedCampaign, with_month, with_report, without_mail}
use Rattle.atl_campaign.proofs.CoverLaws.{Mail, Reports, Row, PartStaysMarked, KeepsUnmarked, unmarked_differs_from_put, part_by_part, put_stays}
use Rattle.atl_world.proofs.EveryLaws.{get-insert_other}

-- setting the month, with the campaign row marked, marks all that changes
pub marks-month : (c : MarkedCampaign) (n : ℕ)
    → MarksChanges c (record { value = with_month c.value n; marks = mark_campaign_row c })
marks-month c n =
    let next : MarkedCampaign = record { value = with_month c.value n; marks = mark_campaign_row c } in
    part_by_part c next
    (λ p. elim p as (PartStaysMarked c.marks next.marks) [ Row ↦ λ k h. refl | _ ↦ λ k h. h ])
    (λ p. elim p as (KeepsUnmarked next.marks c.value next.value) [ Row ↦ λ k free. absurd (true≢false free) | _ ↦ λ k free. refl ])

-- storing a faction's report, with that report marked, marks all that changes
pub marks-report : (c : MarkedCampaign) (n : ℕ) (text : List ℕ)
    → MarksChanges c (record { value = with_report c.value n text; marks = mark_report c n })
marks-report c n text =
    let next : MarkedCampaign = record { value = with_report c.value n text; marks = mark_report c n } in
    part_by_part c next
    (λ p. elim p as (PartStaysMarked c.marks next.marks) [ Reports ↦ put_stays c.marks.reports n | _ ↦ λ k h. h ])
    (λ p. elim p as (KeepsUnmarked next.marks c.value next.value) [ Reports ↦ λ k free. get-insert_other c.value.reports n k text (unmarked_differs_from_put c.marks.reports n k free) | _ ↦ λ k free. refl ])

-- ---- the mail that is removed

module _ (marks : FinSet nat_cmp) (mail : FinMap nat_cmp (List ℕ)) where
  either : (k : ℕ) → contains (union marks (from_list (keys mail))) k ≡ (contains marks k || contains_key mail k)
  either k =
      contains-union nat_cmp_total marks (from_list (keys mail)) k
      ∙ ap (λ b. contains marks k || b)
      (contains-from_list nat_cmp_total (keys mail) k ∙ sym (contains_key-keys mail k))

  all_stay : StaysMarked marks (union marks (from_list (keys mail)))
  all_stay k h = either k ∙ ap (λ b. b || contains_key mail k) h

  none_there : (a b : Bool) (o : Option (List ℕ)) → b ≡ is_some o → (a || b) ≡ false → None ≡ o
  none_there true b o is free = absurd (true≢false free)
  none_there false b None is free = refl
  none_there false b (Some text) is free = absurd (true≢false (sym is ∙ free))

  all_gone : SameBut (union marks (from_list (keys mail))) mail empty
  all_gone k free =
      get-empty nat_cmp k
      ∙ none_there (contains marks k) (contains_key mail k) (get mail k) refl (sym (either k) ∙ free)

-- removing all mail, with the mail of each faction that had some marked, marks all that changes
pub marks-no_mail : (c : MarkedCampaign)
    → MarksChanges c (record { value = without_mail c.value; marks = mark_all_mail c })
marks-no_mail c =
    let next : MarkedCampaign = record { value = without_mail c.value; marks = mark_all_mail c } in
    part_by_part c next
    (λ p. elim p as (PartStaysMarked c.marks next.marks) [ Mail ↦ all_stay c.marks.mail c.value.mail | _ ↦ λ k h. h ])
    (λ p. elim p as (KeepsUnmarked next.marks c.value next.value) [ Mail ↦ all_gone c.marks.mail c.value.mail | _ ↦ λ k free. refl ])
