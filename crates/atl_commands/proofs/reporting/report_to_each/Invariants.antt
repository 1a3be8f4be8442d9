use Rattle.std.proofs.Common.{◌≡◌, [], drop}
use Rattle.std.specs.Prelude.{fold, unwrap_or}
use Rattle.std.specs.FinMap.{get}
use Rattle.atl_campaign.specs.Covers.{MarksChanges}
use Rattle.atl_report.specs.Sites.{AreRegionLists}
use Rattle.atl_commands.specs.Closing.{reported_to}
use Rattle.atl_commands.specs.Months.{reported_to_all}
use Rattle.atl_commands.proofs.reporting.report_to_each.Given as goal

-- storing the reports that are left makes the campaign with all reports; no mark is lost and all that changed is marked
-- (`MarksChanges`); and `lists` has the structures and the units by region
abbrev pub invariant-loop-faction : goal.invariant-loop-faction
invariant-loop-faction l =
    (fold (reported_to l.world (λ n. unwrap_or (get l.outcome.faults n) []) l.outcome.events.items) l.campaign.value (drop l.faction-index l.faction-items) ≡ reported_to_all l.world l.initial.campaign.value l.outcome) ×
    MarksChanges l.initial.campaign l.campaign ×
    AreRegionLists l.world l.campaign.value l.lists
