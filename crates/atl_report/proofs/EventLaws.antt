-- Laws of reports: in one world a report depends only on the faction's view, faulty lines and own events.
-- `w` is the world, `v` a faction's view, and `faults` are the faulty lines of its mailing. `events` and `others` are
-- two lists of events, and `c` and `d` two campaigns.
use Rattle.std.proofs.Common.{◌++◌, ap, ◌∙◌}
use Rattle.std.specs.Prelude.{codes}
use Rattle.atl_sight.specs.Events.{results_text, orders_part}
use Rattle.atl_report.specs.Sight.{view_of}
use Rattle.atl_report.specs.Report.{header_line, region_parts, report_of, OthersEventsAreNotReported, OnlyWhatIsSeenIsReported}

-- for one view and the same faulty lines, lists with the same events of the view's faction give the same report
pub others_events_are_not_reported : OthersEventsAreNotReported
unfolding report_of orders_part
others_events_are_not_reported w v faults events others h =
    ap (λ own. header_line v ++ ((codes "Orders:\n" ++ results_text faults own) ++ region_parts w v.regions)) h

-- a faction that sees the same of two campaigns gets the same report, for the same faulty lines and own events
pub only_what_is_seen_is_reported : OnlyWhatIsSeenIsReported
unfolding view_of
only_what_is_seen_is_reported w c d faction faults events others seen results_text =
    others_events_are_not_reported w (view_of w c faction) faults events others results_text
    ∙ ap (λ v. report_of w v faults others) seen
