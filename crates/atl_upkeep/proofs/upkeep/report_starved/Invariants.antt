use Rattle.std.proofs.Common.{◌≡◌, ◌++◌, filter, map, drop}
use Rattle.atl_upkeep.specs.Upkeep.{starved_event, starves}
use Rattle.atl_upkeep.proofs.upkeep.report_starved.Given as goal

-- Before each result: adding the Starved events of the results still to come makes the events that those of all results
-- make. The month's readings, aliases and words stay.
abbrev pub invariant-loop-upkeep_result : goal.invariant-loop-upkeep_result
invariant-loop-upkeep_result l = record {
  readings : l.month.readings ≡ l.initial.month.readings;
  aliases : l.month.aliases ≡ l.initial.month.aliases;
  words : l.month.words ≡ l.initial.month.words;
  rest :
      l.month.events ++ map starved_event (filter starves (drop l.upkeep_result-index l.list))
      ≡ l.initial.month.events ++ map starved_event (filter starves l.list);
}
