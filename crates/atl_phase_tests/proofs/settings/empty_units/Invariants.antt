use Rattle.std.proofs.Common.{◌≡◌}
use Rattle.atl_campaign.specs.Good.{IsEarly}
use Rattle.atl_phase_tests.proofs.settings.empty_units.Given as goal

-- before each unit of the list: the campaign is early, and has the books that it had before the loop
abbrev pub invariant-loop-number : goal.invariant-loop-number
invariant-loop-number l = record {
  early : IsEarly l.world l.campaign.value;
  books : l.campaign.value.books ≡ l.fn.campaign.value.books;
}
