use Rattle.std.proofs.Common.{◌≡◌, ◌++◌, drop, string_bytes}
use Rattle.atl_report.specs.Books.{amount_lines}
use Rattle.atl_report.proofs.books.write_entries.Given as goal

abbrev pub invariant-loop-entry : goal.invariant-loop-entry
invariant-loop-entry l =
    string_bytes l.out ++ amount_lines l.world l.campaign.value.books l.thing (drop l.entry-index l.entries) ≡
    string_bytes l.fn.out ++ amount_lines l.world l.campaign.value.books l.thing l.entries
