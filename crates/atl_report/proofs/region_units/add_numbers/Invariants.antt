use Rattle.std.proofs.Common.{◌≡◌, drop}
use Rattle.atl_report.specs.Gathering.{with_numbers}
use Rattle.atl_report.proofs.region_units.add_numbers.Given as goal

-- adding the numbers still to come to the set so far gives the set with all numbers added
abbrev pub invariant-loop-number : goal.invariant-loop-number
invariant-loop-number l = with_numbers l.seen (drop l.number-index l.numbers) ≡ with_numbers l.initial.seen l.numbers
