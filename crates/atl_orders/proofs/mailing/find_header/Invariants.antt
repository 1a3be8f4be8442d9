use Rattle.std.proofs.Common.{IfSome, ◌≡◌, ◌+◌, ◌≤◌, length}
use Rattle.std.specs.Option.{option_copied}
use Rattle.atl_words.specs.Positions.{EndsWith}
use Rattle.atl_words.specs.TextLines.{lines}
use Rattle.atl_words.specs.WordViews.{lines_of_rest, rest_size}
use Rattle.atl_words.specs.Header.{header_from}
use Rattle.atl_orders.proofs.mailing.find_header.Given as goal

-- The text ends with the lines left, whose first header is that of the text. The number of the next line and the bound
-- on the lines left (`rest_size`) are together at most the text's length plus 2.
abbrev pub invariant-loop-rest : goal.invariant-loop-rest
invariant-loop-rest l = record {
  ends : IfSome (option_copied l.rest) (EndsWith l.text);
  same : header_from l.next (lines_of_rest (option_copied l.rest)) ≡ header_from 1 (lines l.text);
  small : l.next + rest_size (option_copied l.rest) ≤ length l.text + 2;
}

abbrev pub decreases-loop-rest : goal.decreases-loop-rest
decreases-loop-rest l = rest_size (option_copied l.rest)
