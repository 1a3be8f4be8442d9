use Rattle.std.proofs.Common.{◌≡◌, ◌≤◌, ◌-◌, length}
use Rattle.std.specs.Io.KnownBytes.{Consumes}
use Rattle.atl_parsing.specs.Heads.{ReadsNoFurther, IsShortBy, most_at_once}
use Rattle.atl_requests.specs.Calls.{most_reads, GoesOn}
use Rattle.atl_requests.proofs.io.receive_in.Given as goal

-- `seen` has the bytes that were read, and no read was done after the request was whole or refused. With fewer than
-- `missing` further bytes the request isn't whole. The reads are within their limit, and the last one gave a piece or
-- was interrupted.
abbrev pub invariant-loop-outcome : goal.invariant-loop-outcome
invariant-loop-outcome g l = record {
  consumed : Consumes (g.R.Read.remaining l.fn.reader) (g.R.Read.remaining l.reader) l.seen.items;
  progress : ReadsNoFurther l.seen.items;
  short : IsShortBy l.seen.items l.missing;
  room : length l.room ≡ most_at_once;
  few : l.reads.count ≤ most_reads;
  goes_on : GoesOn l.reads.last;
}

abbrev pub decreases-loop-outcome : goal.decreases-loop-outcome
decreases-loop-outcome g l = most_reads - l.reads.count
