use Rattle.std.proofs.Common.{length, take, ◌-◌, ◌+◌, ◌≤◌, ◌<◌}
use Rattle.std.specs.Io.KnownBytes.{Appends}
use Rattle.atl_requests.specs.Calls.{most_interrupted}
use Rattle.atl_requests.proofs.io.send.Given as goal

-- the first `sent` bytes were written, and fewer than `most_interrupted` writes were interrupted
abbrev pub invariant-loop-sent : goal.invariant-loop-sent
invariant-loop-sent g l = record {
  within : l.sent ≤ length l.bytes;
  patient : l.writes.interrupted < most_interrupted;
  written : Appends (g.W.Write.contents l.fn.writer) (g.W.Write.contents l.writer) (take l.sent l.bytes);
}

abbrev pub decreases-loop-sent : goal.decreases-loop-sent
decreases-loop-sent g l = (length l.bytes - l.sent) + (most_interrupted - l.writes.interrupted)
