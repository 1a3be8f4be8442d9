-- What single reads and writes return, and how reading a request and writing its reply end. `before` and `after` are
-- the bytes, if they are known, that a reader has left or that a writer holds. `room` is the buffer after a read,
-- `rest` the bytes that are still to be written, and `old` and `new` are the counters before and after a call. See
-- docs/FORMATS.md, "For developers".
use Rattle.std.specs.Prelude.{◌≡◌, ◌≢◌, ◌≤◌, ◌<◌, ◌+◌, ◌⊎◌, ℕ, zero, List, [], length, take, Option, Result, Ok, Err, ⊤}
use Rattle.std.specs.Io.KnownBytes.{Keeps, Appends, Consumes, IsAtEnd}
use Rattle.std.specs.IoError.{error_kind}
use Rattle.std.specs.declared.io.Error.{Error}
use Rattle.std.specs.declared.io.ErrorKind.TheVariants as kind
use Rattle.atl_requests.specs.declared.calls.ReadOutcome.{ReadOutcome}
use Rattle.atl_requests.specs.declared.calls.ReadOutcome.TheVariants as came
use Rattle.atl_requests.specs.declared.calls.WriteOutcome.{WriteOutcome}
use Rattle.atl_requests.specs.declared.calls.WriteOutcome.TheVariants as written
use Rattle.atl_requests.specs.declared.calls.ReadCalls.{ReadCalls}
use Rattle.atl_requests.specs.declared.calls.WriteCalls.{WriteCalls}
use Rattle.atl_requests.specs.declared.io.HttpFault.{HttpFault}
use Rattle.atl_requests.specs.declared.io.HttpFault.TheVariants.{Cut, ReadFault, WriteFault, Memory}

-- the most reads for one request
abbrev pub most_reads : ℕ
most_reads = 1000000

-- the number of interrupted writes after which the reply is given up
abbrev pub most_interrupted : ℕ
most_interrupted = 1000000

-- ---- one read

-- The outcome that one read has by what it returned. For Ok it is a piece of this many bytes, or the end of the input
-- for 0. For an error it is an interruption if the error's kind is Interrupted, else a failure.
abbrev pub IsReadOutcome : Result ℕ Error → ReadOutcome → Type 0
IsReadOutcome (Ok count) (came.Piece n) = (n ≡ count) × (0 < count)
IsReadOutcome (Ok count) came.End = count ≡ 0
IsReadOutcome (Ok count) came.Interrupted = ⊥
IsReadOutcome (Ok count) came.Failed = ⊥
IsReadOutcome (Err e) (came.Piece n) = ⊥
IsReadOutcome (Err e) came.End = ⊥
IsReadOutcome (Err e) came.Interrupted = error_kind e ≡ kind.Interrupted
IsReadOutcome (Err e) came.Failed = error_kind e ≢ kind.Interrupted

-- What one read does, by its outcome: a piece of one byte or more is taken from the remaining bytes, and is now at the
-- front of the buffer `room`. Any other outcome takes no bytes, and End comes only at the end of the input.
abbrev pub GivesBytes : (before after : Option (List ℕ)) → (room : List ℕ) → ReadOutcome → Type 0
GivesBytes before after room (came.Piece count) = (0 < count) × (count ≤ length room) × Consumes before after (take count room)
GivesBytes before after room came.End = Keeps before after × IsAtEnd after
GivesBytes before after room came.Interrupted = Keeps before after
GivesBytes before after room came.Failed = Keeps before after

-- the counters before the first read: none is counted, and the last outcome is set to a piece of 0 bytes
abbrev pub no_reads : ReadCalls
no_reads = record { count = 0; last = came.Piece 0 }

-- One read is done with this outcome (`GivesBytes`), which is kept as the last one, and the count of reads is one more.
abbrev pub ReadsOnce : (before after : Option (List ℕ)) → (room : List ℕ) → (old new : ReadCalls) → ReadOutcome → Type 0
ReadsOnce before after room old new outcome =
    GivesBytes before after room outcome × (new ≡ record { count = old.count + 1; last = outcome })

-- After this outcome another read may follow: it was a piece or an interruption.
abbrev pub GoesOn : ReadOutcome → Type 0
GoesOn (came.Piece count) = ⊤
GoesOn came.Interrupted = ⊤
GoesOn came.End = ⊥
GoesOn came.Failed = ⊥

-- The reads explain the fault. Cut: the last read found the end of the input. ReadFault: the last read failed, or it
-- was the last one allowed, and gave a piece or was interrupted. Memory may come before the first read, or if the last
-- one gave a piece or was interrupted. WriteFault is never explained.
abbrev pub ReadFaultOf : ReadCalls → HttpFault → Type 0
ReadFaultOf reads Cut = reads.last ≡ came.End
ReadFaultOf reads ReadFault = (reads.last ≡ came.Failed) ⊎ (GoesOn reads.last × (reads.count ≡ most_reads))
ReadFaultOf reads WriteFault = ⊥
ReadFaultOf reads Memory = GoesOn reads.last

-- How the reads of a request ended, by the result of reading it: at most `most_reads` were done. With Ok another might
-- follow (`GoesOn`); a fault is one that the reads explain (`ReadFaultOf`).
abbrev pub EndsReading : {X : Type 0} → ReadCalls → Result X HttpFault → Type 0
EndsReading reads (Ok x) = (reads.count ≤ most_reads) × GoesOn reads.last
EndsReading reads (Err fault) = (reads.count ≤ most_reads) × ReadFaultOf reads fault

-- ---- one write

-- The outcome that one write has by what it returned. For Ok it is the number of bytes taken, or a failure if that is
-- 0. For an error it is an interruption if the error's kind is Interrupted, else a failure.
abbrev pub IsWriteOutcome : Result ℕ Error → WriteOutcome → Type 0
IsWriteOutcome (Ok count) (written.Taken n) = (n ≡ count) × (0 < count)
IsWriteOutcome (Ok count) written.Interrupted = ⊥
IsWriteOutcome (Ok count) written.Failed = count ≡ 0
IsWriteOutcome (Err e) (written.Taken n) = ⊥
IsWriteOutcome (Err e) written.Interrupted = error_kind e ≡ kind.Interrupted
IsWriteOutcome (Err e) written.Failed = error_kind e ≢ kind.Interrupted

-- What one write does, by its outcome: of the bytes `rest`, which are still to be written, it has appended the first
-- `count`, one or more, or none if interrupted or failed.
abbrev pub Takes : (before after : Option (List ℕ)) → (rest : List ℕ) → WriteOutcome → Type 0
Takes before after rest (written.Taken count) = (0 < count) × (count ≤ length rest) × Appends before after (take count rest)
Takes before after rest written.Interrupted = Appends before after []
Takes before after rest written.Failed = Appends before after []

-- the counters before the first write: none was interrupted, and the last outcome is set to 0 bytes taken
abbrev pub no_writes : WriteCalls
no_writes = record { interrupted = 0; last = written.Taken 0 }

-- the counters after one more write with this outcome, which is kept as the last one, and counted if it was interrupted
abbrev pub with_write : WriteCalls → WriteOutcome → WriteCalls
with_write old (written.Taken count) = record { interrupted = old.interrupted; last = written.Taken count }
with_write old written.Interrupted = record { interrupted = old.interrupted + 1; last = written.Interrupted }
with_write old written.Failed = record { interrupted = old.interrupted; last = written.Failed }

-- One write is done with this outcome (`Takes`), which is kept as the last one, and counted if it was interrupted.
abbrev pub WritesOnce : (before after : Option (List ℕ)) → (rest : List ℕ) → (old new : WriteCalls) → WriteOutcome → Type 0
WritesOnce before after rest old new outcome = Takes before after rest outcome × (new ≡ with_write old outcome)

-- The writes explain the fault WriteFault: the last one failed, or `most_interrupted` were interrupted. They explain no
-- other fault.
abbrev pub WriteFaultOf : WriteCalls → HttpFault → Type 0
WriteFaultOf writes Cut = ⊥
WriteFaultOf writes ReadFault = ⊥
WriteFaultOf writes WriteFault = (writes.last ≡ written.Failed) ⊎ (writes.interrupted ≡ most_interrupted)
WriteFaultOf writes Memory = ⊥

-- How the writes of a reply ended, by the result of writing it. With Ok fewer than `most_interrupted` were interrupted.
-- A fault is WriteFault, which the writes explain (`WriteFaultOf`), and at most so many were interrupted.
abbrev pub EndsWriting : WriteCalls → Result (Unit {0}) HttpFault → Type 0
EndsWriting writes (Ok done) = writes.interrupted < most_interrupted
EndsWriting writes (Err fault) = (writes.interrupted ≤ most_interrupted) × WriteFaultOf writes fault

-- ---- the whole

-- How reads and writes ended, by the result of serving a request. With Ok, the status of the reply, both ended with Ok.
-- The reads explain Cut and ReadFault, and then nothing was written. With WriteFault the reads ended with Ok, and the
-- writes explain it. Memory runs out only before the first write, and not after a read that failed or found the end.
abbrev pub EndsBy : ReadCalls → WriteCalls → Result ℕ HttpFault → Type 0
EndsBy reads writes (Ok status) = EndsReading reads (Ok status) × EndsWriting writes (Ok tt)
EndsBy reads writes (Err Cut) = EndsReading {X = ℕ} reads (Err Cut) × (writes ≡ no_writes)
EndsBy reads writes (Err ReadFault) = EndsReading {X = ℕ} reads (Err ReadFault) × (writes ≡ no_writes)
EndsBy reads writes (Err WriteFault) = EndsReading reads (Ok zero) × EndsWriting writes (Err WriteFault)
EndsBy reads writes (Err Memory) = EndsReading {X = ℕ} reads (Err Memory) × (writes ≡ no_writes)
