-- What reading a request and writing a reply return and leave, and the numbers of the faults that may end either.
-- `before` and `after` are the bytes, if they are known, that a reader has left or that a writer holds. The verdict on
-- bytes says that the request is whole or refused, which is final, or that bytes are missing (More).
use Rattle.std.specs.Prelude.{◌≡◌, ◌≤◌, ◌<◌, ℕ, List, ◌++◌, length, take, string_bytes, Option, Some, None, Result, Ok, Err, ⊤}
use Rattle.std.specs.Io.KnownBytes.{Keeps, Appends, Consumes, IsAtEnd}
use Rattle.atl_requests.specs.declared.message.Message.{Message}
use Rattle.atl_requests.specs.declared.io.HttpFault.{HttpFault}
use Rattle.atl_requests.specs.declared.io.HttpFault.TheVariants.{Cut, ReadFault, WriteFault, Memory}
use Rattle.atl_parsing.specs.declared.request.FinalVerdict.{FinalVerdict}
use Rattle.atl_parsing.specs.declared.request.Verdict.TheVariants.{More}
use Rattle.atl_parsing.specs.Heads.{Judges, ReadsNoFurther, as_verdict, most_at_once}
use Rattle.atl_parsing.specs.Replies.{Reply, bytes_of}

-- the number of a fault of HTTP, from 1 to 3; Memory has none
abbrev pub fault_number : HttpFault → Option ℕ
fault_number Cut = Some 1
fault_number ReadFault = Some 2
fault_number WriteFault = Some 3
fault_number Memory = None

-- ---- reading

-- What one read adds to the collected bytes, `old` before it and `new` after it. With Ok it is `count` bytes of the
-- reader, from 0 to 8,192; nothing with ReadFault, or with Cut at the end of the input. WriteFault never comes, and
-- Memory leaves open what was read.
abbrev pub ReadsMore : (before after : Option (List ℕ)) → (old new : List ℕ) → Result ℕ HttpFault → Type 0
ReadsMore before after old new (Ok count) =
    (piece : List ℕ) × (length piece ≡ count) × (count ≤ most_at_once) × Consumes before after piece × (new ≡ old ++ piece)
ReadsMore before after old new (Err Cut) = Keeps before after × IsAtEnd after × (new ≡ old)
ReadsMore before after old new (Err ReadFault) = Keeps before after × (new ≡ old)
ReadsMore before after old new (Err WriteFault) = ⊥
ReadsMore before after old new (Err Memory) = ⊤

-- With Ok the bytes `seen` were read, and no more than needed, and the result is the final verdict on them. With Cut,
-- at the end of the input, and with ReadFault `seen` was read, and has the verdict More. WriteFault never comes, and
-- Memory leaves open what was read.
abbrev pub Receives : (before after : Option (List ℕ)) → (seen : List ℕ) → Result FinalVerdict HttpFault → Type 0
Receives before after seen (Ok outcome) = Consumes before after seen × ReadsNoFurther seen × Judges seen (as_verdict outcome)
Receives before after seen (Err Cut) = Consumes before after seen × Judges seen More × IsAtEnd after
Receives before after seen (Err ReadFault) = Consumes before after seen × Judges seen More
Receives before after seen (Err WriteFault) = ⊥
Receives before after seen (Err Memory) = ⊤

-- ---- writing

-- The message has the status and the bytes of the reply.
abbrev pub MatchesReply : Reply → Message → Type 0
MatchesReply reply message = (message.status ≡ reply.status) × (string_bytes message.bytes ≡ bytes_of reply)

-- All of `bytes` were added to what the writer held; or, with WriteFault, the one fault that can come, only the first
-- `count` of them, which are fewer.
abbrev pub Sends : (before after : Option (List ℕ)) → (bytes : List ℕ) → Result (Unit {0}) HttpFault → Type 0
Sends before after bytes (Ok done) = Appends before after bytes
Sends before after bytes (Err Cut) = ⊥
Sends before after bytes (Err ReadFault) = ⊥
Sends before after bytes (Err WriteFault) = (count : ℕ) × (count < length bytes) × Appends before after (take count bytes)
Sends before after bytes (Err Memory) = ⊥
