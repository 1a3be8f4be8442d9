-- How long the service waits for a peer, in nanoseconds. See docs/FORMATS.md, "The program".
use Rattle.std.specs.Prelude.{◌≡◌, ◌<◌, ◌*◌, ◌-◌, ℕ, min}
use Rattle.std.specs.Duration.{as_nanos}
use Rattle.std.specs.Time.{instant_nanos}
use Rattle.std.specs.declared.time.Duration.{Duration}
use Rattle.std.specs.declared.time.Instant.{Instant}

-- the nanoseconds of a second
abbrev pub second : ℕ
second = 1_000_000_000

-- the most that one read or one write waits for the peer: 10 seconds
abbrev pub most_of_call : ℕ
most_of_call = 10 * second

-- the most that all reads and writes of a connection wait for its peer: 60 seconds
abbrev pub most_of_all : ℕ
most_of_all = 60 * second

-- Some time is left, and a call waits for all of it, but at most for `most_of_call`.
abbrev pub WaitsWithin : (left wait : Duration) → Type 0
WaitsWithin left wait = (0 < as_nanos left) × (as_nanos wait ≡ min (as_nanos left) most_of_call)

-- The time left is shorter by what passed from `begun` to `ended`, nothing if `ended` is earlier; 0 if more has passed.
abbrev pub IsSpent : (old : Duration) → (begun ended : Instant) → (new : Duration) → Type 0
IsSpent old begun ended new = as_nanos new ≡ as_nanos old - (instant_nanos ended - instant_nanos begun)
