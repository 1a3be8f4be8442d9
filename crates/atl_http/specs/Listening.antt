-- What serving connections one after another leaves of a service, whatever the peers send and take. `old` and `new` are
-- the service before and after it, `dice` has the club's seed, and `g` is the kind of store, in memory or in files. See
-- docs/FORMATS.md, "HTTP".
use Rattle.std.specs.Prelude.{◌≡◌, ◌≢◌, ◌<◌, ℕ, zero, suc, None, Result, Ok, Err}
use Rattle.sqlite_trees.specs.declared.store.Store.{Ghosts}
use Rattle.atl_commands.specs.Service.{ServiceValue}
use Rattle.atl_requests.specs.declared.dice.Dice.{Dice}
use Rattle.atl_http.specs.declared.listening.ListenFault.{ListenFault}
use Rattle.atl_http.specs.declared.listening.ListenFault.TheVariants.{Net, Memory}
use Rattle.atl_requests.specs.declared.io.HttpFault.{HttpFault}
use Rattle.atl_requests.specs.declared.io.HttpFault.TheVariants as http
use Rattle.atl_http.specs.Serving.{IoBytes, Serves}

-- the bytes that a socket has left, and those that it holds: no contract knows them
abbrev pub unknown_bytes : IoBytes
unknown_bytes = record { left = None; held = None }

-- One request is served with this result (`Serves`), but nothing is known of the bytes that come and go: so the service
-- has run the command of some request, or is as before.
abbrev pub IsServed : {S : Type 0} → Ghosts S → Dice → (old : ServiceValue S)
    → Result ℕ HttpFault → (new : ServiceValue S) → Type 0
IsServed g dice old outcome new = Serves g dice unknown_bytes unknown_bytes old outcome new

-- One connection's request is served (`IsServed`). With Ok it ended in a status, or in a fault but Memory: the service
-- has run the command of some request, or is as before. With Err Memory memory ran out for it, and a command has been
-- run or not. Err Net never comes.
abbrev pub ServesConnection : {S : Type 0} → Ghosts S → Dice → (old : ServiceValue S)
    → Result (Unit {0}) ListenFault → (new : ServiceValue S) → Type 0
ServesConnection g dice old (Ok done) new = (outcome : Result ℕ HttpFault) × (outcome ≢ Err http.Memory) × IsServed g dice old outcome new
ServesConnection g dice old (Err Memory) new = IsServed g dice old (Err http.Memory) new
ServesConnection g dice old (Err Net) new = ⊥

-- Exactly `count` requests are served one after another, and memory runs out for none.
abbrev pub ServesInTurn : {S : Type 0} → Ghosts S → Dice → (count : ℕ) → (old new : ServiceValue S) → Type 0
ServesInTurn g dice zero old new = new ≡ old
ServesInTurn {S} g dice (suc count) old new =
    (between : ServiceValue S) × ServesInTurn g dice count old between × ServesConnection g dice between (Ok tt) new

-- With Ok exactly `count` requests are served one after another, and with Err Net fewer, and memory runs out for none.
-- With Err Memory memory runs out for the last of at most `count`, and for none before it.
abbrev pub ServesEach : {S : Type 0} → Ghosts S → Dice → (count : ℕ) → (old : ServiceValue S)
    → Result (Unit {0}) ListenFault → (new : ServiceValue S) → Type 0
ServesEach g dice count old (Ok done) new = ServesInTurn g dice count old new
ServesEach g dice count old (Err Net) new = (served : ℕ) × (served < count) × ServesInTurn g dice served old new
ServesEach {S} g dice count old (Err Memory) new =
    (served : ℕ) × (served < count) × (between : ServiceValue S)
    × ServesInTurn g dice served old between
    × ServesConnection g dice between (Err Memory) new
