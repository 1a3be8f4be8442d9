-- Laws on serving connections one after another: what was served so far, with one more connection, and after a fault.
-- `g` is the kind of store, in memory or in files, and `dice` has the club's seed. `old` is the service before the
-- first request, `between` after those served so far, and `new` after one more.
use Rattle.std.proofs.Common.{◌≡◌, ℕ, suc, ◌+◌, ◌<◌, subst, arith}
use Rattle.std.specs.Prelude.{Ok, Err}
use Rattle.sqlite_trees.specs.declared.store.Store.{Ghosts}
use Rattle.atl_commands.specs.Service.{ServiceValue}
use Rattle.atl_requests.specs.declared.dice.Dice.{Dice}
use Rattle.atl_http.specs.declared.listening.ListenFault.{ListenFault}
use Rattle.atl_http.specs.declared.listening.ListenFault.TheVariants.{Net, Memory}
use Rattle.atl_http.specs.Listening.{ServesConnection, ServesInTurn, ServesEach}

-- if `count` requests were served in turn, and one more after them, `count + 1` were served in turn
pub one_more_is_served : {S : Type 0} (g : Ghosts S) (dice : Dice) (count : ℕ) (old between new : ServiceValue S)
    → ServesInTurn g dice count old between → ServesConnection g dice between (Ok tt) new
    → ServesInTurn g dice (count + 1) old new
one_more_is_served g dice count old between new turn h =
    let more : suc count ≡ count + 1 = omega arith in
    subst (λ n. ServesInTurn g dice n old new) more (between, turn, h)

-- If `done` requests, fewer than `count`, were served in turn, and the next one ends in a fault, serving `count` may
-- end in it (`ServesEach`). The fault is Memory, and memory runs out for the last of at most `count` requests.
pub fault_ends_serving : {S : Type 0} (g : Ghosts S) (dice : Dice) (done count : ℕ) (old between new : ServiceValue S) (fault : ListenFault)
    → done < count → ServesInTurn g dice done old between → ServesConnection g dice between (Err fault) new
    → ServesEach g dice count old (Err fault) new
fault_ends_serving g dice done count old between new Net more turn none = absurd none
fault_ends_serving g dice done count old between new Memory more turn h = (done, more, between, turn, h)
