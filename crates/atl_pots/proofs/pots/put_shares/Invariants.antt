use Rattle.std.proofs.Common.{◌≡◌, ◌+◌, drop, length, map}
use Rattle.std.specs.FinMap.{keys}
use Rattle.std.specs.List.{zip}
use Rattle.atl_pots.specs.Puts.{with_entries}
use Rattle.atl_pots.proofs.pots.put_shares.Given as goal

-- putting the shares still to come into the map so far gives the map before the loop with all shares put in
abbrev pub invariant-loop-unit : goal.invariant-loop-unit
invariant-loop-unit l = record {
  place : l.place + length l.unit-iterator ≡ length l.shares;
  what : with_entries l.given (zip (map (λ e. e.0) l.unit-iterator) (drop l.place l.shares)) ≡ with_entries l.initial.given
      (zip (keys l.wants) l.shares);
}
