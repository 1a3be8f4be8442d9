-- For proofs alone: what an arena holds once it lends a value. The loan is a reference through which it may be written.
use Rattle.std.specs.Prelude.{ℕ, Option}
use Rattle.std.specs.Ordering.{nat_cmp}
use Rattle.std.specs.FinMap as map
use Rattle.std.specs.Borrow.{LendsIf, MutBor, Fml}
use denote.RattleType.{RattleType}
use Rattle.atl_containers.specs.contracts.arena.Arena.{the_row}

-- After a loan r of the value under a number, which `get_mut` returns, arena m has r's last value there. Its values are
-- of the type V. Without a loan (None) m is unchanged.
abbrev pub LendsSlot : (V : RattleType) → MutBor (map.FinMap nat_cmp V.Denot) → ℕ → Option (MutBor V.Denot) → Fml
LendsSlot V m number r = LendsIf (the_row V) V m r (λ w. map.insert m.now number w) m.now
