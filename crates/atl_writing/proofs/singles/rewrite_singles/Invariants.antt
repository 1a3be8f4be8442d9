use Rattle.atl_writing.specs.OwnStatements.{OfChange}
use Rattle.atl_sql.specs.Inside.{DoesInside, HasTables}
use Rattle.atl_writing.proofs.SingleLaws.{RemainingSingles, is_listed}
use Rattle.atl_sql.proofs.WriteLaws.{HasDone}
use Rattle.atl_writing.proofs.singles.rewrite_singles.Given as goal

-- at each turn all single marked amounts are rewritten but those of the owners that are left
abbrev pub invariant-loop-owner : goal.invariant-loop-owner
invariant-loop-owner g l =
    HasDone g.S.Store (OfChange l.fn.campaign.value)
    (DoesInside HasTables (RemainingSingles g.A.SingleAmounts.table (g.A.SingleAmounts.wanted l.fn.campaign.value) (g.A.SingleAmounts.finds l.amounts) (is_listed l.owner-iterator) (is_listed l.initial.owner-iterator))) l.fn.tx.conn l.tx.conn
