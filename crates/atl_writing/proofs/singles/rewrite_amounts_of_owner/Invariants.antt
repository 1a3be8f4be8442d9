use Rattle.atl_writing.specs.OwnStatements.{OfChange}
use Rattle.atl_sql.specs.Inside.{DoesInside, HasTables}
use Rattle.atl_writing.proofs.SingleLaws.{RemainingSingles, is_key}
use Rattle.atl_sql.proofs.WriteLaws.{HasDone}
use Rattle.atl_writing.proofs.singles.rewrite_amounts_of_owner.Given as goal

-- at each turn the owner's amounts of all listed things are rewritten, but those of the things that are left
abbrev pub invariant-loop-number : goal.invariant-loop-number
invariant-loop-number g l =
    HasDone g.S.Store (OfChange l.fn.campaign.value)
    (DoesInside HasTables (RemainingSingles g.A.SingleAmounts.table (g.A.SingleAmounts.wanted l.fn.campaign.value) (g.A.SingleAmounts.finds l.amounts) (is_key l.owner l.number-iterator) (is_key l.owner l.initial.number-iterator))) l.fn.tx.conn l.tx.conn
