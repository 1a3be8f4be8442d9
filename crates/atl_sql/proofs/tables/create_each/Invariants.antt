use Rattle.atl_descriptions.specs.Statements.{Creations}
use Rattle.atl_sql.proofs.MakingLaws.{MakesFirst}
use Rattle.atl_sql.proofs.WriteLaws.{HasDone}
use Rattle.atl_sql.proofs.tables.create_each.Given as goal

-- the tables of the texts before the loop's current one are made, all empty (`MakesFirst`)
abbrev pub invariant-loop-table : goal.invariant-loop-table
invariant-loop-table g l = HasDone g.S.Store Creations (MakesFirst l.table-index) l.fn.tx.conn l.tx.conn
