use Rattle.std.proofs.Common.{◌≡◌, List, map, length}
use Rattle.sqlite.specs.Order.{Row}
use Rattle.atl_sql.specs.Stored.{first_columns, AreTyped}
use Rattle.atl_sql.proofs.StreamLaws.{IsGiving}
use Rattle.atl_sql.proofs.rows.stored.stream.Given as goal

-- the query is running and changed nothing, and the values read are those of the rows that it gave
abbrev pub invariant-rows : goal.invariant-rows
invariant-rows g l = record {
  lent : l.rows.conn.ghost_name ≡ l.initial.rows.conn.ghost_name;
  given : List Row;
  giving : IsGiving g.S.Store l.sql l.fn.conn given l.rows.conn.now;
  read : map g.T.Stored.shown l.all.items ≡ map (first_columns (length g.T.Stored.forms)) given;
  typed : AreTyped g.T.Stored.forms given;
}
