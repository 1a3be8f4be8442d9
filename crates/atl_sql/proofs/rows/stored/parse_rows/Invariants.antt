use Rattle.std.proofs.Common.{◌≡◌, map, take, length}
use Rattle.atl_sql.specs.Stored.{first_columns, AreTyped}
use Rattle.atl_sql.proofs.rows.stored.parse_rows.Given as goal

-- the values read are those of the rows before the loop's current row, and of their columns' forms
abbrev pub invariant-loop-row : goal.invariant-loop-row
invariant-loop-row g l =
    let done = take l.row-index l.rows in
    (map g.T.Stored.shown l.all.items ≡ map (first_columns (length g.T.Stored.forms)) done)
    × AreTyped g.T.Stored.forms done
