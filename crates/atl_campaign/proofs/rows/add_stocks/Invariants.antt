use Rattle.std.proofs.Common.{◌≡◌, ◌++◌}
use Rattle.atl_campaign.specs.Rows.{stock_rows}
use Rattle.atl_campaign.proofs.rows.add_stocks.Given as goal

-- the rows so far, and then those of the stocks left, are the rows at the start, and then those of all stocks
abbrev pub invariant-loop-item : goal.invariant-loop-item
invariant-loop-item l =
    l.rows ++ stock_rows l.region l.item-iterator ≡ l.initial.rows ++ stock_rows l.region l.fn.stocks
