use Rattle.std.proofs.Common.{refl}
use Rattle.atl_tables.specs.MarketTable.{market_keys, market_from}
use Rattle.atl_tables.proofs.FaultLaws.{gives_error, stops_first}
use Rattle.atl_tables.proofs.market_table.MarketDraftFromTable.read.Goals as goal

pub returns-in_err-item-clause-value : goal.returns-in_err-item-clause-value
unfolding market_keys market_from
returns-in_err-item-clause-value c =
    gives_error _ _ _ _ _ c.from_residual.ensures.1
    (stops_first (λ x. x) c.in_err-item.field-0.0 _ _ c.in_err-item.ensures)

pub returns-in_err-price-clause-value : goal.returns-in_err-price-clause-value
unfolding market_keys market_from
returns-in_err-price-clause-value c =
    rw c.in_ok-item.ensures (gives_error _ _ _ _ _ c.from_residual-in_err-price.ensures.1 (stops_first (λ x. x) c.in_err-price.field-0.0 _ _ c.in_err-price.ensures.value))

pub returns-in_err-pays-clause-value : goal.returns-in_err-pays-clause-value
unfolding market_keys market_from
returns-in_err-pays-clause-value c =
    rw (c.in_ok-item.ensures, c.in_ok-price.ensures.value) (gives_error _ _ _ _ _ c.from_residual-in_err-pays.ensures.1 (stops_first (λ x. x) c.in_err-pays.field-0.0 _ _ c.in_err-pays.ensures.value))

pub returns-in_err-limit-clause-value : goal.returns-in_err-limit-clause-value
unfolding market_keys market_from
returns-in_err-limit-clause-value c =
    rw (c.in_ok-item.ensures, c.in_ok-price.ensures.value, c.in_ok-pays.ensures.value) (gives_error _ _ _ _ _ c.from_residual-in_err-limit.ensures.1 (stops_first (λ x. x) c.in_err-limit.field-0.0 _ _ c.in_err-limit.ensures.value))

pub returns-in_err-restock-clause-value : goal.returns-in_err-restock-clause-value
unfolding market_keys market_from
returns-in_err-restock-clause-value c =
    rw (c.in_ok-item.ensures, c.in_ok-price.ensures.value, c.in_ok-pays.ensures.value, c.in_ok-limit.ensures.value) (gives_error _ _ _ _ _ c.from_residual-in_err-restock.ensures.1 (stops_first (λ x. x) c.in_err-restock.field-0.0 _ _ c.in_err-restock.ensures.value))

pub returns-clause-value : goal.returns-clause-value
unfolding market_keys market_from
returns-clause-value c =
    rw
    (c.in_ok-item.ensures, c.in_ok-price.ensures.value, c.in_ok-pays.ensures.value, c.in_ok-limit.ensures.value, c.in_ok-restock.ensures.value, c.in_ok-own_path.ensures)
    (refl, refl)
