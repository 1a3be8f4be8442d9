use Rattle.std.proofs.Common.{refl}
use Rattle.atl_tables.specs.MarketTable.{market_known, market_of}
use Rattle.atl_tables.proofs.FaultLaws.{gives_error, error_of_condition_is_of_list}
use Rattle.atl_tables.proofs.market_table.MarketDraftDraft.resolve.Goals as goal

pub returns-in_err-item-clause-value : goal.returns-in_err-item-clause-value
unfolding market_known market_of
returns-in_err-item-clause-value c =
    gives_error _ _ _ _ _ c.from_residual.ensures.1 (error_of_condition_is_of_list c.in_err-item.field-0.0 _ _ (rw (c.as_str-at.ensures, c.as_slice.ensures) at c.in_err-item.ensures.value))

pub returns-clause-value : goal.returns-clause-value
unfolding market_known market_of
returns-clause-value c =
    let item = rw (c.as_str-at.ensures, c.as_slice.ensures) at c.in_ok-item.ensures.value in
    rw (item.0, item.1) (refl, refl)

pub returns-clause-sound : goal.returns-clause-sound
returns-clause-sound c = record {
  number_is = refl;
  item = rw c.as_slice.ensures at c.in_ok-item.ensures.below;
  price_least = c.requires.draft.price_least;
  price = c.requires.draft.price;
  pays_least = c.requires.draft.pays_least;
  pays = c.requires.draft.pays;
  limit = c.requires.draft.limit;
  restock = c.requires.draft.restock;
}
