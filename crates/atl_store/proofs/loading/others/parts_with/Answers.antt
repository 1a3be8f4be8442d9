use Rattle.std.proofs.Common.{rules, ◌++◌, ◌∷◌, [], ◌∙◌, refl, ap, inl, inr}
use Rattle.atl_store.proofs.KeyedLaws.{has_placed, books_placed, market_placed, part_fault_is_of_all, made_of, made_placed, made_whole}
use Rattle.atl_store.proofs.loading.others.parts_with.Goals as goal

pub returns-in_err-has-clause-fails : goal.returns-in_err-has-clause-fails
returns-in_err-has-clause-fails c = part_fault_is_of_all has_placed refl _ _ (inr (inr (inr (inl refl)))) c.in_err-has.field-0.0 c.in_err-has.ensures.fails c.from_residual.result c.from_residual.ensures.1

pub returns-in_err-books-clause-fails : goal.returns-in_err-books-clause-fails
returns-in_err-books-clause-fails c = part_fault_is_of_all books_placed refl _ _ (inr (inr (inr (inr (inr (inr (inr (inl refl)))))))) c.in_err-books.field-0.0 c.in_err-books.ensures.fails c.from_residual-in_err-books.result c.from_residual-in_err-books.ensures.1

pub returns-in_err-markets-clause-fails : goal.returns-in_err-markets-clause-fails
returns-in_err-markets-clause-fails c =
    part_fault_is_of_all market_placed refl _ _ (inr (inr (inr (inr (inr (inr (inr (inr (inl refl))))))))) c.in_err-markets.field-0.0 c.in_err-markets.ensures.fails c.from_residual-in_err-markets.result c.from_residual-in_err-markets.ensures.1

pub returns-clause-ok : goal.returns-clause-ok
returns-clause-ok c = made_of refl (c.in_ok-push.ensures.ok ∙ ap (λ rows. rows ++ c.args.head ∷ []) c.new-campaign.ensures) (search (rules, made_whole, made_placed, has_placed, books_placed, market_placed))
