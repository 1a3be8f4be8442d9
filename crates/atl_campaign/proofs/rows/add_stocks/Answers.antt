use Rattle.std.proofs.Common.{◌≡◌, ◌≢◌, ◌++◌, ◌∷◌, [], refl, sym, ap, ◌∙◌, rules, arith}
use Rattle.std.proofs.lemmas.List.{append-nil, append_assoc}
use Rattle.atl_campaign.specs.Rows.{stock_rows, market_row}
use Rattle.atl_campaign.proofs.RowLaws.{amount_rows_one}
use Rattle.atl_campaign.proofs.rows.add_stocks.Goals as goal

pub loop-item-preserved-in-Continue-1 : goal.loop-item-preserved-in-Continue-1
loop-item-preserved-in-Continue-1 c =
    let apart : c.in-Some.stock.now ≢ 0 = λ e. omega arith in
    let rest = stock_rows c.args.region c.next.new.self in
    let row = market_row c.args.region c.in-Some.item c.in-Some.stock.now in
    let one = amount_rows_one (λ r. r.stock) (market_row c.args.region) (λ i a. refl) c.in-Some.item c.in-Some.stock.now c.next.new.self apart in
    ap (λ rows. rows ++ rest) c.in_ok-push.ensures.ok
    ∙ ap (λ r. (c.loop-item.rows ++ r ∷ []) ++ rest) c.market_row.ensures
    ∙ append_assoc c.loop-item.rows (row ∷ []) rest
    ∙ ap (λ rows. c.loop-item.rows ++ rows) (sym one)
    ∙ ap (λ es. c.loop-item.rows ++ stock_rows c.args.region es) (sym c.in-Some.ensures.steps) ∙ c.loop-item.invariant

pub returns : goal.returns
returns c =
    let none : c.loop-item.item-iterator ≡ [] = search rules in
    sym (append-nil c.loop-item.rows) ∙ (rw none at c.loop-item.invariant)
