use Rattle.std.proofs.Common.{◌≡◌, ◌≢◌, ◌++◌, ◌∷◌, [], sym, ap, ◌∙◌, rules, arith}
use Rattle.std.proofs.lemmas.List.{append-nil, append_assoc}
use Rattle.atl_campaign.specs.Rows.{rows_of_sort, has_row}
use Rattle.atl_campaign.proofs.RowLaws.{sort_rows_one}
use Rattle.atl_campaign.proofs.rows.add_sort_rows.Goals as goal

pub loop-thing-preserved-in-Continue-1 : goal.loop-thing-preserved-in-Continue-1
loop-thing-preserved-in-Continue-1 c =
    let apart : c.in-Some.amount.now ≢ 0 = λ e. omega arith in
    let rest = rows_of_sort c.args.number c.args.sort c.next.new.self in
    let row = has_row c.args.number c.args.sort c.in-Some.thing c.in-Some.amount.now in
    let one = sort_rows_one c.args.number c.args.sort c.in-Some.thing c.in-Some.amount.now c.next.new.self apart in
    ap (λ rows. rows ++ rest) c.in_ok-push.ensures.ok
    ∙ ap (λ r. (c.loop-thing.rows ++ r ∷ []) ++ rest) c.has_row.ensures ∙ append_assoc c.loop-thing.rows (row ∷ []) rest
    ∙ ap (λ rows. c.loop-thing.rows ++ rows) (sym one)
    ∙ ap (λ es. c.loop-thing.rows ++ rows_of_sort c.args.number c.args.sort es) (sym c.in-Some.ensures.steps)
    ∙ c.loop-thing.invariant

pub returns : goal.returns
returns c =
    let none : c.loop-thing.thing-iterator ≡ [] = search rules in
    sym (append-nil c.loop-thing.rows) ∙ (rw none at c.loop-thing.invariant)
