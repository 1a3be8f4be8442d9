use Rattle.std.proofs.Common.{refl, ◌∙◌}
use Rattle.atl_writing.proofs.RewriteLaws.{all_remaining}
use Rattle.atl_writing.proofs.SingleLaws.{one_less_single, singles_rewritten}
use Rattle.atl_sql.proofs.WriteLaws.{begins, goes_on, stops_second, weaker}
use Rattle.atl_writing.proofs.singles.rewrite_amounts_of_owner.Goals as goal

pub loop-number-init : goal.loop-number-init
loop-number-init g c = begins g.S.Store (all_remaining g.A.SingleAmounts.table _ _ _ (λ r. refl))

pub loop-number-preserved : goal.loop-number-preserved
loop-number-preserved g c =
    goes_on g.S.Store (one_less_single g.A.SingleAmounts.table (g.A.SingleAmounts.wanted c.args.campaign.now.value) (g.A.SingleAmounts.finds c.args.amounts) c.requires c.args.owner _ c.loop-number.number-iterator c.next.new.self c.into_iter-number-iterator.result c.in-Some.ensures.steps) c.loop-number.invariant c.in_ok-rewrite_single.ensures

pub returns-in_err-rewrite_single : goal.returns-in_err-rewrite_single
returns-in_err-rewrite_single g c =
    stops_second g.S.Store c.loop-number.invariant c.in_err-rewrite_single.ensures c.from_residual.ensures

pub returns : goal.returns
returns g c =
    let all = c.into_iter-number-iterator.ensures.into_iter_gives ∙ c.iter-number-items.ensures in
    weaker g.S.Store
    (singles_rewritten g.A.SingleAmounts.table (g.A.SingleAmounts.wanted c.args.campaign.now.value) (g.A.SingleAmounts.finds c.args.amounts) c.requires c.args.owner c.args.numbers.now c.loop-number.number-iterator c.into_iter-number-iterator.result c.in-None.ensures.steps.0 all)
    c.loop-number.invariant
