use Rattle.std.proofs.Common.{refl, ◌∙◌}
use Rattle.atl_writing.proofs.RewriteLaws.{all_remaining}
use Rattle.atl_writing.proofs.SingleLaws.{one_less_owner, owners_rewritten}
use Rattle.atl_sql.proofs.WriteLaws.{begins, goes_on, stops_second, weaker}
use Rattle.atl_writing.proofs.singles.rewrite_singles.Goals as goal

pub loop-owner-init : goal.loop-owner-init
loop-owner-init g c = begins g.S.Store (all_remaining g.A.SingleAmounts.table _ _ _ (λ r. refl))

pub loop-owner-preserved : goal.loop-owner-preserved
loop-owner-preserved g c =
    goes_on g.S.Store (one_less_owner g.A.SingleAmounts.table (g.A.SingleAmounts.wanted c.args.campaign.now.value) (g.A.SingleAmounts.finds c.args.amounts) c.requires _ c.loop-owner.owner-iterator c.next.new.self c.into_iter-owner-iterator.result c.in-Some.ensures.steps) c.loop-owner.invariant c.in_ok-rewrite_amounts_of_owner.ensures

pub returns-in_err-rewrite_amounts_of_owner : goal.returns-in_err-rewrite_amounts_of_owner
returns-in_err-rewrite_amounts_of_owner g c =
    stops_second g.S.Store c.loop-owner.invariant c.in_err-rewrite_amounts_of_owner.ensures c.from_residual.ensures

pub returns : goal.returns
returns g c =
    let all = c.into_iter-owner-iterator.ensures.into_iter_gives ∙ c.marked_singles-owner-items.ensures in
    weaker g.S.Store
    (owners_rewritten g.A.SingleAmounts.table (g.A.SingleAmounts.wanted c.args.campaign.now.value) (g.A.SingleAmounts.finds c.args.amounts) c.requires (g.A.SingleAmounts.marks c.args.amounts c.args.campaign.now.marks) c.loop-owner.owner-iterator c.into_iter-owner-iterator.result c.in-None.ensures.steps.0 all)
    c.loop-owner.invariant
