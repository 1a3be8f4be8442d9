use Rattle.std.proofs.Common.{refl, ap, ◌∙◌}
use Rattle.std.specs.FinSet.{from_list}
use Rattle.atl_descriptions.specs.Tables.{table_of}
use Rattle.atl_writing.proofs.RewriteLaws.{all_remaining, one_less_number, numbers_rewritten}
use Rattle.atl_sql.proofs.WriteLaws.{begins, goes_on, stops_second, weaker}
use Rattle.atl_writing.proofs.grouped.rewrite_marked_groups.Goals as goal

pub loop-number-init : goal.loop-number-init
loop-number-init g c =
    begins g.S.Store
    (all_remaining (table_of g.V.Grouped.part) (g.V.Grouped.wanted c.args.campaign.now.value) _ _ (λ r. refl))

pub loop-number-preserved : goal.loop-number-preserved
loop-number-preserved g c =
    let wanted = g.V.Grouped.wanted c.args.campaign.now.value in
    goes_on g.S.Store (one_less_number (table_of g.V.Grouped.part) wanted c.in-Some.number c.loop-number.number-iterator c.next.new.self c.into_iter-number-iterator.result c.in-Some.ensures.steps) c.loop-number.invariant c.in_ok-rewrite_group.ensures

pub returns-in_err-rewrite_group : goal.returns-in_err-rewrite_group
returns-in_err-rewrite_group g c =
    stops_second g.S.Store c.loop-number.invariant c.in_err-rewrite_group.ensures c.from_residual.ensures

pub returns : goal.returns
returns g c =
    let wanted = g.V.Grouped.wanted c.args.campaign.now.value in
    let all = ap (λ ns. from_list ns) c.into_iter-number-iterator.ensures.into_iter_gives ∙ c.marked_groups-number-items.ensures.all in
    weaker g.S.Store (numbers_rewritten (table_of g.V.Grouped.part) wanted (g.V.Grouped.marks c.args.campaign.now.marks) c.loop-number.number-iterator c.into_iter-number-iterator.result c.in-None.ensures.steps.0 all) c.loop-number.invariant
