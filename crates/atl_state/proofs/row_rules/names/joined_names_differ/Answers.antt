use Rattle.std.proofs.Common.{◌≡◌, map, sym, subst, ap, ◌∙◌}
use Rattle.std.specs.List.{IsDistinct}
use Rattle.std.specs.Ordering.{eq_by_cmp, nat_cmp}
use Rattle.std.specs.Cmp.Lexicographic.{slice_cmp}
use Rattle.atl_world.proofs.KeyLaws.{IsDistinct-map, IsDistinct-of_map, IfOk-decided}
use Rattle.atl_state.proofs.row_rules.names.joined_names_differ.Goals as goal

pub returns : goal.returns
returns c =
    let names = c.deref.result.now in
    let apart = eq_by_cmp (slice_cmp nat_cmp) in
    let same : map (λ name. name.now) names ≡ map (λ r. r.joined_as) c.args.rows.now = ap (map (λ name. name.now)) c.deref.ensures.value ∙ c.in_ok-names.ensures in
    IfOk-decided c.are_distinct.result
    (λ h. subst (IsDistinct apart) same (IsDistinct-map (λ name. name.now) apart names h))
    (λ h. IsDistinct-of_map (λ name. name.now) apart names (subst (IsDistinct apart) (sym same) h))
    c.are_distinct.ensures
