use Rattle.std.proofs.Common.{List, subst, ◌∙◌}
use Rattle.std.specs.Prelude.{IfOk}
use Rattle.std.specs.Bool.{Decides}
use Rattle.std.specs.List.{IsDistinct}
use Rattle.std.specs.Ordering.{eq_by_cmp}
use Rattle.atl_campaign.specs.RowRules.{Key, key_cmp}
use Rattle.atl_state.proofs.row_rules.keys.have_distinct_keys.Goals as goal

pub returns : goal.returns
returns g c =
    subst (λ (keys : List Key). IfOk c.are_distinct.result (λ yes. Decides yes (IsDistinct (eq_by_cmp key_cmp) keys)))
    (c.deref.ensures.value ∙ c.in_ok-keys.ensures) c.are_distinct.ensures
