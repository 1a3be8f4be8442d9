use Rattle.std.proofs.Common.{sym, ap, ◌∙◌}
use Rattle.std.specs.FinMap.{get, insert, from_entries}
use Rattle.atl_world.proofs.Maps.{get_is_first_value, insert_by_entries}
use Rattle.atl_world.proofs.Lent.{loan_reads_are_equal, lent_is_some}
use Rattle.atl_world.proofs.numbered.Numbered.get_mut.Goals as goal

pub returns : goal.returns
returns g c =
    let l = c.get_mut.follows in
    let es = c.self.inside.entries.entries in (
      loan_reads_are_equal _ _ _ _ _
          (λ some x. insert_by_entries es (l.lender x).entries c.args.number x ((l.holds x).3 (lent_is_some _ _ l.claims.0 some)).0 ∙ ap (λ m. insert m c.args.number x) c.self.view_is)
          (ap (λ m. from_entries m.entries) l.holds-at-none ∙ c.self.view_is),
      record { writes_back = tt; value = c.get_mut.ensures.value ∙ sym (get_is_first_value es c.args.number) ∙ ap (λ m. get m c.args.number) c.self.view_is },
    )
