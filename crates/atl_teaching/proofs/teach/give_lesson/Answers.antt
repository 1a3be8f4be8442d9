use Rattle.std.proofs.Common.{subst, sym, ◌∙◌}
use Rattle.std.specs.Prelude.{nat_eq}
use Rattle.std.specs.List.{IsDistinct}
use Rattle.atl_teaching.proofs.TeachLaws.{mentions_distinct}
use Rattle.atl_teaching.proofs.teach.give_lesson.Goals as goal

pub teach_men-requires : goal.teach_men-requires
teach_men-requires c =
    subst (IsDistinct nat_eq) (sym (c.deref.ensures.value ∙ c.in_ok-each.ensures)) (mentions_distinct c.args.units.now)
