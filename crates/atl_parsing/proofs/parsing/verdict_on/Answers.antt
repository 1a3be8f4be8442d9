use Rattle.std.proofs.Common.{sym, subst}
use Rattle.atl_parsing.specs.Heads.{Judges}
use Rattle.atl_parsing.proofs.HeadLaws as laws
use Rattle.atl_parsing.proofs.parsing.verdict_on.Goals as goal

pub returns : goal.returns
returns c =
    subst (λ v. Judges c.args.seen.now v) (sym c.verdict.ensures)
    (laws.judges_by c.args.seen.now c.in_ok-progress_of.field-0 c.in_ok-progress_of.ensures)
