use Rattle.std.proofs.Common.{sym}
use Rattle.std.proofs.lemmas.Bool.Decides.{nat_tests}
use Rattle.std.proofs.Common.{arith}
use Rattle.atl_containers.proofs.IndexLaws.{BelongsAt-above}
use Rattle.atl_containers.proofs.index.is_above.Goals as goal

pub returns-in-Some : goal.returns-in-Some
returns-in-Some c =
    λ less. BelongsAt-above c.args.entries.now c.in-Some.last.now c.args.number c.requires (sym c.in-Some.ensures.value)
    (grind (arith, nat_tests, less))
