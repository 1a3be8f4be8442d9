use Rattle.std.proofs.Common.{◌≡◌, subst, arith}
use Rattle.std.proofs.lemmas.Bool.Decides.{nat_tests}
use Rattle.atl_orders.specs.Mailing.{reading_of}
use Rattle.atl_words.specs.Header.{IsMailingOf}
use Rattle.atl_orders.proofs.SenderLaws.{read_is_mailing}
use Rattle.atl_commands.proofs.answering.mailing_to_keep.Goals as goal

pub returns-clause-own : goal.returns-clause-own
returns-clause-own c =
    let own : c.in_ok-mailing.mailing.faction ≡ c.args.faction = grind (arith, nat_tests) in
    subst (λ n. IsMailingOf n c.args.text.now) own (read_is_mailing c.args.world.now c.args.text.now (reading_of c.in_ok-mailing.mailing) (rw c.as_slice.ensures at c.in_ok-mailing.ensures.reading))
