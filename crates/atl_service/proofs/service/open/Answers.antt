use Rattle.std.proofs.Common.{sym, ◌∙◌}
use Rattle.std.proofs.lemmas.Bool.{not-false, not-true}
use Rattle.atl_service.proofs.OpenLaws.{refused_in_transaction, opens, comes_back, opened_consistent}
use Rattle.atl_service.proofs.service.open.Goals as goal

pub returns-then-not-is_autocommit-clause-err : goal.returns-then-not-is_autocommit-clause-err
returns-then-not-is_autocommit-clause-err g c =
    refused_in_transaction g.S.Store c.args.conn
    (not-false _ (sym c.is_autocommit.ensures.value ∙ c.if-not-is_autocommit.true))

pub opened-requires : goal.opened-requires
opened-requires g c =
    opened_consistent g.S.Store c.args.conn c.load.new.conn c.load.ensures.alone c.in-Ok.world c.in-Ok.campaign
    c.in-Ok.ensures.ok (not-true _ (sym c.is_autocommit.ensures.value ∙ c.if-not-is_autocommit.false))

pub returns-in-Ok-clause-ok : goal.returns-in-Ok-clause-ok
returns-in-Ok-clause-ok g c =
    rw c.opened.ensures
    (opens g.S.Store c.args.conn c.load.new.conn c.load.ensures.alone c.in-Ok.world c.in-Ok.campaign c.in-Ok.ensures.ok)

pub returns-in-Ok-clause-back : goal.returns-in-Ok-clause-back
returns-in-Ok-clause-back g c =
    rw c.opened.ensures
    (comes_back g.S.Store c.args.conn c.load.new.conn c.load.ensures.alone c.in-Ok.world c.in-Ok.campaign c.in-Ok.ensures.ok)
