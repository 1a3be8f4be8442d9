use Rattle.sqlite.specs.Held.{state}
use Rattle.atl_campaign.specs.Campaign.{with_mail}
use Rattle.atl_sql.specs.Inside.{HasTables}
use Rattle.atl_writing.specs.Arriving.{WritesMail}
use Rattle.atl_keeping.specs.Faults.{write_fault}
use Rattle.atl_writing.specs.OwnStatements.{OfMail}
use Rattle.atl_keeping.proofs.JoinLaws.{mail_held}
use Rattle.atl_keeping.proofs.StayLaws.{commits_keeps, leaves_stops, commit_leaves_others, leaves_others, survives_is_later, on_err, error_of}
use Rattle.atl_keeping.proofs.mailing.write_mail.Goals as goal

pub returns-clause-ok : goal.returns-clause-ok
returns-clause-ok g c clean text before keeps =
    let old = state g.S.Store c.args.conn.now in
    let new = state g.S.Store c.write_mailing.new.conn in
    commits_keeps old new text (λ db up. g.met.S.Store.settled c.write_mailing.new.conn.store db up) HasTables (WritesMail c.args.faction c.args.text.now) (with_mail before c.args.faction c.args.text.now) (c.in_ok-write_mailing.ensures.ok clean) keeps.tables
    (λ did. mail_held c.args.faction c.args.text.now old.now new.now did text before keeps.rows)

pub returns-in_err-write_mailing-clause-err : goal.returns-in_err-write_mailing-clause-err
returns-in_err-write_mailing-clause-err g c clean = on_err c.from_residual.result _ (λ text before keeps.
    let old = state g.S.Store c.args.conn.now in
    let new = state g.S.Store c.write_mailing.new.conn in
    leaves_stops old new text (λ db up. g.met.S.Store.settled c.write_mailing.new.conn.store db up) (WritesMail c.args.faction c.args.text.now) before (with_mail before c.args.faction c.args.text.now) clean (c.in_err-write_mailing.ensures.err clean) c.write_mailing.ensures.crash keeps
    (λ db did. mail_held c.args.faction c.args.text.now old.now db did text before keeps.rows))

pub returns-clause-others : goal.returns-clause-others
returns-clause-others g c clean =
    commit_leaves_others (state g.S.Store c.args.conn.now) (state g.S.Store c.write_mailing.new.conn) HasTables
    (WritesMail c.args.faction c.args.text.now) (c.in_ok-write_mailing.ensures.ok clean) (λ has. has)

pub returns-in_err-write_mailing-clause-others : goal.returns-in_err-write_mailing-clause-others
returns-in_err-write_mailing-clause-others g c clean =
    leaves_others (state g.S.Store c.args.conn.now) (state g.S.Store c.write_mailing.new.conn)
    (c.in_err-write_mailing.ensures.err clean)

pub returns-clause-later : goal.returns-clause-later
returns-clause-later g c =
    survives_is_later (state g.S.Store c.args.conn.now) (state g.S.Store c.write_mailing.new.conn) _
    c.write_mailing.ensures.crash

pub returns-in_err-write_mailing-clause-later : goal.returns-in_err-write_mailing-clause-later
returns-in_err-write_mailing-clause-later g c =
    survives_is_later (state g.S.Store c.args.conn.now) (state g.S.Store c.write_mailing.new.conn) _
    c.write_mailing.ensures.crash

pub returns-clause-own : goal.returns-clause-own
returns-clause-own g c clean tables = ((c.in_ok-write_mailing.ensures.ok clean).does tables).does

pub returns-in_err-write_mailing-clause-reports_error : goal.returns-in_err-write_mailing-clause-reports_error
returns-in_err-write_mailing-clause-reports_error g c clean =
    error_of g.S.Store (OfMail c.args.faction c.args.text.now) write_fault c.args.conn.now c.write_mailing.new.conn _
    c.from_residual.result c.from_residual.ensures.1 (c.in_err-write_mailing.ensures.error_given clean)

pub returns-in_err-write_mailing-clause-left : goal.returns-in_err-write_mailing-clause-left
returns-in_err-write_mailing-clause-left g c clean =
    on_err c.from_residual.result _ (c.in_err-write_mailing.ensures.err clean)
