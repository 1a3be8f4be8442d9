use Rattle.std.proofs.Common.{IfErr, subst, sym}
use Rattle.sqlite.specs.Held.{state}
use Rattle.atl_sql.specs.Inside.{HasTables}
use Rattle.atl_writing.specs.Arriving.{WritesJoin}
use Rattle.atl_keeping.specs.Faults.{write_fault}
use Rattle.atl_sql.specs.Causes.{IsFaultOfError}
use Rattle.atl_writing.specs.OwnStatements.{OfJoining}
use Rattle.atl_keeping.specs.Keeps.{IsJoining}
use Rattle.atl_keeping.proofs.JoinLaws.{join_held}
use Rattle.atl_keeping.proofs.StayLaws.{commits_keeps, leaves_stops, commit_leaves_others, leaves_others, survives_is_later, on_err, error_of}
use Rattle.atl_keeping.proofs.joining.write_join.Goals as goal

pub returns-clause-ok : goal.returns-clause-ok
returns-clause-ok g c clean text before keeps joining =
    let old = state g.S.Store c.args.conn.now in
    let new = state g.S.Store c.write_joining.new.conn in
    let after = c.args.campaign.now.value in
    let joins = subst (λ n. IsJoining before n after) (sym c.arrival_of-arrival.ensures.number) joining in
    commits_keeps old new text (λ db up. g.met.S.Store.settled c.write_joining.new.conn.store db up) HasTables (WritesJoin c.arrival_of-arrival.result.number after) after (c.in_ok-write_joining.ensures.ok clean) keeps.tables
    (λ did. join_held _ _ _ _ _ after c.arrival_of-arrival.ensures.found old.now new.now did text before joins keeps.rows)

pub returns-in_err-write_joining-clause-err : goal.returns-in_err-write_joining-clause-err
returns-in_err-write_joining-clause-err g c clean = on_err c.from_residual.result _ (λ text before keeps joining.
    let old = state g.S.Store c.args.conn.now in
    let new = state g.S.Store c.write_joining.new.conn in
    let after = c.args.campaign.now.value in
    let joins = subst (λ n. IsJoining before n after) (sym c.arrival_of-arrival.ensures.number) joining in
    leaves_stops old new text (λ db up. g.met.S.Store.settled c.write_joining.new.conn.store db up) (WritesJoin c.arrival_of-arrival.result.number after) before after clean (c.in_err-write_joining.ensures.err clean) c.write_joining.ensures.crash keeps
    (λ db did. join_held _ _ _ _ _ after c.arrival_of-arrival.ensures.found old.now db did text before joins keeps.rows))

pub returns-clause-others : goal.returns-clause-others
returns-clause-others g c clean =
    commit_leaves_others (state g.S.Store c.args.conn.now) (state g.S.Store c.write_joining.new.conn) HasTables
    (WritesJoin c.arrival_of-arrival.result.number c.args.campaign.now.value) (c.in_ok-write_joining.ensures.ok clean)
    (λ has. has)

pub returns-in_err-write_joining-clause-others : goal.returns-in_err-write_joining-clause-others
returns-in_err-write_joining-clause-others g c clean =
    leaves_others (state g.S.Store c.args.conn.now) (state g.S.Store c.write_joining.new.conn)
    (c.in_err-write_joining.ensures.err clean)

pub returns-clause-later : goal.returns-clause-later
returns-clause-later g c =
    survives_is_later (state g.S.Store c.args.conn.now) (state g.S.Store c.write_joining.new.conn) _
    c.write_joining.ensures.crash

pub returns-in_err-write_joining-clause-later : goal.returns-in_err-write_joining-clause-later
returns-in_err-write_joining-clause-later g c =
    survives_is_later (state g.S.Store c.args.conn.now) (state g.S.Store c.write_joining.new.conn) _
    c.write_joining.ensures.crash

pub returns-clause-own : goal.returns-clause-own
returns-clause-own g c clean tables =
    let old = state g.S.Store c.args.conn.now in
    let new = state g.S.Store c.write_joining.new.conn in
    subst (λ n. WritesJoin n c.args.campaign.now.value old.now new.now) c.arrival_of-arrival.ensures.number ((c.in_ok-write_joining.ensures.ok clean).does tables).does

pub returns-in_err-write_joining-clause-reports_error : goal.returns-in_err-write_joining-clause-reports_error
returns-in_err-write_joining-clause-reports_error g c clean =
    let old = c.args.conn.now in
    let new = c.write_joining.new.conn in
    let after = c.args.campaign.now.value in
    subst (λ n. IfErr c.from_residual.result (IsFaultOfError g.S.Store (OfJoining n after) write_fault old new)) c.arrival_of-arrival.ensures.number
    (error_of g.S.Store (OfJoining c.arrival_of-arrival.result.number after) write_fault old new _ c.from_residual.result c.from_residual.ensures.1 (c.in_err-write_joining.ensures.error_given clean))

pub returns-in_err-write_joining-clause-left : goal.returns-in_err-write_joining-clause-left
returns-in_err-write_joining-clause-left g c clean =
    on_err c.from_residual.result _ (c.in_err-write_joining.ensures.err clean)
