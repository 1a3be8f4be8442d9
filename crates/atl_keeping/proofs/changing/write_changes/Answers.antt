use Rattle.sqlite.specs.Held.{state}
use Rattle.atl_writing.specs.Changing.{WritesChanges}
use Rattle.atl_keeping.specs.Faults.{write_fault}
use Rattle.atl_writing.specs.OwnStatements.{OfChange}
use Rattle.atl_sql.specs.Inside.{HasTables}
use Rattle.atl_keeping.proofs.ChangeLaws.{changes_held, unmarked_held}
use Rattle.atl_keeping.proofs.StayLaws.{commits_keeps, leaves_stops, may_found, commit_leaves_others, leaves_others, survives_is_later, on_err, error_of}
use Rattle.atl_keeping.proofs.changing.write_changes.Goals as goal

pub returns-clause-ok : goal.returns-clause-ok
returns-clause-ok g c clean text before keeps covers =
    let old = state g.S.Store c.args.conn.now in
    let new = state g.S.Store c.write_marked.new.conn in
    let campaign = c.args.campaign.now in
    commits_keeps old new text (λ db up. g.met.S.Store.settled c.write_marked.new.conn.store db up) HasTables (WritesChanges campaign) campaign.value (c.in_ok-write_marked.ensures.ok clean) keeps.tables
    (λ did. changes_held campaign old.now new.now did text before covers keeps.rows)

pub returns-in_err-write_marked-clause-err : goal.returns-in_err-write_marked-clause-err
returns-in_err-write_marked-clause-err g c clean = on_err c.from_residual.result _ (λ text before keeps covers.
    let old = state g.S.Store c.args.conn.now in
    let new = state g.S.Store c.write_marked.new.conn in
    let campaign = c.args.campaign.now in
    leaves_stops old new text (λ db up. g.met.S.Store.settled c.write_marked.new.conn.store db up) (WritesChanges campaign) before campaign.value clean (c.in_err-write_marked.ensures.err clean) c.write_marked.ensures.crash keeps
    (λ db did. changes_held campaign old.now db did text before covers keeps.rows))

pub returns-clause-marked : goal.returns-clause-marked
returns-clause-marked g c clean tables = ((c.in_ok-write_marked.ensures.ok clean).does tables).does

pub returns-clause-others : goal.returns-clause-others
returns-clause-others g c clean =
    commit_leaves_others (state g.S.Store c.args.conn.now) (state g.S.Store c.write_marked.new.conn) HasTables
    (WritesChanges c.args.campaign.now) (c.in_ok-write_marked.ensures.ok clean) (λ has. has)

pub returns-in_err-write_marked-clause-others : goal.returns-in_err-write_marked-clause-others
returns-in_err-write_marked-clause-others g c clean =
    leaves_others (state g.S.Store c.args.conn.now) (state g.S.Store c.write_marked.new.conn)
    (c.in_err-write_marked.ensures.err clean)

pub returns-clause-later : goal.returns-clause-later
returns-clause-later g c =
    survives_is_later (state g.S.Store c.args.conn.now) (state g.S.Store c.write_marked.new.conn) _
    c.write_marked.ensures.crash

pub returns-in_err-write_marked-clause-later : goal.returns-in_err-write_marked-clause-later
returns-in_err-write_marked-clause-later g c =
    survives_is_later (state g.S.Store c.args.conn.now) (state g.S.Store c.write_marked.new.conn) _
    c.write_marked.ensures.crash

pub returns-clause-unmarked : goal.returns-clause-unmarked
returns-clause-unmarked g c clean text tables rest =
    let old = state g.S.Store c.args.conn.now in
    let new = state g.S.Store c.write_marked.new.conn in
    let campaign = c.args.campaign.now in
    commits_keeps old new text (λ db up. g.met.S.Store.settled c.write_marked.new.conn.store db up) HasTables (WritesChanges campaign) campaign.value (c.in_ok-write_marked.ensures.ok clean) tables
    (λ did. unmarked_held campaign old.now new.now did text rest)

pub returns-in_err-write_marked-clause-reports_error : goal.returns-in_err-write_marked-clause-reports_error
returns-in_err-write_marked-clause-reports_error g c clean =
    error_of g.S.Store (OfChange c.args.campaign.now.value) write_fault c.args.conn.now c.write_marked.new.conn _
    c.from_residual.result c.from_residual.ensures.1 (c.in_err-write_marked.ensures.error_given clean)

pub returns-in_err-write_marked-clause-left : goal.returns-in_err-write_marked-clause-left
returns-in_err-write_marked-clause-left g c clean =
    on_err c.from_residual.result _ (c.in_err-write_marked.ensures.err clean)

pub returns-in_err-write_marked-clause-crash : goal.returns-in_err-write_marked-clause-crash
returns-in_err-write_marked-clause-crash g c clean = on_err c.from_residual.result _ (λ text tables rest.
    let old = state g.S.Store c.args.conn.now in
    let campaign = c.args.campaign.now in
    may_found old (state g.S.Store c.write_marked.new.conn) text campaign.value HasTables (WritesChanges campaign) tables (λ db did. unmarked_held campaign old.now db did text rest) clean c.write_marked.ensures.crash)
