use Rattle.std.proofs.Common.{Ok, Some, None, ◌++◌, ◌∷◌, [], subst, rules}
use Rattle.atl_sql.specs.Reading.{Streams}
use Rattle.atl_sql.proofs.StreamLaws.{not_begun, not_advanced, ended, given_up, giving_more, read_more, typed_more}
use Rattle.atl_sql.proofs.rows.stored.stream.Goals as goal

pub returns-in_err-rows : goal.returns-in_err-rows
returns-in_err-rows g c =
    let held = rw c.in_err-rows.was at c.query.follows.holds-at-none in
    not_begun g.S.Store c.args.sql.now c.args.conn.now g.T.Stored.forms g.T.Stored.shown c.query.follows.lender-at-none c.in_err-rows.field-0.0 c.from_residual.result c.requires.plain c.from_residual.ensures.1
    held.err (held.mode c.requires.idle) held.survives

pub returns-in_err-row : goal.returns-in_err-row
returns-in_err-row g c =
    let moved = c.next.follows.holds-at-none in
    let now = c.next.follows.lender-at-none.conn.now in
    let before = c.rows.invariant in
    subst (Streams g.S.Store c.args.sql.now c.args.conn.now g.T.Stored.forms g.T.Stored.shown c.from_residual-in_err-row.result) (search rules)
    (not_advanced g.S.Store c.args.sql.now c.args.conn.now before.given c.rows.rows.conn.now now before.giving moved.survives moved.mode g.T.Stored.forms g.T.Stored.shown c.in_err-row.field-0.0 c.from_residual-in_err-row.result c.requires.plain c.from_residual-in_err-row.ensures.1
    (rw c.in_err-row.was at moved.err))

pub returns-in_default : goal.returns-in_default
returns-in_default g c =
    let moved = c.next.follows.holds-at-none in
    let now = c.next.follows.lender-at-none.conn.now in
    let before = c.rows.invariant in
    subst (Streams g.S.Store c.args.sql.now c.args.conn.now g.T.Stored.forms g.T.Stored.shown (Ok (Some c.rows.all))) (search rules)
    (ended g.S.Store c.args.sql.now c.args.conn.now before.given c.rows.rows.conn.now now before.giving moved.survives moved.mode g.T.Stored.forms g.T.Stored.shown c.rows.all before.read before.typed
    (rw (c.in_ok-row.was, c.in_default.is) at moved.ok) (rw c.in_ok-row.was at moved.same))

pub returns-then-not-push_row : goal.returns-then-not-push_row
returns-then-not-push_row g c =
    let moved = c.next.follows.holds-at-none in
    let now = c.next.follows.lender-at-none.conn.now in
    let before = c.rows.invariant in
    let row = c.in-Some.row.now in
    let giving = giving_more g.S.Store c.args.sql.now c.args.conn.now before.given c.rows.rows.conn.now now before.giving moved.survives moved.mode row (rw (c.in_ok-row.was, c.in-Some.is) at moved.ok) (rw c.in_ok-row.was at moved.same) in
    subst (Streams g.S.Store c.args.sql.now c.args.conn.now g.T.Stored.forms g.T.Stored.shown (Ok None)) (search rules) (given_up g.S.Store c.args.sql.now c.args.conn.now g.T.Stored.forms g.T.Stored.shown (before.given ++ row ∷ []) now giving)

pub returns : goal.returns
returns g c =
    let before = c.rows.invariant in
    subst (Streams g.S.Store c.args.sql.now c.args.conn.now g.T.Stored.forms g.T.Stored.shown (Ok None)) (search rules) (given_up g.S.Store c.args.sql.now c.args.conn.now g.T.Stored.forms g.T.Stored.shown before.given c.rows.rows.conn.now before.giving)

pub rows-preserved : goal.rows-preserved
rows-preserved g c =
    let moved = c.next.follows.holds-at-none in
    let now = c.next.follows.lender-at-none.conn.now in
    let before = c.rows.invariant in
    let row = c.in-Some.row.now in
    let adds = c.push_row.ensures (search rules) in
    record {
      lent = search rules;
      given = before.given ++ row ∷ [];
      giving = giving_more g.S.Store c.args.sql.now c.args.conn.now before.given c.rows.rows.conn.now now before.giving moved.survives moved.mode row (rw (c.in_ok-row.was, c.in-Some.is) at moved.ok) (rw c.in_ok-row.was at moved.same);
      read = read_more g.S.Store c.args.sql.now c.args.conn.now before.given c.rows.rows.conn.now now before.giving moved.survives moved.mode g.T.Stored.forms g.T.Stored.shown c.rows.all.items c.push_row.new.all.items row before.read adds;
      typed = typed_more g.S.Store c.args.sql.now c.args.conn.now before.given c.rows.rows.conn.now now before.giving moved.survives moved.mode g.T.Stored.forms g.T.Stored.shown c.rows.all.items c.push_row.new.all.items row before.typed adds;
    }
