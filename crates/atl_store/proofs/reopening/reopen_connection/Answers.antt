use Rattle.std.proofs.Common.{sym, ◌∙◌, subst, arith}
use Rattle.sqlite.specs.Held.{state}
use Rattle.sqlite_trees.specs.View.{IsClean}
use Rattle.atl_store.proofs.ReopenLaws.{keeps_stored, kept_again, stopped_again}
use Rattle.atl_store.proofs.reopening.reopen_connection.Goals as goal

pub returns-in-Ok-over-clause-found : goal.returns-in-Ok-over-clause-found
returns-in-Ok-over-clause-found g c =
    let old = c.args.conn in
    let mid = c.crash_and_reopen.new.self in
    let new = c.in-Ok-over.conn in
    record {
      clean = λ clean. omega (arith, clean, c.in-Ok-over.ensures.clean, c.in-Ok.ensures.clean, c.into_store-store.ensures.quiet.clean);
      found = λ clean.
          let again : IsClean (g.S.Store.view mid) = omega (arith, clean, c.in-Ok-over.ensures.clean) in
          subst (state g.S.Store old).may_leave (sym (c.in-Ok-over.ensures.trees clean ∙ c.in-Ok.ensures.fresh.clean)) (c.into_store-store.ensures.quiet.outcomes _ (c.in-Ok.ensures.found again));
      keeps = λ clean.
          let opens = c.in-Ok-over.ensures.opens clean in
          keeps_stored g.S.Store new opens.0 opens.1 (λ db may. g.met.S.Store.settled new.store db opens.0.is_open may);
    }

pub returns-in-Ok-over-clause-kept : goal.returns-in-Ok-over-clause-kept
returns-in-Ok-over-clause-kept g c =
    kept_again g.S.Store c.args.conn c.in-Ok-over.conn (returns-in-Ok-over-clause-found g c)

pub returns-in-Ok-over-clause-stopped : goal.returns-in-Ok-over-clause-stopped
returns-in-Ok-over-clause-stopped g c =
    stopped_again g.S.Store c.args.conn c.in-Ok-over.conn (returns-in-Ok-over-clause-found g c)
