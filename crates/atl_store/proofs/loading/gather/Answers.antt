use Rattle.std.proofs.Common.{subst, arith, IfErr}
use Rattle.sqlite.specs.Held.{state}
use Rattle.sqlite.specs.State.{HasCleanDisk}
use Rattle.atl_store.specs.Gathering.{FailsToRead}
use Rattle.atl_store.specs.Loading.{RefusesToLoadIn, other_selects}
use Rattle.atl_store.proofs.LoadedLaws.{own_kept, gathered_with, mistyped_refuses, unread_refuses, unmade_refuses, holds_of_error}
use Rattle.atl_store.proofs.loading.gather.Goals as goal

pub returns-in_err-others-clause-err : goal.returns-in_err-others-clause-err
returns-in_err-others-clause-err g c clean =
    let f = c.args.format in
    let old = c.args.conn.now in
    let mid = c.read_own.new.conn in
    let after_own : HasCleanDisk (state g.S.Store mid) = omega (arith, c.read_others.ensures.leaves.survives.clean, clean) in
    holds_of_error g.S.Store (RefusesToLoadIn f g.S.Store old) c.in_err-others.field-0.0 c.from_residual-in_err-others.result c.from_residual-in_err-others.ensures.1
    (unread_refuses f g.S.Store old mid c.requires.idle (own_kept f g.S.Store old c.in_ok-own.own c.in_ok-own.world (c.in_ok-own.ensures.ok after_own)) c.read_own.ensures.leaves c.in_err-others.field-0.0
    (subst (λ r. IfErr r (FailsToRead g.S.Store mid (other_selects f))) c.in_err-others.was (c.read_others.ensures.fails clean)))

pub returns-in_err-parts-clause-err : goal.returns-in_err-parts-clause-err
returns-in_err-parts-clause-err g c clean =
    let f = c.args.format in
    let old = c.args.conn.now in
    let mid = c.read_own.new.conn in
    let after_own : HasCleanDisk (state g.S.Store mid) = omega (arith, c.read_others.ensures.leaves.survives.clean, clean) in
    holds_of_error g.S.Store (RefusesToLoadIn f g.S.Store old) c.in_err-parts.field-0.0 c.from_residual-in_err-parts.result c.from_residual-in_err-parts.ensures.1
    (unmade_refuses f g.S.Store _ old mid c.read_others.new.conn c.in_ok-own.own c.in_ok-own.world (c.in_ok-own.ensures.ok after_own) c.read_own.ensures.leaves c.read_others.result c.read_others.ensures c.in_ok-others.field-0 c.in_ok-others.was clean c.requires.idle c.in-Some.others c.in-Some.is
    c.in_err-parts.field-0.0 c.in_err-parts.ensures.fails)

pub returns-in_default-clause-err : goal.returns-in_default-clause-err
returns-in_default-clause-err g c clean =
    let mid = c.read_own.new.conn in
    let after_own : HasCleanDisk (state g.S.Store mid) = omega (arith, c.read_others.ensures.leaves.survives.clean, clean) in
    mistyped_refuses c.args.format g.S.Store _ c.args.conn.now mid c.read_others.new.conn c.in_ok-own.own c.in_ok-own.world (c.in_ok-own.ensures.ok after_own) c.read_own.ensures.leaves c.read_others.result c.read_others.ensures c.in_ok-others.field-0 c.in_ok-others.was clean c.in_default.is

pub returns-clause-ok : goal.returns-clause-ok
returns-clause-ok g c clean =
    let mid = c.read_own.new.conn in
    let after_own : HasCleanDisk (state g.S.Store mid) = omega (arith, c.read_others.ensures.leaves.survives.clean, clean) in
    gathered_with c.args.format g.S.Store _ c.args.conn.now mid c.read_others.new.conn c.in_ok-own.own c.in_ok-own.world (c.in_ok-own.ensures.ok after_own) c.read_own.ensures.leaves c.read_others.result c.read_others.ensures c.in_ok-others.field-0 c.in_ok-others.was clean
    c.in-Some.others c.in-Some.is c.in_ok-parts.parts c.into_campaign_row.result c.into_campaign_row.ensures c.in_ok-parts.ensures.ok
