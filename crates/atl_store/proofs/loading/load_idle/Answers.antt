use Rattle.std.proofs.Common.{arith}
use Rattle.sqlite.specs.Held.{state}
use Rattle.sqlite.specs.State.{HasCleanDisk}
use Rattle.atl_store.specs.Loading.{RefusesToLoadIn}
use Rattle.atl_store.proofs.GatherLaws.{leaves_then}
use Rattle.atl_store.proofs.LoadedLaws.{unconfirmed_refuses, judged_damaged, holds_of_error, confirmed_before}
use Rattle.atl_store.proofs.loading.load_idle.Goals as goal

pub returns-in_err-confirm-clause-err : goal.returns-in_err-confirm-clause-err
returns-in_err-confirm-clause-err g c clean =
    let f = c.args.format in
    let old = c.args.conn.now in
    let mid = c.gather.new.conn in
    let clean_mid : HasCleanDisk (state g.S.Store mid) = omega (arith, c.confirm.ensures.leaves.survives.clean, clean) in
    let gathered = c.in_ok-world.ensures.ok clean_mid in
    holds_of_error g.S.Store (RefusesToLoadIn f g.S.Store old) c.in_err-confirm.field-0.0 c.from_residual-in_err-confirm.result c.from_residual-in_err-confirm.ensures.1
    (unconfirmed_refuses f g.S.Store old mid gathered.one c.gather.ensures.leaves clean_mid c.requires.idle gathered.typed c.in_err-confirm.field-0.0 (c.in_err-confirm.ensures.fails clean))

pub returns-in_err-campaign-clause-err : goal.returns-in_err-campaign-clause-err
returns-in_err-campaign-clause-err g c clean =
    let f = c.args.format in
    let old = c.args.conn.now in
    let mid = c.gather.new.conn in
    let new = c.confirm.new.conn in
    let gathered : HasCleanDisk (state g.S.Store mid) = omega (arith, c.confirm.ensures.leaves.survives.clean, clean) in
    holds_of_error g.S.Store (RefusesToLoadIn f g.S.Store old) _ c.from_residual-in_err-campaign.result c.from_residual-in_err-campaign.ensures.1
    (judged_damaged f g.S.Store old c.requires.idle c.in_ok-world.world c.in_ok-world.parts (c.in_ok-world.ensures.ok gathered) (confirmed_before g.S.Store f old mid new c.gather.ensures.leaves c.confirm.ensures.leaves gathered clean (c.in_ok-confirm.ensures.ok clean)).begins
    c.in_err-campaign.field-0.0 c.in_err-campaign.ensures.rules)

pub returns-clause-ok : goal.returns-clause-ok
returns-clause-ok g c =
    let f = c.args.format in
    let old = c.args.conn.now in
    let mid = c.gather.new.conn in
    let new = c.confirm.new.conn in
    record {
      parts = c.in_ok-world.parts;
      gathered = λ clean. c.in_ok-world.ensures.ok (omega (arith, c.confirm.ensures.leaves.survives.clean, clean));
      confirmed = λ clean. confirmed_before g.S.Store f old mid new c.gather.ensures.leaves c.confirm.ensures.leaves (omega (arith, c.confirm.ensures.leaves.survives.clean, clean)) clean (c.in_ok-confirm.ensures.ok clean);
      checked = c.in_ok-campaign.ensures.rules;
    }

pub returns-clause-leaves : goal.returns-clause-leaves
returns-clause-leaves g c = leaves_then g.S.Store c.args.conn.now c.gather.new.conn c.confirm.new.conn c.gather.ensures.leaves c.confirm.ensures.leaves
