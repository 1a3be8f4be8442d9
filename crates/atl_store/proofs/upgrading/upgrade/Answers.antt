use Rattle.std.proofs.Common.{inr, sym, ◌∙◌, true≢false}
use Rattle.sqlite.specs.Held.{state}
use Rattle.atl_store.specs.Faults.{upgrade_fault}
use Rattle.atl_store.specs.Upgrading.{RefusesToUpgrade}
use Rattle.atl_store.proofs.UpgradedLaws.{has_more, later_both, refused_after, refused_before, upgrades}
use Rattle.atl_store.proofs.upgrading.upgrade.Goals as goal
use Rattle.atl_sql.proofs.CauseLaws.{property_of_equal_error}

pub returns-in_err-world-clause-err : goal.returns-in_err-world-clause-err
returns-in_err-world-clause-err g c =
    let old = c.args.conn.now in
    let mid = c.world_and_campaign.new.conn in
    let text = c.args.new_world.now in
    let fault = c.in_err-world.field-0.0 in
    property_of_equal_error (RefusesToUpgrade g.S.Store text old mid) c.from_residual.result fault c.from_residual.ensures.1 (refused_before g.S.Store text old mid fault c.in_err-world.ensures.err c.world_and_campaign.ensures.alone)

pub returns-then-not-is_first_format_only-clause-err : goal.returns-then-not-is_first_format_only-clause-err
returns-then-not-is_first_format_only-clause-err g c =
    let old = c.args.conn.now in
    let mid = c.world_and_campaign.new.conn in
    let text = c.args.new_world.now in
    refused_before g.S.Store text old mid _
    (λ clean. inr (has_more g.S.Store text old mid c.world_and_campaign.ensures.alone clean c.in_ok-world.world c.in_ok-world.campaign c.in_ok-world.ensures.ok (λ just. true≢false (sym (c.is_first_format_only.ensures.1 (c.schema.ensures.value ∙ just)) ∙ c.if-not-is_first_format_only.true))))
    c.world_and_campaign.ensures.alone

pub returns-in_err-write_upgrade-clause-err : goal.returns-in_err-write_upgrade-clause-err
returns-in_err-write_upgrade-clause-err g c =
    let old = c.args.conn.now in
    let mid = c.world_and_campaign.new.conn in
    let new = c.write_upgrade.new.conn in
    let text = c.args.new_world.now in
    let error = c.in_err-write_upgrade.field-0.0 in
    property_of_equal_error (RefusesToUpgrade g.S.Store text old new) c.from_residual-in_err-write_upgrade.result (upgrade_fault error) c.from_residual-in_err-write_upgrade.ensures.1
    (refused_after g.S.Store text old mid new c.in_ok-world.world c.in_ok-world.campaign c.world_and_campaign.ensures.alone c.in_ok-world.ensures.ok
    (sym c.schema.ensures.value ∙ c.is_first_format_only.ensures.0 c.if-not-is_first_format_only.false) c.in_ok-world.ensures.idle c.in_err-write_upgrade.ensures.err c.write_upgrade.ensures.crash error c.in_err-write_upgrade.ensures.error_given)

pub returns-clause-ok : goal.returns-clause-ok
returns-clause-ok g c =
    upgrades g.S.Store c.args.new_world.now c.args.conn.now c.world_and_campaign.new.conn c.write_upgrade.new.conn c.in_ok-world.world c.in_ok-world.campaign c.world_and_campaign.ensures.alone c.in_ok-world.ensures.ok
    (λ db up. g.met.S.Store.settled c.write_upgrade.new.conn.store db up) (sym c.schema.ensures.value ∙ c.is_first_format_only.ensures.0 c.if-not-is_first_format_only.false) c.in_ok-write_upgrade.ensures.ok c.write_upgrade.ensures.crash c.write_upgrade.ensures.idle

pub returns-clause-later : goal.returns-clause-later
returns-clause-later g c =
    later_both (state g.S.Store c.args.conn.now) (state g.S.Store c.world_and_campaign.new.conn)
    (state g.S.Store c.write_upgrade.new.conn) _ _ c.world_and_campaign.ensures.alone.survives
    c.write_upgrade.ensures.crash

pub returns-in_err-write_upgrade-clause-later : goal.returns-in_err-write_upgrade-clause-later
returns-in_err-write_upgrade-clause-later g c =
    later_both (state g.S.Store c.args.conn.now) (state g.S.Store c.world_and_campaign.new.conn)
    (state g.S.Store c.write_upgrade.new.conn) _ _ c.world_and_campaign.ensures.alone.survives
    c.write_upgrade.ensures.crash
