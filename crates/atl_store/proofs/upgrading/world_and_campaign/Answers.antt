use Rattle.std.proofs.Common.{sym, ◌∙◌, true≢false}
use Rattle.atl_store.specs.Faults.{first_format_fault, new_world_fault}
use Rattle.atl_store.specs.Upgrading.{FailsCheck}
use Rattle.atl_store.proofs.UpgradedLaws.{fails_to_read, loaded_old, other_world, fails_to_load}
use Rattle.atl_store.proofs.upgrading.world_and_campaign.Goals as goal
use Rattle.atl_sql.proofs.CauseLaws.{property_of_equal_error}

pub returns-in_err-old_world-clause-err : goal.returns-in_err-old_world-clause-err
returns-in_err-old_world-clause-err g c clean =
    let old = c.args.conn.now in
    let mid = c.load_as.new.conn in
    let text = c.args.new_world.now in
    let fault = c.in_err-old_world.field-0.0 in
    property_of_equal_error (FailsCheck g.S.Store text old mid) c.from_residual.result (first_format_fault fault) c.from_residual.ensures.1 (fails_to_load g.S.Store text old mid fault (c.in_err-old_world.ensures.err clean))

pub returns-in_err-world-clause-err : goal.returns-in_err-world-clause-err
returns-in_err-world-clause-err g c clean =
    let old = c.args.conn.now in
    let mid = c.load_as.new.conn in
    let text = c.args.new_world.now in
    property_of_equal_error (FailsCheck g.S.Store text old mid) c.from_residual-in_err-world.result (new_world_fault c.in_err-world.field-0.0) c.from_residual-in_err-world.ensures.1
    (fails_to_read g.S.Store text old mid c.in_err-world.field-0.0 c.in_err-world.ensures.definition (
      c.in_ok-old_world.old_world,
      c.in_ok-old_world.campaign.value,
      loaded_old g.S.Store text old mid c.load_as.ensures.alone clean c.in_ok-old_world.old_world c.in_ok-old_world.campaign c.in_ok-old_world.ensures.ok,
    ))

pub returns-then-not-are_same_but_for_markets-clause-err : goal.returns-then-not-are_same_but_for_markets-clause-err
returns-then-not-are_same_but_for_markets-clause-err g c clean =
    other_world g.S.Store c.args.new_world.now c.args.conn.now c.load_as.new.conn c.load_as.ensures.alone clean c.in_ok-old_world.old_world c.in_ok-world.world c.in_ok-old_world.campaign c.in_ok-old_world.ensures.ok c.in_ok-world.ensures.definition
    (λ same. true≢false (sym (c.are_same_but_for_markets.ensures.1 same) ∙ c.if-not-are_same_but_for_markets.true))

pub returns-clause-ok : goal.returns-clause-ok
returns-clause-ok g c = record {
  world = c.in_ok-world.ensures.definition;
  before = c.in_ok-old_world.old_world;
  loads = c.in_ok-old_world.ensures.ok;
  same = c.are_same_but_for_markets.ensures.0 c.if-not-are_same_but_for_markets.false;
}
