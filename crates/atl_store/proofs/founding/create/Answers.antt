use Rattle.std.proofs.Common.{inl, refl, sym, ◌∙◌, true≢false}
use Rattle.sqlite.specs.Held.{state}
use Rattle.atl_sql.specs.Inside.{IsBlank}
use Rattle.atl_writing.specs.Filling.{WritesFounding}
use Rattle.atl_keeping.proofs.StayLaws.{commits_keeps, may_found, failed_changes_nothing, refused_with, not_there, unchanged_itself, survives_is_later}
use Rattle.atl_keeping.specs.Keeps.{FailsToCreate}
use Rattle.atl_store.proofs.founding.create.Goals as goal

pub returns-clause-ok : goal.returns-clause-ok
returns-clause-ok g c =
    let old = state g.S.Store c.args.conn.now in
    let new = state g.S.Store c.write_founding.new.conn in
    record {
      fresh = not_there g.S.Store c.args.conn.now c.schema.result.now _ c.schema.ensures.value c.has_campaign_table.ensures c.if-has_campaign_table.false;
      idle = c.write_founding.ensures.idle;
      tables =
          λ clean. commits_keeps old new c.args.world_text.now
          (λ db up. g.met.S.Store.settled c.write_founding.new.conn.store db up) IsBlank
          (WritesFounding c.args.world_text.now c.args.campaign.now.value) c.args.campaign.now.value
          (c.in_ok-write_founding.ensures.ok clean)
          (c.is_ready.ensures.ready.0 c.if-not-is_ready.false).0 (λ did. did);
    }

pub returns-in_err-write_founding-clause-err : goal.returns-in_err-write_founding-clause-err
returns-in_err-write_founding-clause-err g c =
    let old = state g.S.Store c.args.conn.now in
    let new = state g.S.Store c.write_founding.new.conn in
    let ready = c.is_ready.ensures.ready.0 c.if-not-is_ready.false in
    let fails : FailsToCreate g.S.Store c.args.world_text.now c.args.campaign.now.value c.args.conn.now c.write_founding.new.conn = record {
      fresh = not_there g.S.Store c.args.conn.now c.schema.result.now _ c.schema.ensures.value c.has_campaign_table.ensures c.if-has_campaign_table.false;
      tables = λ clean. failed_changes_nothing old new _ clean (c.in_err-write_founding.ensures.err clean) c.write_founding.ensures.crash ready.1 (c.is_ready.ensures.settled c.if-not-is_ready.false);
      crash = λ clean. may_found old new c.args.world_text.now c.args.campaign.now.value IsBlank (WritesFounding c.args.world_text.now c.args.campaign.now.value) ready.0 (λ db did. did) clean c.write_founding.ensures.crash;
    } in
    refused_with g.S.Store c.args.world_text.now c.args.campaign.now.value c.args.conn.now c.write_founding.new.conn ready fails _ c.from_residual.result c.from_residual.ensures.1 c.in_err-write_founding.ensures.error_given

pub returns-then-not-is_ready-clause-err : goal.returns-then-not-is_ready-clause-err
returns-then-not-is_ready-clause-err g c = (
  record {
    fresh = not_there g.S.Store c.args.conn.now c.schema.result.now _ c.schema.ensures.value c.has_campaign_table.ensures c.if-has_campaign_table.false;
    tables = λ clean. unchanged_itself (state g.S.Store c.args.conn.now);
    crash = λ clean db may. inl may;
  },
  inl (λ ready. true≢false (sym (c.is_ready.ensures.ready.1 ready) ∙ c.if-not-is_ready.true), refl),
)

pub returns-clause-later : goal.returns-clause-later
returns-clause-later g c =
    survives_is_later (state g.S.Store c.args.conn.now) (state g.S.Store c.write_founding.new.conn) _
    c.write_founding.ensures.crash

pub returns-in_err-write_founding-clause-later : goal.returns-in_err-write_founding-clause-later
returns-in_err-write_founding-clause-later g c =
    survives_is_later (state g.S.Store c.args.conn.now) (state g.S.Store c.write_founding.new.conn) _
    c.write_founding.ensures.crash
