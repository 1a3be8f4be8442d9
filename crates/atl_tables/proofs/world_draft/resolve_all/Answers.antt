use Rattle.std.proofs.Common.{◌+◌, ◌∷◌, [], drop, sym, ap, ◌∙◌, arith, length-append}
use Rattle.std.proofs.lemmas.List.{drop_more}
use Rattle.atl_tables.proofs.FaultLaws.{gives_error}
use Rattle.atl_tables.proofs.EachLaws.{rest_has_same_fault_at_index, error_at_index_is_error_of_all, results_with_one_more_are_all, each_index_push}
use Rattle.atl_tables.proofs.world_draft.resolve_all.Goals as goal

pub returns-in_err-record-clause-value : goal.returns-in_err-record-clause-value
returns-in_err-record-clause-value g c =
    gives_error _ _ _ _ _ c.from_residual.ensures.1 (error_at_index_is_error_of_all (g.D.Draft.unknown c.args.all.now) c.args.drafts.now c.loop-i.i c.index-drafts-i.result _ c.loop-i-test.true c.index-drafts-i.is c.loop-i.invariant.faults c.in_err-record.field-0.0 c.in_err-record.ensures.value)

pub loop-i-preserved : goal.loop-i-preserved
loop-i-preserved g c =
    let drafts = c.args.drafts.now in
    let i = c.loop-i.i in
    let draft = c.index-drafts-i.result in
    let record_of = g.D.Draft.record_of c.args.all.now in
    let one = c.in_ok-record.ensures.value in
    let so_far = c.loop-i.invariant in
    let here = drop_more drafts i draft c.loop-i-test.true ∙ ap (λ (y : _). y ∷ drop (i + 1) drafts) (sym c.index-drafts-i.is) in
    rw c.in_ok-push.ensures.ok (record {
      faults = rest_has_same_fault_at_index (g.D.Draft.unknown c.args.all.now) drafts i draft _ c.loop-i-test.true c.index-drafts-i.is so_far.faults one.0;
      records = results_with_one_more_are_all record_of c.loop-i.records draft (drop (i + 1) drafts) c.in_ok-record.record _ (rw here at so_far.records) one.1;
      sound = each_index_push (g.D.Draft.is_sound c.args.all.now) c.loop-i.records c.in_ok-record.record so_far.sound (rw so_far.count c.in_ok-record.ensures.sound);
      count = omega (arith, length-append c.loop-i.records (c.in_ok-record.record ∷ []), so_far.count);
    })
