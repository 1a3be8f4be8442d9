use Rattle.std.proofs.Common.{◌+◌, ◌∷◌, [], drop, arith, length-append}
use Rattle.std.proofs.lemmas.List.Elements.{All-push}
use Rattle.toml.specs.View.{view, items_view}
use Rattle.atl_tables.proofs.FaultLaws.{gives_error}
use Rattle.atl_tables.proofs.ElementLaws.{elements_from_index, later_elements_have_same_fault, error_of_element_is_error_of_all, values_with_one_more_are_all}
use Rattle.atl_tables.proofs.elements.elements.Goals as goal

pub returns-in_err-one-clause-value : goal.returns-in_err-one-clause-value
returns-in_err-one-clause-value g c =
    let vs = c.args.values.now.items in
    let here = elements_from_index vs c.loop-i.i c.index.result.now (omega (arith, c.args.values.now.ok.0)) c.index.ensures in
    gives_error _ _ _ _ _ c.from_residual.ensures.1 (error_of_element_is_error_of_all g.E.FromTable.conditions c.args.key.now c.loop-i.i (view c.index.result.now) (items_view (drop (c.loop-i.i + 1) vs)) _ c.in_err-one.field-0.0 (rw here at c.loop-i.invariant.faults) c.in_err-one.ensures.value)

pub loop-i-preserved : goal.loop-i-preserved
loop-i-preserved g c =
    let vs = c.args.values.now.items in
    let here = elements_from_index vs c.loop-i.i c.index.result.now (omega (arith, c.args.values.now.ok.0)) c.index.ensures in
    let one = c.in_ok-one.ensures.value in
    rw c.in_ok-push.ensures.items (record {
      faults = later_elements_have_same_fault g.E.FromTable.conditions c.args.key.now c.loop-i.i (view c.index.result.now) (items_view (drop (c.loop-i.i + 1) vs)) _ (rw here at c.loop-i.invariant.faults) one.0;
      records = values_with_one_more_are_all g.E.FromTable.record_of c.args.key.now c.loop-i.i (view c.index.result.now) (items_view (drop (c.loop-i.i + 1) vs)) c.loop-i.read.items c.in_ok-one.one _ (rw here at c.loop-i.invariant.records) one.1;
      sound = All-push g.E.FromTable.is_sound c.loop-i.read.items c.in_ok-one.one c.loop-i.invariant.sound c.in_ok-one.ensures.sound;
      count = omega (arith, length-append c.loop-i.read.items (c.in_ok-one.one ∷ []));
    })
