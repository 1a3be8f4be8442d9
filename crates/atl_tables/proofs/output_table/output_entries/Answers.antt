use Rattle.std.proofs.Common.{◌≡◌, Ok, ap, sym, ◌∙◌, refl, string_bytes, rules}
use Rattle.std.specs.Map.Iter.{deref_pair}
use Rattle.std.proofs.lemmas.Map.Iter.{rest_more}
use Rattle.std.proofs.lemmas.List.Elements.{All-push}
use Rattle.toml.specs.View.{view, table_view}
use Rattle.atl_tables.specs.Drafts.{IsOutput}
use Rattle.atl_tables.specs.OutputTable.{in_byte_order, amount_at}
use Rattle.atl_tables.proofs.OutputLaws.{entries_view, entries_in_order, later_amounts_have_same_fault, amounts_with_one_more_are_all}
use Rattle.atl_tables.proofs.output_table.output_entries.Goals as goal

pub loop-key-init : goal.loop-key-init
loop-key-init c =
    let same = c.into_iter-key-iterator.ensures.into_iter_gives ∙ c.iter-key-items.ensures.rest in
    let order : in_byte_order (table_view c.args.table.now) ≡ entries_view c.into_iter-key-iterator.result = entries_in_order c.args.table.now.entries c.iter-key-items.ensures.ordered ∙ ap entries_view (sym same) in
    rw (order, c.new-outputs.ensures) (record { faults = refl; read = refl; sound = search rules })

pub loop-key-preserved : goal.loop-key-preserved
loop-key-preserved c =
    let at = c.args.at.now in
    let key = string_bytes c.in-Some.key.now in
    let d = view c.in-Some.value.now in
    let rest = entries_view c.next.new.self in
    let n = c.in_ok-amount.amount in
    let here = rest_more deref_pair c.loop-key.key-iterator c.next.new.self c.next.result (c.in-Some.key, c.in-Some.value) c.in-Some.is c.next.ensures.steps in
    let one : amount_at at (key, d) ≡ Ok n = rw (← c.as_str-key.ensures.value) c.in_ok-amount.ensures.value in
    let so_far = c.loop-key.invariant in
    rw (c.in_ok-push.ensures.ok, c.in_ok-item.ensures, c.as_str-key.ensures.value) (record {
      faults = later_amounts_have_same_fault at (key, d) rest n one _ (rw here at so_far.faults);
      read = amounts_with_one_more_are_all at (key, d) rest n one c.loop-key.outputs _ (rw here at so_far.read);
      sound = All-push IsOutput c.loop-key.outputs (record { item = key; amount = n }) so_far.sound (record { amount = c.in_ok-amount.ensures.most });
    })
