use Rattle.std.proofs.Common.{◌≡◌, ℕ, List, [], None, refl}
use Rattle.atl_tables.specs.Faults.{first_fault}
use Rattle.atl_tables.specs.Results.{IsFaultOrMemory}
use Rattle.atl_tables.specs.Keys.{path}
use Rattle.atl_tables.specs.OutputTable.{known_key_at}
use Rattle.atl_tables.specs.Titles.{name_is_known, item_number}
use Rattle.atl_tables.specs.declared.fault.WorldFault.{WorldFault}
use Rattle.atl_tables.specs.declared.output_table.Output.{Output}
use Rattle.atl_tables.specs.declared.world_draft.WorldDraft.{WorldDraft}
use Rattle.atl_tables.proofs.FaultLaws.{gives_error, error_of_condition_is_of_list}
use Rattle.atl_tables.proofs.EachLaws.{rest_has_same_fault_at_index, error_at_index_is_error_of_all}
use Rattle.atl_tables.proofs.output_table.keys_name_items.Goals as goal

unknown_key_is_fault : (e : WorldFault) (all : WorldDraft) (at : List ℕ) (i : ℕ) (o : Output)
    → IsFaultOrMemory e (name_is_known (path at o.item) (item_number all o.item))
    → IsFaultOrMemory e (first_fault (known_key_at all at i o))
unfolding known_key_at
unknown_key_is_fault e all at i o h =
    error_of_condition_is_of_list e (name_is_known (path at o.item) (item_number all o.item)) [] h

known_key_has_no_fault : (all : WorldDraft) (at : List ℕ) (i : ℕ) (o : Output)
    → name_is_known (path at o.item) (item_number all o.item) ≡ None → first_fault (known_key_at all at i o) ≡ None
unfolding known_key_at
known_key_has_no_fault all at i o h = rw h refl

pub returns-in_err-known_number : goal.returns-in_err-known_number
returns-in_err-known_number c =
    let o = c.index-outputs-i.result in
    let outputs = c.args.outputs.now in
    let at = c.args.at.now in
    let all = c.args.all.now in
    let e = c.in_err-known_number.field-0.0 in
    gives_error _ _ _ _ _ c.from_residual.ensures.1 (error_at_index_is_error_of_all (known_key_at all at) outputs c.loop-i.i o _ c.loop-i-test.true c.index-outputs-i.is c.loop-i.invariant e (unknown_key_is_fault e all at c.loop-i.i o (rw (c.as_slice.ensures, c.as_str.ensures, ← c.index-outputs-i.is) at c.in_err-known_number.ensures.value)))

pub loop-i-preserved : goal.loop-i-preserved
loop-i-preserved c =
    let o = c.index-outputs-i.result in
    let outputs = c.args.outputs.now in
    let at = c.args.at.now in
    let all = c.args.all.now in
    rest_has_same_fault_at_index (known_key_at all at) outputs c.loop-i.i o _ c.loop-i-test.true c.index-outputs-i.is c.loop-i.invariant (known_key_has_no_fault all at c.loop-i.i o (rw (c.as_slice.ensures, c.as_str.ensures, ← c.index-outputs-i.is) at c.in_ok-known_number.ensures.value.0))
