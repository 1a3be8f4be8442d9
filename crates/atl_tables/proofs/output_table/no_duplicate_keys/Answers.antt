use Rattle.std.proofs.Common.{◌≡◌, ℕ, Bool, true, false, cond, List, take, Some, None}
use Rattle.std.specs.List.{list_any}
use Rattle.atl_tables.specs.Each.{conditions_on_each}
use Rattle.atl_tables.specs.Faults.{first_fault}
use Rattle.atl_tables.specs.Keys.{path}
use Rattle.atl_tables.specs.OutputTable.{duplicate_key_at}
use Rattle.atl_world.specs.Names.{same_name}
use Rattle.atl_tables.specs.declared.fault.WorldFault.TheVariants.{TwoNames}
use Rattle.atl_tables.specs.declared.output_table.Output.{Output}
use Rattle.atl_tables.proofs.EachLaws.{rest_has_same_fault_at_index, error_at_index_is_error_of_all}
use Rattle.atl_tables.proofs.SeenLaws.{came_before, comes_first, has_one_more}
use Rattle.atl_tables.proofs.output_table.no_duplicate_keys.Goals as goal

duplicate_key_fault : (at : List ℕ) (all : List Output) (i : ℕ) (o : Output) (b : Bool)
    → list_any (λ p. same_name p.item o.item) (take i all) ≡ b
    → first_fault (duplicate_key_at at all i o) ≡ cond b (Some (TwoNames (path at o.item))) None
unfolding duplicate_key_at
duplicate_key_fault at all i o true h = rw h
duplicate_key_fault at all i o false h = rw h

pub returns-then-not-branch : goal.returns-then-not-branch
returns-then-not-branch c =
    let o = c.output-item.result in
    let all = c.args.outputs.now in
    let at = c.args.at.now in
    let i = c.loop-output.output-index in
    let test = came_before (λ p. p.item) all i o c.loop-output.seen c.loop-output.invariant.seen _ c.in_ok-add_name.ensures.new c.if-not-branch.true in
    rw (c.in_ok-path.ensures, c.as_str.ensures) (error_at_index_is_error_of_all (duplicate_key_at at all) all i o (first_fault (conditions_on_each (duplicate_key_at at all) 0 all)) c.loop-output-test.true c.output-item.is c.loop-output.invariant.faults (TwoNames (path at o.item)) (duplicate_key_fault at all i o true test))

pub loop-output-preserved : goal.loop-output-preserved
loop-output-preserved c =
    let o = c.output-item.result in
    let all = c.args.outputs.now in
    let at = c.args.at.now in
    let i = c.loop-output.output-index in
    let test = comes_first (λ p. p.item) all i o c.loop-output.seen c.loop-output.invariant.seen _ c.in_ok-add_name.ensures.new c.if-not-branch.false in
    record {
      seen = has_one_more (λ p. p.item) all i o c.loop-output.seen c.loop-output.invariant.seen c.add_name.new.seen c.loop-output-test.true c.output-item.is c.in_ok-add_name.ensures.seen;
      faults = rest_has_same_fault_at_index (duplicate_key_at at all) all i o (first_fault (conditions_on_each (duplicate_key_at at all) 0 all)) c.loop-output-test.true c.output-item.is c.loop-output.invariant.faults (duplicate_key_fault at all i o false test);
    }
