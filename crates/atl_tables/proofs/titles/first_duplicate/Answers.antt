use Rattle.std.proofs.Common.{◌≡◌, ℕ, Bool, true, false, cond, List, take, Some, None}
use Rattle.std.specs.List.{list_any}
use Rattle.atl_tables.specs.declared.fault.WorldFault.TheVariants.{TwoNames}
use Rattle.atl_tables.specs.Faults.{first_fault}
use Rattle.atl_tables.specs.Keys.{path, element_path}
use Rattle.atl_tables.specs.Titles.{no_duplicate_before, no_duplicates}
use Rattle.atl_world.specs.Names.{same_name}
use Rattle.atl_tables.proofs.EachLaws.{rest_has_same_fault_at_index, error_at_index_is_error_of_all}
use Rattle.atl_tables.proofs.SeenLaws.{came_before, comes_first, has_one_more}
use Rattle.atl_tables.proofs.titles.first_duplicate.Goals as goal

duplicate_name_fault : {A : Type 0} (title : A → List ℕ) (array key : List ℕ) (all : List A) (i : ℕ) (x : A) (b : Bool)
    → list_any (λ y. same_name (title y) (title x)) (take i all) ≡ b
    → first_fault (no_duplicate_before title array key all i x) ≡ cond b (Some (TwoNames (path (element_path array i) key))) None
unfolding no_duplicate_before
duplicate_name_fault title array key all i x true h = rw h
duplicate_name_fault title array key all i x false h = rw h

pub returns-then-not-branch : goal.returns-then-not-branch
returns-then-not-branch g c array key =
    let x = c.index-items-i.result in
    let title = g.T.Titled.title_of in
    let all = c.args.items.now in
    let i = c.loop-i.i in
    let test = came_before title all i x c.loop-i.seen c.loop-i.invariant.seen _ (rw c.title.ensures at c.in_ok-add_name.ensures.new) c.if-not-branch.true in
    error_at_index_is_error_of_all (no_duplicate_before title array key all) all i x (first_fault (no_duplicates title array key all)) c.loop-i-test.true c.index-items-i.is (c.loop-i.invariant.faults array key) (TwoNames (path (element_path array i) key)) (duplicate_name_fault title array key all i x true test)

pub loop-i-preserved : goal.loop-i-preserved
loop-i-preserved g c =
    let x = c.index-items-i.result in
    let title = g.T.Titled.title_of in
    let all = c.args.items.now in
    let i = c.loop-i.i in
    let test = comes_first title all i x c.loop-i.seen c.loop-i.invariant.seen _ (rw c.title.ensures at c.in_ok-add_name.ensures.new) c.if-not-branch.false in
    record {
      seen = has_one_more title all i x c.loop-i.seen c.loop-i.invariant.seen c.add_name.new.seen c.loop-i-test.true c.index-items-i.is (rw c.title.ensures at c.in_ok-add_name.ensures.seen);
      faults = λ array key. rest_has_same_fault_at_index (no_duplicate_before title array key all) all i x (first_fault (no_duplicates title array key all)) c.loop-i-test.true c.index-items-i.is (c.loop-i.invariant.faults array key) (duplicate_name_fault title array key all i x false test);
    }
