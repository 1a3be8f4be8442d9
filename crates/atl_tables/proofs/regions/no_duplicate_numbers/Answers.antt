use Rattle.std.proofs.Common.{◌≡◌, true, false, take, codes, refl, sym, ap, ◌∙◌}
use Rattle.std.specs.FinMap.{get, get-empty}
use Rattle.std.specs.Option.{is_some}
use Rattle.std.specs.Ordering.{nat_cmp}
use Rattle.atl_tables.specs.declared.region_table.RegionDraft.{RegionDraft}
use Rattle.atl_tables.specs.declared.fault.WorldFault.TheVariants.{TwoNames}
use Rattle.atl_tables.specs.Keys.{path, element_path}
use Rattle.atl_tables.specs.Regions.{some_region_has_number, duplicate_number_at}
use Rattle.atl_tables.proofs.EachLaws.{rest_has_same_fault_at_index, error_at_index_is_error_of_all}
use Rattle.atl_tables.proofs.RegionLaws.{seen_more, duplicate_number_fault}
use Rattle.atl_tables.proofs.regions.no_duplicate_numbers.Goals as goal

pub loop-i-init : goal.loop-i-init
loop-i-init c = record { faults = refl; seen = λ n. rw (c.new-seen.ensures, get-empty nat_cmp n) refl }

pub returns-in-Some : goal.returns-in-Some
returns-in-Some c =
    let d = c.index-drafts-i.result in
    let ds = c.args.drafts.now in
    let test : some_region_has_number d.basics.number (take c.loop-i.i ds) ≡ true = sym (c.loop-i.invariant.seen d.basics.number) ∙ ap (λ (e : RegionDraft). is_some (get c.loop-i.seen e.basics.number)) c.index-drafts-i.is ∙ ap is_some (sym c.in-Some.ensures) in
    rw c.in_ok-path.ensures (error_at_index_is_error_of_all (duplicate_number_at ds) ds c.loop-i.i d _ c.loop-i-test.true c.index-drafts-i.is c.loop-i.invariant.faults (TwoNames (path (element_path (codes "region") c.loop-i.i) (codes "number"))) (duplicate_number_fault ds c.loop-i.i d true test))

pub loop-i-preserved : goal.loop-i-preserved
loop-i-preserved c =
    let d = c.index-drafts-i.result in
    let ds = c.args.drafts.now in
    let test : some_region_has_number d.basics.number (take c.loop-i.i ds) ≡ false = sym (c.loop-i.invariant.seen d.basics.number) ∙ ap (λ (e : RegionDraft). is_some (get c.loop-i.seen e.basics.number)) c.index-drafts-i.is ∙ ap is_some (sym c.in_default.ensures) in
    record {
      faults = rest_has_same_fault_at_index (duplicate_number_at ds) ds c.loop-i.i d _ c.loop-i-test.true c.index-drafts-i.is c.loop-i.invariant.faults (duplicate_number_fault ds c.loop-i.i d false test);
      seen = rw (c.in_ok-insert.ensures.ok, ← c.index-drafts-i.is) (seen_more c.loop-i.seen _ ds c.loop-i.i d c.loop-i-test.true c.index-drafts-i.is c.loop-i.invariant.seen);
    }
