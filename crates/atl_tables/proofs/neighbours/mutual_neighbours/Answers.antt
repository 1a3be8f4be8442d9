use Rattle.std.proofs.Common.{◌≡◌, ◌+◌, ◌++◌, ◌∷◌, [], take, sym, ap, ◌∙◌, subst, arith}
use Rattle.std.specs.List.{All}
use Rattle.std.proofs.lemmas.List.{take_more, take_all}
use Rattle.std.proofs.lemmas.List.Elements.{All-push}
use Rattle.atl_tables.specs.Neighbours.{neighbours_at}
use Rattle.atl_world.specs.Worlds.{HasMutualNeighbours}
use Rattle.atl_tables.specs.declared.region_table.RegionDraft.{RegionDraft}
use Rattle.atl_tables.proofs.FaultLaws.{gives_error}
use Rattle.atl_tables.proofs.EachLaws.{rest_has_same_fault_at_index, error_at_index_is_error_of_all}
use Rattle.atl_tables.proofs.neighbours.mutual_neighbours.Goals as goal

pub returns-in_err-neighbours_of-clause-value : goal.returns-in_err-neighbours_of-clause-value
returns-in_err-neighbours_of-clause-value c =
    gives_error _ _ _ _ _ c.from_residual.ensures.1 (error_at_index_is_error_of_all (neighbours_at c.args.regions.now) c.args.drafts.now c.loop-i.i c.index-drafts-i.result _ c.loop-i-test.true c.index-drafts-i.is c.loop-i.invariant.faults c.in_err-neighbours_of.field-0.0 c.in_err-neighbours_of.ensures.value)

pub loop-i-preserved : goal.loop-i-preserved
loop-i-preserved c =
    let regions = c.args.regions.now in
    let drafts = c.args.drafts.now in
    let i = c.loop-i.i in
    let draft = c.index-drafts-i.result in
    let back : RegionDraft → Type 0 = λ d. HasMutualNeighbours regions d.basics.number d.sides.north d.sides.south d.sides.east d.sides.west in
    let more : take (i + 1) drafts ≡ take i drafts ++ draft ∷ [] = take_more drafts i draft c.loop-i-test.true ∙ ap (λ (d : RegionDraft). take i drafts ++ d ∷ []) (sym c.index-drafts-i.is) in
    record {
      faults = rest_has_same_fault_at_index (neighbours_at regions) drafts i draft _ c.loop-i-test.true c.index-drafts-i.is c.loop-i.invariant.faults c.in_ok-neighbours_of.ensures.value.0;
      back = subst (All back) (sym more) (All-push back (take i drafts) draft c.loop-i.invariant.back c.in_ok-neighbours_of.ensures.back);
    }

pub returns-clause-back : goal.returns-clause-back
returns-clause-back c = rw (take_all c.loop-i.i c.args.drafts.now (omega (arith))) at c.loop-i.invariant.back
