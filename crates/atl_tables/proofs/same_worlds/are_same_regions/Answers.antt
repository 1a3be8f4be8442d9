use Rattle.std.proofs.Common.{sym, ap, ◌∙◌}
use Rattle.atl_tables.proofs.SameLaws.{entries_without_markets, same_maps, same_entries, same_rest, same_with_first_entry}
use Rattle.atl_tables.proofs.same_worlds.are_same_regions.Goals as goal

pub loop-number-init : goal.loop-number-init
loop-number-init c =
    let plans = c.args.plans.now in
    let others = c.args.others.now in
    let mine = ap entries_without_markets (c.into_iter-number-iterator.ensures.into_iter_gives ∙ c.iter-number-items.ensures) in
    let theirs = ap entries_without_markets c.iter-rest.ensures in
    record {
      whole = λ same. same_maps plans others (sym mine ∙ same ∙ theirs);
      part = λ same. mine ∙ same_entries plans others same ∙ sym theirs;
    }

pub loop-number-preserved : goal.loop-number-preserved
loop-number-preserved c =
    let k = c.in-Some.number in
    let n = c.in-Some-next.other_number in
    let p = c.in-Some.plan.now in
    let q = c.in-Some-next.other.now in
    let es = c.next.new.self in
    let fs = c.next-in-loop-number.new.self in
    let mine = ap entries_without_markets c.in-Some.ensures.steps in
    let theirs = ap entries_without_markets c.in-Some-next.ensures.steps in
    let plan = c.is_same_region.ensures.0 c.if-not-is_same_region.false in
    record {
      whole = λ same. c.loop-number.invariant.whole (mine ∙ same_with_first_entry k n p q es fs c.if-number-other_number.false plan same ∙ sym theirs);
      part = λ same. same_rest k n p q es fs (sym mine ∙ c.loop-number.invariant.part same ∙ theirs);
    }
