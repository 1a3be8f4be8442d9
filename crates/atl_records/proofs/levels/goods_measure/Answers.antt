use Rattle.std.proofs.Common.{◌≡◌, ℕ, ◌*◌, ap, ◌∙◌, arith}
use Rattle.std.proofs.lemmas.List.Sums.{sum_by-cons}
use Rattle.std.specs.FinMap.{entries, entries_sorted}
use Rattle.atl_world.proofs.TrackLaws.{is_true}
use Rattle.atl_world.proofs.EntryOrderLaws.{begins_zero, sorted_rest}
use Rattle.atl_records.specs.Levels.{measure_of}
use Rattle.atl_records.proofs.LevelLaws.{total_stays, fits_next, weightless_pieces}
use Rattle.atl_records.proofs.levels.goods_measure.Goals as goal

pub loop-item-init : goal.loop-item-init
loop-item-init c =
    let all : c.into_iter-item-iterator.result ≡ entries c.args.holding.now.items = c.into_iter-item-iterator.ensures.into_iter_gives ∙ c.items-item-items.ensures in
    rw all record {
      rest = omega arith;
      sorted = is_true _ (entries_sorted c.args.holding.now.items);
      fits = (0, omega arith, omega arith, begins_zero (entries c.args.holding.now.items));
    }

pub loop-item-preserved : goal.loop-item-preserved
loop-item-preserved c =
    let e : ℕ × ℕ = (c.in-Some.item, c.in-Some.amount.now) in
    let before = rw c.in-Some.ensures.steps at c.loop-item.invariant.rest in
    let sorted = rw c.in-Some.ensures.steps at c.loop-item.invariant.sorted in
    let low = c.loop-item.invariant.fits in
    let from = rw c.in-Some.ensures.steps at low.3 in
    let is = c.times-sum.ensures.value ∙ ap (λ n. c.in-Some.amount.now * n) c.item_measure.ensures.value in
    record {
      rest = rw is (total_stays c.loop-item.sum _ _ _ _ (sum_by-cons (λ (x : ℕ × ℕ). x.1 * measure_of c.args.of c.args.world.now x.0) e c.next.new.self) before);
      sorted = sorted_rest e c.next.new.self sorted;
      fits = fits_next low.0 c.loop-item.sum c.times-sum.result e c.next.new.self sorted low.1 low.2 from c.times-sum.ensures.small (λ h. c.times-sum.ensures.value ∙ weightless_pieces c.in-Some.amount.now c.item_measure.result (c.item_measure.ensures.far h));
    }
