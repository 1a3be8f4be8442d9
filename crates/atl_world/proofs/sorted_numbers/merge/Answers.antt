use Rattle.std.proofs.Common.{◌≡◌, ◌+◌, ◌-◌, ◌<◌, ◌≤◌, length, get_or, take, refl, sym, ap, subst, ◌∙◌, arith}
use Rattle.std.proofs.lemmas.List.{length-take-le, get_or-take, take-take, take-set-le}
use Rattle.atl_world.proofs.MergeLaws.{Under, under_last, own_put, other_put, all_put, not_above}
use Rattle.atl_world.proofs.ApartLaws.{less_apart}
use Rattle.atl_world.proofs.sorted_numbers.merge.Goals as goal

-- after the largest number left of the first list is put in place, the numbers left of both lists, merged, and those in
-- place are still both whole lists merged
pub loop-left-preserved-then-is_last_above : goal.loop-left-preserved-then-is_last_above
loop-left-preserved-then-is_last_above c =
    let was = c.args.numbers.now in
    let others = c.args.others.now in
    let now = c.loop-left.numbers in
    let own = c.loop-left.own in
    let left = c.loop-left.left in
    let n = get_or now (own - 1) 0 in
    let above = c.if-is_last_above.ensures.0 refl in
    let some : 0 < own = above.0 in
    let long : length now ≡ c.args.own + length others = c.loop-left.auto.numbers ∙ c.requires.size in
    let is : n ≡ get_or was (own - 1) 0 =
    sym (get_or-take own now (own - 1) 0 (omega arith)) ∙ ap (λ xs. get_or xs (own - 1) 0) c.loop-left.invariant.kept ∙ get_or-take own was (own - 1) 0 (omega arith) in
    let under = under_last others left n c.requires.others c.loop-left.invariant.left (λ _. above.1) in
    record {
      own = omega arith;
      left = c.loop-left.invariant.left;
      kept =
          take-set-le (own - 1) now (own + left - 1) n (omega arith) ∙ sym (take-take (own - 1) own now (omega arith))
          ∙ ap (take (own - 1)) c.loop-left.invariant.kept ∙ take-take (own - 1) own was (omega arith);
      merged =
          own_put was others now own (own - 1) left (own + left - 1) n (omega arith) (omega arith) (omega (arith, long))
          (omega (arith, c.requires.size)) is under
          ∙ c.loop-left.invariant.merged;
    }

pub loop-left-preserved : goal.loop-left-preserved
loop-left-preserved c =
    let was = c.args.numbers.now in
    let others = c.args.others.now in
    let now = c.loop-left.numbers in
    let own = c.loop-left.own in
    let left = c.loop-left.left in
    let n = get_or others (left - 1) 0 in
    let first = take c.args.own was in
    let size : length first ≡ c.args.own = length-take-le c.args.own was (omega (arith, c.requires.size)) in
    let long : length now ≡ c.args.own + length others = c.loop-left.auto.numbers ∙ c.requires.size in
    let below : 0 < own → get_or first (own - 1) 0 < n = λ some.
    let is : get_or first (own - 1) 0 ≡ get_or now (own - 1) 0 =
    get_or-take c.args.own was (own - 1) 0 (omega (arith, some))
    ∙ sym (get_or-take own was (own - 1) 0 (omega (arith, some)))
    ∙ ap (λ xs. get_or xs (own - 1) 0) (sym c.loop-left.invariant.kept) ∙ get_or-take own now (own - 1) 0 (omega (arith, some)) in
    let most : get_or now (own - 1) 0 ≤ n = not_above (0 < own) (get_or now (own - 1) 0) n c.if-is_last_above.ensures.1 some in
    less_apart first others (own - 1) (left - 1) c.requires.apart (omega (arith, some, size)) (omega arith) (omega (arith, is, most)) in
    let under : Under (take own was) n = subst (λ xs. Under xs n) (take-take own c.args.own was c.loop-left.invariant.own) (under_last first own n c.requires.ascending (omega (arith, size)) below) in
    record {
      own = c.loop-left.invariant.own;
      left = omega arith;
      kept = take-set-le own now (own + left - 1) n (omega arith) ∙ c.loop-left.invariant.kept;
      merged =
          other_put was others now own left (left - 1) (own + left - 1) n (omega arith) (omega arith)
          (omega (arith, long)) (omega arith) refl under
          ∙ c.loop-left.invariant.merged;
    }

pub returns : goal.returns
returns c =
    all_put c.args.numbers.now c.args.others.now c.loop-left.numbers _ c.loop-left.own c.loop-left.left (omega arith)
    c.loop-left.invariant.kept c.loop-left.invariant.merged
