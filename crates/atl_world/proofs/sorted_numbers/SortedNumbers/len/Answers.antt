use Rattle.std.proofs.Common.{◌≡◌, ◌-◌, length, get_or, sym, ap, ◌∙◌, arith}
use Rattle.std.specs.FinSet as set
use Rattle.std.specs.Ordering.{nat_cmp}
use Rattle.std.specs.Cmp.{nat_cmp_total}
use Rattle.std.proofs.lemmas.Map.Keys.{non_decreasing_from_sorted}
use Rattle.atl_world.specs.Limits.{number_count}
use Rattle.atl_world.specs.RoomySets.{RoomySet}
use Rattle.atl_world.proofs.SortedListLaws.{len-sorted}
use Rattle.atl_world.proofs.MergeLaws.{listed_below}
use Rattle.atl_world.proofs.sorted_numbers.SortedNumbers.len.Goals as goal

pub returns-in-Some-clause-value : goal.returns-in-Some-clause-value
returns-in-Some-clause-value c =
    c.length_of_bounded.ensures.value ∙ ap length c.deref-in-Some.ensures.value
    ∙ sym (len-sorted c.self.inside.numbers.items c.self.invariant)
    ∙ ap (λ (m : RoomySet). set.len m.numbers) c.self.view_is

pub returns-in-None-clause-value : goal.returns-in-None-clause-value
returns-in-None-clause-value c =
    let items = c.self.inside.numbers.items in
    let all : set.len {R = nat_cmp} (set.from_list items) ≡ length items = len-sorted items c.self.invariant in
    let seen = ap (λ (m : RoomySet). set.len m.numbers) c.self.view_is in
    let size = ap length c.deref.ensures.value in
    omega (arith, all, seen, size, c.in-None.ensures.item.3)

pub returns-in-Some-clause-low : goal.returns-in-Some-clause-low
returns-in-Some-clause-low c n there =
    let items = c.self.inside.numbers.items in
    let last : get_or items (length items - 1) 0 ≡ c.in-Some.last.now = ap (λ xs. get_or xs (length xs - 1) 0) (sym c.deref.ensures.value) ∙ sym (c.in-Some.ensures.item.3.1 0) in
    listed_below items number_count n
    (λ k l. let rises = non_decreasing_from_sorted items c.self.invariant k (length items - 1) 0 (omega (arith, l)) (omega (arith, l)) in omega (arith, rises, last, c.length_of_bounded.ensures.small))
    (sym (set.contains-from_list nat_cmp_total items n) ∙ ap (λ (m : RoomySet). set.contains m.numbers n) c.self.view_is ∙ there)

pub returns-in-None-clause-low : goal.returns-in-None-clause-low
returns-in-None-clause-low c n there =
    let items = c.self.inside.numbers.items in
    let size = ap length c.deref.ensures.value in
    listed_below items number_count n (λ k l. absurd (omega (arith, l, size, c.in-None.ensures.item.3)))
    (sym (set.contains-from_list nat_cmp_total items n) ∙ ap (λ (m : RoomySet). set.contains m.numbers n) c.self.view_is ∙ there)
