use Rattle.std.proofs.Common.{◌≡◌, ◌++◌, ◌∷◌, [], sym, subst, ap, ◌∙◌, rules}
use Rattle.std.specs.Ordering.{nat_cmp}
use Rattle.std.specs.FinMap.{FinMap, entries, empty, insert, same_entries_map}
use Rattle.std.proofs.lemmas.List.{append-nil, append_assoc}
use Rattle.atl_world.proofs.Maps.{entries-empty}
use Rattle.atl_world.proofs.MappedLaws.{insert_last}
use Rattle.atl_lists.specs.Lists.{AreUnitLists}
use Rattle.atl_records.specs.declared.records.Unit.{Unit}
use Rattle.atl_world.proofs.SortedMapLaws.{comes_new}
use Rattle.atl_campaign.proofs.assembly.units.lists_of.Goals as goal

pub loop-number-init : goal.loop-number-init
loop-number-init c =
    let all : c.into_iter-number-iterator.result ≡ entries c.args.units.now.values = search rules in
    (empty, ap (λ es. es ++ c.into_iter-number-iterator.result) (entries-empty {X = Unit}) ∙ all, c.new-lists.ensures)

pub loop-number-preserved : goal.loop-number-preserved
loop-number-preserved c =
    let done = c.loop-number.invariant.0 in
    let number = c.in-Some.number in
    let unit = c.in-Some.unit.now in
    let rest = c.next.new.self in
    let so_far : entries done ++ (number, unit) ∷ rest ≡ entries c.args.units.now.values = ap (λ es. entries done ++ es) (sym c.in-Some.ensures.steps) ∙ c.loop-number.invariant.1 in (
      insert done number unit,
      ap (λ es. es ++ rest) (insert_last done c.args.units.now.values number unit rest so_far) ∙ append_assoc (entries done) ((number, unit) ∷ []) rest ∙ so_far,
      c.in_ok-add.ensures.ok done unit (sym c.list_keys_of.ensures) (comes_new done c.args.units.now.values number unit rest so_far) c.loop-number.invariant.2,
    )

pub returns : goal.returns
returns c =
    let none : c.loop-number.number-iterator ≡ [] = search rules in
    let done = c.loop-number.invariant.0 in
    let whole : done ≡ c.args.units.now.values = same_entries_map done c.args.units.now.values (sym (append-nil (entries done)) ∙ ap (λ es. entries done ++ es) (sym none) ∙ c.loop-number.invariant.1) in
    subst (λ (units : FinMap nat_cmp Unit). AreUnitLists units c.loop-number.lists) whole c.loop-number.invariant.2
