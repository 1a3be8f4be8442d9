use Rattle.std.proofs.Common.{◌≡◌, None, sym, ap, ◌∙◌}
use Rattle.std.specs.FinMap.{get, insert}
use Rattle.atl_world.specs.SortedNumbers.{IsAt, BelongsAt}
use Rattle.atl_containers.specs.Index.{index_numbers}
use Rattle.atl_containers.proofs.IndexLaws.{as_map, get-at_index, map-added, sorted-added, some_none}
use Rattle.atl_containers.proofs.index.Index.insert.Goals as goal

-- insert never finds an entry of the number, as the number is not in the index yet
pub unreachable-requires : goal.unreachable-requires
unreachable-requires c =
    let entries = c.self.inside.entries in
    let n = c.args.number in
    let is_at : IsAt (index_numbers entries) n c.in-Ok.field-0 = rw c.as_slice.ensures at c.in-Ok.ensures.found in
    let none : get (as_map entries) n ≡ None = ap (λ m. get m n) c.self.view_is ∙ c.requires in
    some_none _ (sym (get-at_index entries n c.in-Ok.field-0 (record { number = 0; slot = 0 }) c.self.invariant is_at) ∙ none)

pub invariant_of-self : goal.invariant_of-self
invariant_of-self c =
    let entries = c.self.inside.entries in
    let belongs : BelongsAt (index_numbers entries) c.args.number c.in-Err.position = rw c.as_slice.ensures at c.in-Err.ensures.missing in
    rw c.in_ok-insert-in-Err.ensures.ok (sorted-added entries c.args.number c.in-Err.position c.args.slot c.self.invariant belongs)

pub returns-clause-ok : goal.returns-clause-ok
returns-clause-ok c =
    let entries = c.self.inside.entries in
    let belongs : BelongsAt (index_numbers entries) c.args.number c.in-Err.position = rw c.as_slice.ensures at c.in-Err.ensures.missing in
    ap as_map c.in_ok-insert-in-Err.ensures.ok
    ∙ map-added entries c.args.number c.in-Err.position c.args.slot c.self.invariant belongs
    ∙ ap (λ m. insert m c.args.number c.args.slot) c.self.view_is
