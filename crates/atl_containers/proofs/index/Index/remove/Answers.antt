use Rattle.std.proofs.Common.{List, Some, get_or, sym, ap, ◌∙◌}
use Rattle.std.specs.FinMap.{get, remove}
use Rattle.atl_world.specs.SortedNumbers.{IsAt, BelongsAt}
use Rattle.atl_containers.specs.Index.{index_numbers}
use Rattle.atl_containers.specs.declared.index.IndexEntry.{IndexEntry}
use Rattle.atl_containers.proofs.IndexLaws.{as_map, get-at_index, get-belongs, map-without, map-missing, sorted-without}
use Rattle.atl_containers.proofs.index.Index.remove.Goals as goal

pub invariant_of-self : goal.invariant_of-self
invariant_of-self c =
    let entries = c.self.inside.entries in
    let is_at : IsAt (index_numbers entries) c.args.number c.in-Ok.position = rw c.as_slice-entries.ensures at c.in-Ok.ensures.found in
    rw c.remove.ensures (sorted-without entries c.args.number c.in-Ok.position c.self.invariant is_at)

-- an index entry with number 0 and slot 0, the default of a look-up by an index that is never past the end
abbrev default_entry : IndexEntry
default_entry = record { number = 0; slot = 0 }

pub returns-in-Ok : goal.returns-in-Ok
returns-in-Ok c =
    let entries = c.self.inside.entries in
    let n = c.args.number in
    let is_at : IsAt (index_numbers entries) n c.in-Ok.position = rw c.as_slice-entries.ensures at c.in-Ok.ensures.found in
    record {
      slot = ap (λ (ps : List IndexEntry). Some (get_or ps c.in-Ok.position default_entry).slot) c.as_slice-entries.ensures ∙ sym (get-at_index entries n c.in-Ok.position default_entry c.self.invariant is_at) ∙ ap (λ m. get m n) c.self.view_is;
      taken = ap as_map c.remove.ensures ∙ map-without entries n c.in-Ok.position c.self.invariant is_at ∙ ap (λ m. remove m n) c.self.view_is;
    }

pub returns-in-Err : goal.returns-in-Err
returns-in-Err c =
    let entries = c.self.inside.entries in
    let n = c.args.number in
    let belongs : BelongsAt (index_numbers entries) n c.in-Err.field-0 = rw c.as_slice-entries.ensures at c.in-Err.ensures.missing in
    record {
      slot = sym (get-belongs entries n c.in-Err.field-0 c.self.invariant belongs) ∙ ap (λ m. get m n) c.self.view_is;
      taken = sym c.self.view_is ∙ map-missing entries n c.in-Err.field-0 c.self.invariant belongs ∙ ap (λ m. remove m n) c.self.view_is;
    }
