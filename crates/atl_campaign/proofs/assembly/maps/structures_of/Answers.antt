use Rattle.std.proofs.Common.{◌+◌, drop, List, sym, ap, ◌∙◌, ◌≡◌, to_z, of_z, w64, rules}
use Rattle.std.proofs.lemmas.Int.{to_z-of_z}
use Rattle.std.specs.Ordering.{nat_cmp}
use Rattle.std.specs.FinMap.{FinMap, insert}
use Rattle.atl_rows.specs.declared.parts.StoredStructure.{StoredStructure}
use Rattle.atl_records.specs.declared.records.Structure.{Structure}
use Rattle.atl_campaign.specs.FromRows.{as_u32, structure_of, put_rows}
use Rattle.atl_world.proofs.KeyLaws.{next_of}
use Rattle.atl_campaign.proofs.assembly.maps.structures_of.Goals as goal

pub loop-row-preserved : goal.loop-row-preserved
loop-row-preserved c =
    let row = c.row-item.result in
    let same : to_z w64 (of_z w64 row.number) ≡ row.number = search (rules, to_z-of_z) in
    let rest = drop (c.loop-row.row-index + 1) c.args.rows.now in
    let put = λ (rows : List StoredStructure) (m : FinMap nat_cmp Structure). put_rows (λ r. as_u32 r.number) structure_of rows m in
    ap (put rest) (c.in_ok-insert.ensures.ok ∙ ap (λ k. insert c.loop-row.structures k c.in_ok-structure.structure) (c.as_u32.ensures ∙ ap as_u32 same) ∙ ap (insert c.loop-row.structures (as_u32 row.number)) c.in_ok-structure.ensures)
    ∙ ap (λ rows. put rows c.loop-row.structures) (sym (next_of c.args.rows.now c.loop-row.row-index row c.loop-row-test.true c.row-item.is))
    ∙ c.loop-row.invariant
