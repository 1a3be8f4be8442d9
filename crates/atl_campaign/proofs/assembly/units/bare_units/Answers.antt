use Rattle.std.proofs.Common.{◌≡◌, ◌∷◌, true, sym, ap, ◌∙◌, rules}
use Rattle.std.specs.List.{list_all}
use Rattle.std.specs.Vec.Iter.{into_iter_items}
use Rattle.std.proofs.lemmas.Bool.{and_parts}
use Rattle.atl_rows.specs.declared.parts.StoredUnit.{StoredUnit}
use Rattle.atl_world.specs.Names.{name_ok}
use Rattle.atl_campaign.specs.RowRules.{unit_in_range}
use Rattle.atl_campaign.proofs.assembly.units.bare_units.Goals as goal

pub loop-row-preserved : goal.loop-row-preserved
loop-row-preserved c =
    let row = c.in-Some.row in
    let rest = into_iter_items c.next.new.self in
    let named : list_all (λ (r : StoredUnit). name_ok r.name) (row ∷ rest) ≡ true =
    ap (list_all (λ (r : StoredUnit). name_ok r.name)) (sym c.in-Some.ensures.steps.0) ∙ c.loop-row.invariant.named in
    let range : list_all unit_in_range (row ∷ rest) ≡ true =
    ap (list_all unit_in_range) (sym c.in-Some.ensures.steps.0) ∙ c.loop-row.invariant.range in
    record {
      put = search rules;
      count = search rules;
      named = (and_parts (name_ok row.name) (list_all (λ (r : StoredUnit). name_ok r.name) rest) named).1;
      range = (and_parts (unit_in_range row) (list_all unit_in_range rest) range).1;
    }
