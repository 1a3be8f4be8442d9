use Rattle.std.proofs.Common.{◌≡◌, length, true}
use Rattle.std.specs.List.{list_all}
use Rattle.std.specs.Vec.Iter.{into_iter_items, into_iter_len}
use Rattle.atl_world.specs.Names.{name_ok}
use Rattle.atl_campaign.specs.Assembling.{bare_unit}
use Rattle.atl_campaign.specs.FromRows.{as_u32, by_number, put_rows}
use Rattle.atl_campaign.specs.RowRules.{unit_in_range}
use Rattle.atl_campaign.proofs.assembly.units.bare_units.Given as goal

abbrev pub invariant-loop-row : goal.invariant-loop-row
invariant-loop-row l = record {
  put : put_rows (λ r. as_u32 r.number) bare_unit (into_iter_items l.row-iterator) l.units
      ≡ by_number (λ r. as_u32 r.number) bare_unit l.fn.rows;
  count : into_iter_len l.row-iterator ≡ length (into_iter_items l.row-iterator);
  named : list_all (λ r. name_ok r.name) (into_iter_items l.row-iterator) ≡ true;
  range : list_all unit_in_range (into_iter_items l.row-iterator) ≡ true;
}
