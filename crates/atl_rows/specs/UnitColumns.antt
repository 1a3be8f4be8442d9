-- The columns of the table `unit`, and the fields of its rows. See docs/FORMATS.md, "Tables".
use Rattle.std.specs.Prelude.{List, [], ◌∷◌}
use Rattle.atl_records.specs.Limits.{holding_limit, last_unit, men_limit}
use Rattle.atl_rows.specs.declared.parts.StoredUnit.{StoredUnit}
use Rattle.atl_rows.specs.RowColumns.{Content, Whole, Reference, Flag, Text, Fields}

-- what the columns of `unit` hold: number, faction, name, region, structure, men, money, guard flag
abbrev pub unit_columns : List Content
unit_columns =
    Whole 1 last_unit ∷ Reference ∷ Text ∷ Reference ∷ Reference
    ∷ Whole 1 men_limit ∷ Whole 0 holding_limit ∷ Flag ∷ []

-- the fields of a row of `unit`, in the order of the columns
abbrev pub unit_fields : StoredUnit → Fields unit_columns
unit_fields r = (r.number, (r.faction, (r.name, (r.region, (r.structure, (r.men, (r.money, (r.guard, tt))))))))

-- the row of `unit` that has these fields
abbrev pub unit_of_fields : Fields unit_columns → StoredUnit
unit_of_fields (number, (faction, (name, (region, (structure, (men, (money, (guard, end)))))))) = record {
  number = number;
  faction = faction;
  name = name;
  region = region;
  structure = structure;
  men = men;
  money = money;
  guard = guard;
}
