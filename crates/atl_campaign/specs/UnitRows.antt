-- The row of a unit in the table `unit`: how it is written and read, and its ranges. See docs/FORMATS.md, "Tables" and
-- "Rules of the tables". The items and days of study of a unit aren't in it: they are rows of the table `has`.
use Rattle.std.specs.Prelude.{ℕ, Bool}
use Rattle.std.specs.Ordering.{nat_cmp}
use Rattle.std.specs.FinMap.{FinMap}
use Rattle.atl_rows.specs.declared.parts.StoredUnit.{StoredUnit}
use Rattle.atl_records.specs.declared.records.Unit.{Unit}
use Rattle.atl_rows.specs.RowColumns.{Values, written_row, read_row, row_in_range}
use Rattle.atl_rows.specs.UnitColumns.{unit_columns, unit_fields, unit_of_fields}

-- what unit n has of each column
abbrev pub unit_values : ℕ → Unit → Values unit_columns
unit_values n u =
    (n, (u.faction, (u.holding.name, (u.region, (u.structure, (u.holding.men, (u.holding.money, (u.holding.guard, tt))))))))

-- the unit that has these values, but for its number, with the given items and days of study
abbrev pub unit_of_values : Values unit_columns → FinMap nat_cmp ℕ → FinMap nat_cmp ℕ → Unit
unit_of_values (number, (faction, (name, (region, (structure, (men, (money, (guard, end)))))))) items days = record {
  faction = faction;
  region = region;
  structure = structure;
  holding = record { name = name; men = men; money = money; guard = guard; items = items; days = days };
}

-- the row of `unit` for unit n: all that it has but its items and days of study
abbrev pub unit_row : ℕ → Unit → StoredUnit
unit_row n u = unit_of_fields (written_row unit_columns (unit_values n u))

-- the unit that a row of `unit` says, with the given items and days of study
abbrev pub unit_with_goods : StoredUnit → FinMap nat_cmp ℕ → FinMap nat_cmp ℕ → Unit
unit_with_goods r items days = unit_of_values (read_row unit_columns (unit_fields r)) items days

-- whether a unit row's number is 1 to 999,999,999, its men 1 to 999,999, its money 0 to 999,999,999, and its guard flag
-- 0 or 1
abbrev pub unit_in_range : StoredUnit → Bool
unit_in_range r = row_in_range unit_columns (unit_fields r)
