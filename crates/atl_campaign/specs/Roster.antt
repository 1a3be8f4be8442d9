-- A roster is the units of a campaign with marks on units, rows, all goods of a unit, and single items and skills.
-- Goods are items and days of study. An item listed with 0 counts as another amount than any new one (`has_amount`).
use Rattle.std.specs.Prelude.{ℕ, refl, Option, Some, None, if◌then◌else◌}
use Rattle.std.specs.Ordering.{nat_cmp}
use Rattle.std.specs.Coded.{Coded, code_by, coded×, coded_ℕ}
use Rattle.std.specs.FinMap as map
use Rattle.std.specs.FinSet as set
use Rattle.atl_world.specs.Sums.{with_changed_value}
use Rattle.atl_world.specs.Tracking.{marked_with}
use Rattle.atl_records.specs.declared.records.Unit.{Unit}
use Rattle.atl_records.specs.contracts.records.Unit as unit
use Rattle.atl_records.specs.Holdings.{has_amount}
use Rattle.atl_campaign.specs.Marks.{MarkedThings, things_code, thing_marked}

-- The units by number, with marks on units (`marks`), their rows, all goods of a unit, and single items and skills.
-- A unit is in `marks` if its row, its goods, an item or a skill of it is marked; `items` and `skills` are by unit.
pub record Roster : Type 0 where
  pub values : map.FinMap nat_cmp Unit
  pub marks : set.FinSet nat_cmp
  pub rows : set.FinSet nat_cmp
  pub goods : set.FinSet nat_cmp
  pub items : MarkedThings
  pub skills : MarkedThings

-- for proofs alone: units with marks (Roster) encoded as nested pairs, as the kit asks of a type that contracts see
abbrev pub roster_code : Coded Roster
roster_code =
    let numbers = set.code coded_ℕ in
    code_by (map.FinMap nat_cmp Unit
    × (set.FinSet nat_cmp × (set.FinSet nat_cmp × (set.FinSet nat_cmp × (MarkedThings × MarkedThings)))))
    (coded× (map.code coded_ℕ unit.the_row.coded)
    (coded× numbers (coded× numbers (coded× numbers (coded× things_code things_code)))))
    (λ r. (r.values, (r.marks, (r.rows, (r.goods, (r.items, r.skills))))))
    (λ p. record { values = p.0; marks = p.1.0; rows = p.1.1.0; goods = p.1.1.1.0; items = p.1.1.1.1.0; skills = p.1.1.1.1.1 })
    (λ _. refl)

-- the roster of the given units, with nothing marked
abbrev pub unmarked_units : map.FinMap nat_cmp Unit → Roster
unmarked_units values = record {
  values = values;
  marks = set.empty;
  rows = set.empty;
  goods = set.empty;
  items = map.empty;
  skills = map.empty;
}

-- the roster of no units, with nothing marked
abbrev pub no_units : Roster
no_units = unmarked_units map.empty

-- the roster with unit n, its row and all its goods marked
abbrev pub with_unit_marked : Roster → ℕ → Roster
with_unit_marked r n = record r { marks = set.insert r.marks n; rows = set.insert r.rows n; goods = set.insert r.goods n }

-- the roster with unit u put under n, and it, its row and all its goods marked
abbrev pub with_unit_at : Roster → ℕ → Unit → Roster
with_unit_at r n u = record (with_unit_marked r n) { values = map.insert r.values n u }

-- the roster with unit n, if there is one, changed by the function f, and with a mark on the unit and on its row; its
-- goods get no mark
abbrev pub with_unit_row : (Unit → Unit) → Roster → ℕ → Roster
with_unit_row f r n = record r {
  values = with_changed_value f r.values n;
  marks = marked_with r.marks n (map.get r.values n);
  rows = marked_with r.rows n (map.get r.values n);
}

-- the given unit, if it has another amount of an item than `amount`; else None
abbrev pub unit_if_other_amount : (item amount : ℕ) → Option Unit → Option Unit
unit_if_other_amount item amount None = None
unit_if_other_amount item amount (Some u) = if has_amount u.holding.items item amount then None else Some u

-- the unit of which a change of an item marks that item: unit n, if there is one and it has another amount of it than
-- the new one, `amount`; else None
abbrev pub unit_to_supply : map.FinMap nat_cmp Unit → (unit item : ℕ) → ℕ → Option Unit
unit_to_supply values n item amount = unit_if_other_amount item amount (map.get values n)

-- The roster with unit n and one of its items marked, if the unit is there and has another amount of it than `amount`.
-- The units stay as they are.
abbrev pub item_marked_at : Roster → (unit item : ℕ) → ℕ → Roster
item_marked_at r n item amount =
    let unit = unit_to_supply r.values n item amount in
    record r { marks = marked_with r.marks n unit; items = thing_marked r.items n item unit }

-- The roster with unit n, if there is one, changed by the function f. If the unit had another amount of an item than
-- `amount`, it and that item get a mark. Its row gets none.
abbrev pub with_item_at : (Unit → Unit) → Roster → (unit item : ℕ) → ℕ → Roster
with_item_at f r n item amount = record (item_marked_at r n item amount) { values = with_changed_value f r.values n }

-- The roster with unit n, if there is one, changed by the function f, and with a mark on it and on one of its skills.
-- Its row gets no mark.
abbrev pub with_skill_at : (Unit → Unit) → Roster → ℕ → ℕ → Roster
with_skill_at f r n skill = record r {
  values = with_changed_value f r.values n;
  marks = marked_with r.marks n (map.get r.values n);
  skills = thing_marked r.skills n skill (map.get r.values n);
}

-- the roster with unit n and one of its skills marked, if there is such a unit; the units stay as they are
abbrev pub skill_marked_at : Roster → ℕ → ℕ → Roster
skill_marked_at r n skill = record r {
  marks = marked_with r.marks n (map.get r.values n);
  skills = thing_marked r.skills n skill (map.get r.values n);
}

-- `without_unit_at` once unit n is looked up: n is removed, and it, its row and all its goods are marked; where n isn't
-- there (None), nothing changes
abbrev pub without_unit_found : Roster → ℕ → Option Unit → Roster
without_unit_found r n None = r
without_unit_found r n (Some u) = record (with_unit_marked r n) { values = map.remove r.values n }

-- the roster without unit n; where it was there, it, its row and all its goods are marked
abbrev pub without_unit_at : Roster → ℕ → Roster
without_unit_at r n = without_unit_found r n (map.get r.values n)
