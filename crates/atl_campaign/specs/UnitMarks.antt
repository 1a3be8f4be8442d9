-- For proofs alone: what becomes of a roster, the units with their marks, once it lends a unit, and what is marked. The
-- loan is a reference through which the unit may be written. A unit's goods are its items and days of study.
use Rattle.std.specs.Prelude.{ℕ, Option}
use Rattle.std.specs.FinMap as map
use Rattle.std.specs.FinSet as set
use Rattle.std.specs.Borrow.{LendsIf, MutBor, Fml}
use Rattle.atl_records.specs.declared.records.Unit.{Unit}
use Rattle.atl_records.specs.contracts.records.Unit as unit
use Rattle.atl_campaign.specs.contracts.units.Units.{the_row}
use Rattle.atl_campaign.specs.Roster.{Roster, with_unit_at}

-- after a loan u of unit n, which `get_mut` returns, roster r has u's last value under n, and the unit, its row and all
-- its goods are marked. Without a loan (None) r is unchanged.
abbrev pub LendsUnit : MutBor Roster → ℕ → Option (MutBor Unit) → Fml
LendsUnit r n u = LendsIf the_row unit.the_row r u (with_unit_at r.now n) r.now

-- after a loan u of unit n, which `row_mut` returns, roster r has u's last value under n, and the unit and its row are
-- marked, none of its goods. Without a loan (None) r is unchanged.
abbrev pub LendsRow : MutBor Roster → ℕ → Option (MutBor Unit) → Fml
LendsRow r n u =
    LendsIf the_row unit.the_row r u
    (λ w. record r.now { values = map.insert r.now.values n w; marks = set.insert r.now.marks n; rows = set.insert r.now.rows n })
    r.now
