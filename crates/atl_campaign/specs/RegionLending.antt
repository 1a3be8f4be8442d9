-- For proofs alone: what the regions are once they lend one. The loan is a reference through which it may be written.
use Rattle.std.specs.Prelude.{ℕ, Option}
use Rattle.std.specs.FinMap as map
use Rattle.std.specs.Borrow.{LendsIf, MutBor, Fml}
use Rattle.atl_records.specs.declared.records.Region.{Region}
use Rattle.atl_records.specs.contracts.records.Region as region
use Rattle.atl_campaign.specs.contracts.regions.Regions.{the_row}
use Rattle.atl_campaign.specs.Regions.{MarkedRegions}

-- after a loan q of region n, which `lend` returns, the regions r have q's last value under n, and no mark changes.
-- Without a loan (None) r is unchanged.
abbrev pub LendsRegion : MutBor MarkedRegions → ℕ → Option (MutBor Region) → Fml
LendsRegion r n q = LendsIf the_row region.the_row r q (λ w. record r.now { values = map.insert r.now.values n w }) r.now
