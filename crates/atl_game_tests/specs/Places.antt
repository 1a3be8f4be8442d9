-- For these tests alone: how much there is to share in each region, where only regions 1 and 2 have a pot.
use Rattle.std.specs.Prelude.{ℕ, ◌==◌, if◌then◌else◌}

-- How much there is to share in `region`: `first` in region 1, `second` in region 2, and 0 in all others.
abbrev pub pot_in : (first second region : ℕ) → ℕ
pot_in first second region = if region == 1 then first else (if region == 2 then second else 0)
