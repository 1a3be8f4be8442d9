-- The divisor of births, which are some hundredths of the peasants. See docs/RULES.md, "Season".
use Rattle.std.specs.Prelude.{ℕ}

-- the divisor of births: they are a percentage of a region's peasants
abbrev pub per_hundred : ℕ
per_hundred = 100
