-- The numbers of teaching and study: people per teacher, and days per month. See docs/RULES.md, "Learning".
use Rattle.std.specs.Prelude.{ℕ}

-- how many men one man teaches in a month at most
abbrev pub pupils_per_teacher : ℕ
pupils_per_teacher = 10

-- the days that each man gains by a month of study
abbrev pub month_days : ℕ
month_days = 30

-- the days that each man who is taught gains in a month, on top of those of study
abbrev pub taught_days : ℕ
taught_days = 30

-- the days that each man gains in a month inside a structure that helps the skill, on top of those of study
abbrev pub helped_days : ℕ
helped_days = 10
