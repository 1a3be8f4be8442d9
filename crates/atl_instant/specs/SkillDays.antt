-- For proofs alone: the days of each skill as the code sets them, one skill after another, when men move.
use Rattle.std.specs.Prelude.{ℕ, ◌+◌, ◌-◌, List, map}
use Rattle.std.specs.Ordering.{nat_cmp}
use Rattle.std.specs.FinMap.{FinMap, entries}
use Rattle.atl_records.specs.Holdings.{amount_of}
use Rattle.atl_instant.specs.Transfer.{days_going}

-- a list of each skill of a unit, with the days that stay with it as n of its `men` men, who have `days` together, go
abbrev pub left_list : (n men : ℕ) → (days : FinMap nat_cmp ℕ) → List (ℕ × ℕ)
left_list n men days = map (λ e. (e.0, e.1 - days_going n men e.1)) (entries days)

-- A list of each skill of a unit that sends n of its `men` men, who have `days` together, with the days that the
-- receiver has of it then. Before, the receiver had the days `more`.
abbrev pub raised_list : (n men : ℕ) → (days more : FinMap nat_cmp ℕ) → List (ℕ × ℕ)
raised_list n men days more = map (λ e. (e.0, amount_of more e.0 + days_going n men e.1)) (entries days)
