-- For proofs alone: a map into which entries (number, value) are put in turn; of two under one number the later counts.
use Rattle.std.specs.Prelude.{ℕ, List, Option}
use Rattle.std.specs.List.{fold}
use Rattle.std.specs.Option.{option_map_or}
use Rattle.std.specs.Ordering.{nat_cmp}
use Rattle.std.specs.FinMap.{FinMap, insert}

-- the map `m` with entries put into it, one after another
abbrev pub with_entries : {V : Type 0} → FinMap nat_cmp V → List (ℕ × V) → FinMap nat_cmp V
with_entries m entries = fold (λ so_far entry. insert so_far entry.0 entry.1) m entries

-- the map `m` with an entry put into it; `m` itself where no entry is given (None)
abbrev pub with_entry_if_some : {V : Type 0} → FinMap nat_cmp V → Option (ℕ × V) → FinMap nat_cmp V
with_entry_if_some m entry = option_map_or (λ e. insert m e.0 e.1) entry m
