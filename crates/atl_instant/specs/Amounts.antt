-- A map of amounts, made from a list of numbers and the amount of each. See docs/RULES.md, "Transferring".
use Rattle.std.specs.Prelude.{◌==◌, not, ℕ, List, filter, map}
use Rattle.std.specs.Ordering.{nat_cmp}
use Rattle.std.specs.FinMap.{FinMap, from_entries}

-- the map from each number of a list to what the function `amount` gives for it; a number with 0 is left out
unfoldable pub amounts_for : (amount : ℕ → ℕ) → List ℕ → FinMap nat_cmp ℕ
amounts_for amount ns = from_entries (filter (λ e. not (e.1 == 0)) (map (λ n. (n, amount n)) ns))
