-- The set of the aliases that the FORM lines of a mailing have given new units so far, as a test of each number.
use Rattle.std.specs.Prelude.{ℕ, Bool, false, ◌||◌, ◌==◌}

-- the empty set of aliases, as a test that no number passes
abbrev pub no_alias : ℕ → Bool
no_alias k = false

-- `with_alias given alias`: the set of aliases `given` with `alias` added, as a test of each number
abbrev pub with_alias : (ℕ → Bool) → ℕ → ℕ → Bool
with_alias given alias k = k == alias || given k
