-- An amount shared out in turn: each gets what it wants while the amount lasts.
use Rattle.std.specs.Prelude.{ℕ, ◌+◌, ◌-◌, min}

-- what somebody who wants `want` gets of an amount, once others who want `before` together have taken theirs
abbrev pub amount_in_turn : (amount before want : ℕ) → ℕ
amount_in_turn amount before want = min (before + want) amount - min before amount
