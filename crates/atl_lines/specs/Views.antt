-- For proofs alone: values of the code (results, aliases, orders) as values of the definitions.
use Rattle.std.specs.Prelude.{◌≡◌, ℕ, ◌++◌, Bool, false, List, Result, Ok, Err, slice_index_or}
use Rattle.atl_lines.specs.declared.aliases.Aliases.{Aliases}
use Rattle.atl_lines.specs.declared.fault.LineFault.{LineFault}
use Rattle.atl_lines.specs.declared.order.UnitRef.{UnitRef}
use Rattle.atl_lines.specs.declared.reading.LineResult.{LineResult}
use Rattle.atl_lines.specs.declared.reading.LineResult.TheVariants as outcomes
use Rattle.atl_lines.specs.declared.reading.ReaderState.{ReaderState}
use Rattle.atl_words.specs.declared.words.Word.{Word}
use Rattle.atl_world.specs.Steps.{◌>>=◌}
use Rattle.atl_lines.specs.Orders.{order_value}
use Rattle.atl_lines.specs.Reading.{Effect, nothing, faulty, says, LineStep, step}

-- a result with `view` applied to its value; a fault stays
abbrev pub view_of_result : {X Y : Type 0} → (X → Y) → Result X LineFault → Result Y LineFault
view_of_result view (Ok x) = Ok (view x)
view_of_result view (Err e) = Err e

-- `Agrees view result read`: what a call returned, `result`, agrees with `read`, the result of the definition. Both are
-- the same fault, or `view` of the call's value is the definition's value.
abbrev pub Agrees : {X Y : Type 0} → (X → Y) → Result X LineFault → Result Y LineFault → Type 0
Agrees view result read = read ≡ view_of_result view result

-- the units of a list, and then those of a result; or the fault of the result
abbrev pub with_units : List UnitRef → Result (List UnitRef) LineFault → Result (List UnitRef) LineFault
with_units front units = units >>= λ us. Ok (front ++ us)

-- the set of given aliases that the code holds, as a test of each number
abbrev pub alias_set : Aliases → ℕ → Bool
alias_set aliases k = slice_index_or aliases.given.items k false

-- what the code returned for a line, as an effect: the name in an order is its bytes, in place of its span of `text`
abbrev pub effect_of : List ℕ → LineResult → Effect
effect_of text outcomes.Nothing = nothing
effect_of text (outcomes.Faulty fault) = faulty fault
effect_of text (outcomes.Says unit order) = says unit (order_value text order)

-- the step of a line of `text`, by r, what the code returns (its result and the next state), and by the given aliases
abbrev pub step_of : List ℕ → LineResult × ReaderState → (ℕ → Bool) → LineStep
step_of text r given = step (effect_of text r.0) r.1 given
