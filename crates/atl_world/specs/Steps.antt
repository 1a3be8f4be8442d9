-- Steps that may fail, one after another. The first error is the result.
use Rattle.std.specs.Prelude.{Result, Ok, Err}

-- what the next step gives for the value of a result; if the result is an error, that error
infixl 10 ◌>>=◌
abbrev pub ◌>>=◌ : {A B E : Type 0} → Result A E → (A → Result B E) → Result B E
(Ok x) >>= next = next x
(Err e) >>= next = Err e
