-- Laws of the units that the words of a TEACH order name: the first unit, and then the others. ws are the words left to
-- read, u is the unit that they begin with, `rest` are the words after it, and `front` are the units read before.
use Rattle.std.proofs.Common.{◌≡◌, ℕ, ◌+◌, ◌<◌, ◌≤◌, Bool, true, false, cond, List, [], ◌∷◌, ◌++◌, length, codes, Option, Some, None, Result, Ok, Err, refl, sym, ap, ◌∙◌, arith}
use Rattle.atl_words.specs.Limits.{last_alias, most_number}
use Rattle.atl_lines.specs.declared.order.UnitRef.{UnitRef}
use Rattle.atl_lines.specs.declared.order.UnitRef.TheVariants.{Number, Alias}
use Rattle.atl_lines.specs.declared.fault.LineFault.{LineFault}
use Rattle.atl_lines.specs.declared.fault.LineFault.TheVariants.{BadNumber, BadAlias}
use Rattle.atl_words.specs.Words.{WordText, is_word, number_of}
use Rattle.atl_world.specs.Steps.{◌>>=◌}
use Rattle.atl_lines.specs.Operands.{or_fault, count_at, unit_at, units_of, and_then_units}
use Rattle.atl_words.specs.Words.{not_zero}
use Rattle.atl_lines.specs.Views.{with_units}
use Rattle.std.proofs.lemmas.Bool.{cond_both}
use Rattle.std.proofs.lemmas.List.{append_assoc, append-nil}

abbrev number_read : List WordText → ℕ → Result (ℕ × List WordText) LineFault
number_read ws n = Ok (n, ws)

abbrev as_unit : (ℕ → UnitRef) → ℕ × List WordText → Result (UnitRef × List WordText) LineFault
as_unit c n = Ok (c n.0, n.1)

abbrev unit_read : UnitRef → List WordText → Result (UnitRef × List WordText) LineFault
unit_read u rest = Ok (u, rest)

-- a unit that was read, in front of the units that the words after it name; or their fault
abbrev pub then_units : UnitRef × List WordText → Result (List UnitRef) LineFault
then_units x = units_of x.1 >>= λ us. Ok (x.0 ∷ us)

-- For `units_step`: a unit that is read, put in front of the units of the words ws, is what `then_units` makes of this
-- unit and ws. The unit is c of the number `o`, or the fault f if there is none.
ref_step : (o : Option ℕ) (f : LineFault) (c : ℕ → UnitRef) (ws : List WordText)
    → and_then_units (or_fault f o >>= λ n. Ok (c n)) (units_of ws)
    ≡ (or_fault f o >>= number_read ws >>= as_unit c) >>= then_units
ref_step None f c ws = refl
ref_step (Some n) f c ws = refl

then_units_of_choice : (t : Bool) (a b : Result (List UnitRef) LineFault) (c d : Result (UnitRef × List WordText) LineFault)
    → a ≡ c >>= then_units → b ≡ d >>= then_units → cond t a b ≡ cond t c d >>= then_units
then_units_of_choice true a b c d p q = p
then_units_of_choice false a b c d p q = q

-- the units that one or more words name are the unit that the words begin with, and then those of the words after it;
-- the first fault of these is the fault of all
pub units_step : (w : WordText) (ws : List WordText) → units_of (w ∷ ws) ≡ unit_at (w ∷ ws) >>= then_units
unfolding units_of unit_at count_at
units_step w [] =
    then_units_of_choice (is_word (codes "NEW") w) _ _ _ _ refl
    (ref_step (not_zero (number_of most_number w.bytes)) BadNumber Number [])
units_step w (v ∷ ws) =
    then_units_of_choice (is_word (codes "NEW") w) _ _ _ _
    (ref_step (not_zero (number_of last_alias v.bytes)) BadAlias Alias ws)
    (ref_step (not_zero (number_of most_number w.bytes)) BadNumber Number (v ∷ ws))

unit_at_end_or_front : (units : Result (List UnitRef) LineFault) (front : List UnitRef) (u : UnitRef)
    → with_units (front ++ u ∷ []) units ≡ with_units front (units >>= λ us. Ok (u ∷ us))
unit_at_end_or_front (Ok us) front u = ap (λ l. Ok l) (append_assoc front (u ∷ []) us)
unit_at_end_or_front (Err f) front u = refl

-- the units read so far, then u and the units of `rest`, are the units read so far and those of the words ws, if ws are
-- read as u and then `rest`
pub one_more : (front : List UnitRef) (ws : List WordText) (u : UnitRef) (rest : List WordText)
    → unit_at ws ≡ unit_read u rest → with_units (front ++ u ∷ []) (units_of rest) ≡ with_units front (units_of ws)
unfolding unit_at
one_more front [] u rest h = cc
one_more front (w ∷ ws) u rest h =
    unit_at_end_or_front (units_of rest) front u
    ∙ ap (with_units front) (sym (units_step w ws ∙ ap (λ r. r >>= then_units) h))

-- where the words left, at least one, begin with a faulty unit, reading all units gives this fault
pub fault_stays : (front : List UnitRef) (ws : List WordText) (f : LineFault) → 0 < length ws → unit_at ws ≡ Err f
    → with_units front (units_of ws) ≡ Err f
fault_stays front [] f p h = absurd (omega arith)
fault_stays front (w ∷ ws) f p h = ap (with_units front) (units_step w ws ∙ ap (λ r. r >>= then_units) h)

pub no_more : (front : List UnitRef) (ws : List WordText) → ws ≡ [] → with_units front (units_of ws) ≡ Ok front
unfolding units_of
no_more front [] h = ap (λ l. Ok l) (append-nil front)
no_more front (w ∷ ws) h = cc

read_rest : (o : Option ℕ) (f : LineFault) (c : ℕ → UnitRef) (left : List WordText) (u : UnitRef) (rest : List WordText)
    → (or_fault f o >>= number_read left >>= as_unit c) ≡ unit_read u rest → length rest ≤ length left
read_rest None f c left u rest h = cc
read_rest (Some k) f c left u rest h = let here : UnitRef × List WordText = (c k, left) in let there : UnitRef × List WordText = (u, rest) in let e : here ≡ there = cc in omega (arith, ap (λ (p : UnitRef × List WordText). length p.1) e)

pub rest_shorter : (ws : List WordText) (u : UnitRef) (rest : List WordText) → unit_at ws ≡ unit_read u rest
    → length rest < length ws
unfolding unit_at count_at
rest_shorter [] u rest h = cc
rest_shorter (w ∷ []) u rest h =
    let few : length rest ≤ 0 = cond_both (is_word (codes "NEW") w) _ _ (λ (r : Result (UnitRef × List WordText) LineFault). r ≡ unit_read u rest → length rest ≤ 0)
    (λ _ e. cc) (λ _ e. read_rest (not_zero (number_of most_number w.bytes)) BadNumber Number [] u rest e) h in
    omega arith
rest_shorter (w ∷ v ∷ ws) u rest h =
    let few : length rest ≤ length ws + 1 = cond_both (is_word (codes "NEW") w) _ _ (λ (r : Result (UnitRef × List WordText) LineFault). r ≡ unit_read u rest → length rest ≤ length ws + 1)
    (λ _ e. omega (arith, read_rest (not_zero (number_of last_alias v.bytes)) BadAlias Alias ws u rest e))
    (λ _ e. omega (arith, read_rest (not_zero (number_of most_number w.bytes)) BadNumber Number (v ∷ ws) u rest e)) h in
    omega arith
