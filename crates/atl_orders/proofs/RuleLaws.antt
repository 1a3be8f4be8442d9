-- The functions for one line (`line_step`) and for all lines after a header (`effects`) give what the rules allow, and
-- the rules allow nothing else. `state` is the reader's state before the line or lines, `given` says which aliases
-- earlier FORM lines gave, and s is the step of a line. A state says which unit is named and which block is open.
use Rattle.std.proofs.Common.{◌≡◌, ℕ, ◌+◌, ◌++◌, Bool, true, List, [], ◌∷◌, codes, Option, Some, None, Result, Ok, Err, refl, ap, ◌∙◌}
use Rattle.std.specs.List.{list_all, flat_map}
use Rattle.std.proofs.lemmas.Bool.{cond_both}
use Rattle.atl_world.specs.Worlds.{WorldValue}
use Rattle.atl_lines.specs.declared.order.UnitRef.{UnitRef}
use Rattle.atl_lines.specs.declared.fault.FaultyLine.{FaultyLine}
use Rattle.atl_lines.specs.declared.fault.LineFault.{LineFault}
use Rattle.atl_lines.specs.declared.fault.LineFault.TheVariants.{EndAlone, NestedForm}
use Rattle.atl_world.specs.declared.verb.Verb.{Verb}
use Rattle.atl_lines.specs.declared.reading.Keyword.{Keyword}
use Rattle.atl_lines.specs.declared.reading.Keyword.TheVariants as keywords
use Rattle.atl_lines.specs.declared.reading.ReaderState.{ReaderState}
use Rattle.atl_lines.specs.declared.reading.ReaderState.TheVariants.{Nowhere, At, Forming, Skipping}
use Rattle.atl_words.specs.Words.{WordText, words, begins}
use Rattle.atl_lines.specs.Operands.{number_at, alias_at}
use Rattle.atl_lines.specs.Orders.{OrderValue, read_order}
use Rattle.atl_lines.specs.Reading.{is_plain, state_naming_unit, Effect, nothing, faulty, keyword_of, target, order_effect, LineStep, step, unit_step, end_step, block_step, form_step, keyword_step, words_step, line_step}
use Rattle.atl_orders.specs.Mailing.{EntryValue, entry_of, fault_of, effects}
use Rattle.atl_orders.specs.Rules.{state_after_block, WordsSay, unit_named, unit_faulty, block_closed, end_alone, form_nested, form_nowhere, form_faulty, form_again, form_new, order_nowhere, order_faulty, order_said, unknown, LineSays, bad_byte, no_word, some_words, BodySays, text_ended, orders_ended, one_line, entries_from, faults_from}

abbrev NumberResult : Type 0
NumberResult = Result (ℕ × List WordText) LineFault

-- ---- the rules allow what the function gives

-- w is the first word of a line, `ws` are the words after it, and `given` says which aliases earlier FORM lines gave
module _ (world : WorldValue) (given : ℕ → Bool) (w : WordText) (ws : List WordText) where
  unit_fits : (state : ReaderState) (r : NumberResult) → keyword_of w ≡ Some keywords.Unit → number_at ws ≡ r
      → WordsSay world state given w ws (unit_step given r)
  unit_fits state (Ok n) k h = unit_named k n.0 n.1 h refl
  unit_fits state (Err fault) k h = unit_faulty k fault h refl

  end_fits : (state : ReaderState) → keyword_of w ≡ Some keywords.End
      → WordsSay world state given w ws (end_step state given)
  end_fits Nowhere k = end_alone k refl refl
  end_fits (At n) k = end_alone k refl refl
  end_fits (Forming parent alias) k = block_closed k (At parent) refl refl
  end_fits (Skipping parent) k = block_closed k _ refl refl

  block_fits : (n : ℕ) (r : NumberResult) → keyword_of w ≡ Some keywords.Form → alias_at ws ≡ r
      → WordsSay world (At n) given w ws (block_step n given r)
  block_fits n (Ok a) k h =
      cond_both (given a.0) _ _ (WordsSay world (At n) given w ws) (λ g. form_again k n refl a.0 a.1 h g refl)
      (λ g. form_new k n refl a.0 a.1 h g refl)
  block_fits n (Err fault) k h = form_faulty k n refl fault h refl

  form_fits : (state : ReaderState) → keyword_of w ≡ Some keywords.Form
      → WordsSay world state given w ws (form_step state given ws)
  form_fits Nowhere k = form_nowhere k refl refl
  form_fits (At n) k = block_fits n (alias_at ws) k refl
  form_fits (Forming parent alias) k = form_nested k (At parent) refl refl
  form_fits (Skipping parent) k = form_nested k _ refl refl

  order_fits : (state : ReaderState) (verb : Verb) (t : Option UnitRef) (r : Result OrderValue LineFault)
      → keyword_of w ≡ Some (keywords.Order verb) → target state ≡ t → read_order world verb ws ≡ r
      → WordsSay world state given w ws (step (order_effect t r) state given)
  order_fits state verb None r k h e = order_nowhere verb k h refl
  order_fits state verb (Some unit) (Ok order_value) k h e = order_said verb k unit h order_value e refl
  order_fits state verb (Some unit) (Err fault) k h e = order_faulty verb k unit h fault e refl

  words_fit : (state : ReaderState) (k : Option Keyword) → keyword_of w ≡ k
      → WordsSay world state given w ws (keyword_step world state given k ws)
  words_fit state None h = unknown h refl
  words_fit state (Some keywords.Unit) h = unit_fits state (number_at ws) h refl
  words_fit state (Some keywords.End) h = end_fits state h
  words_fit state (Some keywords.Form) h = form_fits state h
  words_fit state (Some (keywords.Order verb)) h =
      order_fits state verb (target state) (read_order world verb ws) h refl refl

plain_fits : (l : List WordText) (world : WorldValue) (state : ReaderState) (given : ℕ → Bool) (line : List ℕ)
    → list_all is_plain line ≡ true → words line ≡ l → LineSays world state given line (words_step world state given l)
plain_fits [] world state given line a b = no_word a b refl
plain_fits (w ∷ ws) world state given line a b =
    some_words a w ws b (words_fit world given w ws state (keyword_of w) refl)

-- the rules (`LineSays`) allow the step that the function `line_step` gives a line
pub line_fits : (world : WorldValue) (state : ReaderState) (given : ℕ → Bool) (line : List ℕ)
    → LineSays world state given line (line_step world state given line)
unfolding line_step
line_fits world state given line =
    cond_both (list_all is_plain line) _ _ (LineSays world state given line)
    (λ a. plain_fits (words line) world state given line a refl) (λ a. bad_byte a refl)

-- ---- the rules allow nothing else

module _ (given : ℕ → Bool) where
  closed : (state out : ReaderState) → state_after_block state ≡ Some out
      → step nothing out given ≡ end_step state given
  closed Nowhere out h = cc
  closed (At n) out h = cc
  closed (Forming parent alias) out h = let e : out ≡ At parent = cc in ap (λ p. step nothing p given) e
  closed (Skipping parent) out h = let e : out ≡ state_naming_unit parent = cc in ap (λ p. step nothing p given) e

  alone : (state : ReaderState) → state_after_block state ≡ None
      → step (faulty EndAlone) state given ≡ end_step state given
  alone Nowhere h = refl
  alone (At n) h = refl
  alone (Forming parent alias) h = cc
  alone (Skipping parent) h = cc

  nested : (state out : ReaderState) (ws : List WordText) → state_after_block state ≡ Some out
      → step (faulty NestedForm) state given ≡ form_step state given ws
  nested Nowhere out ws h = cc
  nested (At n) out ws h = cc
  nested (Forming parent alias) out ws h = refl
  nested (Skipping parent) out ws h = refl

words_only : (world : WorldValue) (state : ReaderState) (given : ℕ → Bool) (w : WordText) (ws : List WordText) (s : LineStep)
    → WordsSay world state given w ws s → s ≡ keyword_step world state given (keyword_of w) ws
words_only world state given w ws s (unit_named k n rest h e) = rw (k, h) e
words_only world state given w ws s (unit_faulty k fault h e) = rw (k, h) e
words_only world state given w ws s (block_closed k out o e) = rw k (e ∙ closed given state out o)
words_only world state given w ws s (end_alone k o e) = rw k (e ∙ alone given state o)
words_only world state given w ws s (form_nested k out o e) = rw k (e ∙ nested given state out ws o)
words_only world state given w ws s (form_nowhere k p e) = rw (k, p) e
words_only world state given w ws s (form_faulty k n p fault h e) = rw (k, p, h) e
words_only world state given w ws s (form_again k n p alias rest h g e) = rw (k, p, h, g) e
words_only world state given w ws s (form_new k n p alias rest h g e) = rw (k, p, h, g) e
words_only world state given w ws s (order_nowhere verb k t e) = rw (k, t) e
words_only world state given w ws s (order_faulty verb k unit t fault h e) = rw (k, t, h) e
words_only world state given w ws s (order_said verb k unit t order_value h e) = rw (k, t, h) e
words_only world state given w ws s (unknown k e) = rw k e

-- a step that the rules for a line (`LineSays`) allow is the one that `line_step` gives
pub line_only : (world : WorldValue) (state : ReaderState) (given : ℕ → Bool) (line : List ℕ) (s : LineStep)
    → LineSays world state given line s → s ≡ line_step world state given line
unfolding line_step
line_only world state given line s (bad_byte a e) = rw a e
line_only world state given line s (no_word a b e) = rw (a, b) e
line_only world state given line s (some_words a w ws b r) = rw (a, b) (words_only world state given w ws s r)

-- ---- all lines

-- The rules for lines (`BodySays`) allow what the function `effects` gives: `entries_from` has the orders,
-- `faults_from` the faulty lines. The first of the lines has the number n, the reader is in `state` before it, and
-- `given` says which aliases were given before it.
pub body_fits : (world : WorldValue) (n : ℕ) (state : ReaderState) (given : ℕ → Bool) (lines : List (List ℕ))
    → BodySays world n state given lines (entries_from world n state given lines) (faults_from world n state given lines)
unfolding effects
body_fits world n state given [] = text_ended n state given
body_fits world n state given (line ∷ rest) =
    let s = line_step world state given line in
    cond_both (begins (codes "#END") (words line)) _ _ (λ (es : List (ℕ × Effect)). BodySays world n state given (line ∷ rest) (flat_map entry_of es) (flat_map fault_of es)) (λ h. orders_ended n state given line rest h)
    (λ h. one_line n state given line rest h s (line_fits world state given line) _ _ (body_fits world (n + 1) s.state s.given rest))

-- Orders and faulty lines that the rules for lines (`BodySays`) allow are those that `effects` gives. The first of the
-- lines has the number n.
pub body_only : (world : WorldValue) {n : ℕ} {state : ReaderState} {given : ℕ → Bool} {lines : List (List ℕ)} {entries : List EntryValue} {faults : List FaultyLine}
    → BodySays world n state given lines entries faults
    → (entries ≡ entries_from world n state given lines) × (faults ≡ faults_from world n state given lines)
unfolding effects
body_only world (text_ended n state given) = (refl, refl)
body_only world (orders_ended n state given line rest h) = rw h (refl, refl)
body_only world (one_line n state given line rest h s r entries faults b) =
    let e : s ≡ line_step world state given line = line_only world state given line s r in
    let more = body_only world b in
    rw (h, ← e) (ap (λ l. entry_of (n, s.effect) ++ l) more.0, ap (λ l. fault_of (n, s.effect) ++ l) more.1)
