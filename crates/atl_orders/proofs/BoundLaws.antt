-- Every mailing that is read is in bounds: numbers in range, names by their rule, items, skills and kinds of the world,
-- and line numbers strictly ascending. `state` is the reader's state before a line, and r the result of a step of
-- reading. A law `.._sound` says that what a step gives is in bounds.
use Rattle.std.proofs.Common.{◌≡◌, ℕ, ◌+◌, ◌<◌, Bool, List, [], ◌∷◌, ◌++◌, length, codes, Option, Some, None, Result, Ok, Err, nat_lt, refl, subst, arith}
use Rattle.std.specs.List.{All, list_all, flat_map}
use Rattle.std.proofs.lemmas.Bool.{cond_both}
use Rattle.std.proofs.lemmas.List.Elements.{All-nil, All-cons, All-append}
use Rattle.atl_words.specs.Limits.{most_bytes, most_number, last_alias, last_faction}
use Rattle.atl_world.specs.Worlds.{WorldValue}
use Rattle.atl_lines.specs.declared.order.UnitRef.{UnitRef}
use Rattle.atl_lines.specs.declared.order.UnitRef.TheVariants.{Number, Alias}
use Rattle.atl_lines.specs.declared.fault.LineFault.{LineFault}
use Rattle.atl_lines.specs.declared.fault.LineFault.TheVariants.{BadNumber, BadAlias}
use Rattle.atl_words.specs.declared.mail_fault.MailFault.{MailFault}
use Rattle.atl_lines.specs.declared.reading.Keyword.{Keyword}
use Rattle.atl_lines.specs.declared.reading.Keyword.TheVariants as keywords
use Rattle.atl_lines.specs.declared.reading.ReaderState.{ReaderState}
use Rattle.atl_lines.specs.declared.reading.ReaderState.TheVariants.{Nowhere, At, Forming, Skipping}
use Rattle.atl_words.specs.Words.{WordText, words, begins, number_of}
use Rattle.atl_lines.specs.Operands.{number_at, alias_at}
use Rattle.atl_lines.specs.Orders.{OrderValue, read_order}
use Rattle.atl_lines.specs.Aliasing.{no_alias}
use Rattle.atl_words.specs.TextLines.{lines}
use Rattle.atl_lines.specs.Reading.{is_plain, keyword_of, Effect, nothing, faulty, says, LineStep, target, effect_for, order_effect, unit_step, end_step, block_step, form_step, keyword_step, words_step, line_step}
use Rattle.atl_orders.specs.Mailing.{EntryValue, entry_of, effects, after_header, reading}
use Rattle.atl_words.specs.Header.{faction_of, HeaderValue, header_line, header_from}
use Rattle.atl_orders.proofs.OperandLaws.{Holds, NumberRead, IsOrderInBounds, count_holds, nonzero_is_from_one, number_within, said_sound}
use Rattle.atl_orders.specs.Bounds.{IsWithin, IsNumber, IsAlias, IsUnitRef, IsOrderOf, IsEntry, LinesRise, IsReading, ReadingsKeepBounds}

-- ---- lines

-- the units of a reader's state are from 1 to 999,999,999, and its alias is from 1 to 9,999, where it has any
abbrev IsStateInBounds : ReaderState → Type 0
IsStateInBounds Nowhere = Unit {0}
IsStateInBounds (At n) = IsNumber n
IsStateInBounds (Forming parent alias) = IsNumber parent × IsAlias alias
IsStateInBounds (Skipping None) = Unit {0}
IsStateInBounds (Skipping (Some n)) = IsNumber n

-- the order that a line gives, if any, says what it is and is in bounds (`IsOrderOf`), as is the unit that it is for
abbrev IsEffect : WorldValue → Effect → Type 0
IsEffect world nothing = Unit {0}
IsEffect world (faulty fault) = Unit {0}
IsEffect world (says unit order_value) = IsUnitRef unit × IsOrderOf world order_value

-- what a line gives (`IsEffect`), and the reader's state after it (`IsStateInBounds`), are in bounds
abbrev IsStep : WorldValue → LineStep → Type 0
IsStep world s = IsEffect world s.effect × IsStateInBounds s.state

-- `given` says which aliases earlier FORM lines gave
module _ (world : WorldValue) (given : ℕ → Bool) where
  unit_sound : (r : Result NumberRead LineFault) → Holds (λ (x : NumberRead). IsNumber x.0) r
      → IsStep world (unit_step given r)
  unit_sound (Ok n) h = (tt, h)
  unit_sound (Err fault) h = (tt, tt)

  end_sound : (state : ReaderState) → IsStateInBounds state → IsStep world (end_step state given)
  end_sound Nowhere h = (tt, tt)
  end_sound (At n) h = (tt, h)
  end_sound (Forming parent alias) h = (tt, h.0)
  end_sound (Skipping None) h = (tt, tt)
  end_sound (Skipping (Some n)) h = (tt, h)

  block_sound : (n : ℕ) (r : Result NumberRead LineFault) → IsNumber n → Holds (λ (x : NumberRead). IsAlias x.0) r
      → IsStep world (block_step n given r)
  block_sound n (Ok a) h k =
      cond_both (given a.0) _ _ (IsStep world) (λ _. (tt, h))
      (λ _. ((h, record { shape = refl; operands = k }), (h, k)))
  block_sound n (Err fault) h k = (tt, h)

  forming_sound : (state : ReaderState) (ws : List WordText) → IsStateInBounds state
      → IsStep world (form_step state given ws)
  forming_sound Nowhere ws h = (tt, tt)
  forming_sound (At n) ws h = block_sound n (alias_at ws) h (count_holds last_alias BadAlias ws)
  forming_sound (Forming parent alias) ws h = (tt, h)
  forming_sound (Skipping parent) ws h = (tt, h)

  for_unit : (unit : UnitRef) (r : Result OrderValue LineFault) → IsUnitRef unit → IsOrderInBounds world r
      → IsEffect world (effect_for unit r)
  for_unit unit (Ok order_value) h k = (h, k)
  for_unit unit (Err fault) h k = tt

  order_sound : (state : ReaderState) (r : Result OrderValue LineFault) → IsStateInBounds state
      → IsOrderInBounds world r → IsEffect world (order_effect (target state) r)
  order_sound Nowhere r h k = tt
  order_sound (At n) r h k = for_unit (Number n) r h k
  order_sound (Forming parent alias) r h k = for_unit (Alias alias) r h.1 k
  order_sound (Skipping parent) r h k = tt

  keyword_sound : (state : ReaderState) (k : Option Keyword) (ws : List WordText) → IsStateInBounds state
      → IsStep world (keyword_step world state given k ws)
  keyword_sound state None ws h = (tt, h)
  keyword_sound state (Some keywords.Unit) ws h = unit_sound (number_at ws) (count_holds most_number BadNumber ws)
  keyword_sound state (Some keywords.End) ws h = end_sound state h
  keyword_sound state (Some keywords.Form) ws h = forming_sound state ws h
  keyword_sound state (Some (keywords.Order verb)) ws h =
      (order_sound state (read_order world verb ws) h (said_sound world verb ws), h)

  words_sound : (state : ReaderState) (ws : List WordText) → IsStateInBounds state
      → IsStep world (words_step world state given ws)
  words_sound state [] h = (tt, h)
  words_sound state (w ∷ ws) h = keyword_sound state (keyword_of w) ws h

  line_sound : (state : ReaderState) (line : List ℕ) → IsStateInBounds state
      → IsStep world (line_step world state given line)
  unfolding line_step
  line_sound state line h =
      cond_both (list_all is_plain line) _ _ (IsStep world) (λ _. words_sound state (words line) h) (λ _. (tt, h))

-- ---- all lines, the header, and the whole text

module _ (world : WorldValue) where
  entry_sound : (n : ℕ) (effect : Effect) → IsEffect world effect → All (IsEntry world) (entry_of (n, effect))
  entry_sound n nothing h = All-nil (IsEntry world)
  entry_sound n (faulty fault) h = All-nil (IsEntry world)
  entry_sound n (says unit order_value) h =
      All-cons (IsEntry world) _ [] (record { target = h.0; order = h.1 }) (All-nil (IsEntry world))

  body_sound : (lines : List (List ℕ)) (n : ℕ) (state : ReaderState) (given : ℕ → Bool) → IsStateInBounds state
      → All (IsEntry world) (flat_map entry_of (effects world n state given lines))
  unfolding effects
  body_sound [] n state given h = All-nil (IsEntry world)
  body_sound (line ∷ rest) n state given h =
      let s = line_step world state given line in
      let sound = line_sound world given state line h in
      cond_both (begins (codes "#END") (words line)) _ _ (λ (es : List (ℕ × Effect)). All (IsEntry world) (flat_map entry_of es)) (λ _. All-nil (IsEntry world))
      (λ _. All-append (IsEntry world) (entry_of (n, s.effect)) _ (entry_sound n s.effect sound.0) (body_sound rest (n + 1) s.state s.given sound.1))

rise_step : (world : WorldValue) (n m : ℕ) (effect : Effect) (rest : List EntryValue) → m < n
    → ((k : ℕ) → k < n + 1 → LinesRise k rest) → LinesRise m (entry_of (n, effect) ++ rest)
rise_step world n m nothing rest h k = k m (omega arith)
rise_step world n m (faulty fault) rest h k = k m (omega arith)
rise_step world n m (says unit order_value) rest h k = (h, k n (omega arith))

body_rises : (world : WorldValue) (lines : List (List ℕ)) (n m : ℕ) (state : ReaderState) (given : ℕ → Bool) → m < n
    → LinesRise m (flat_map entry_of (effects world n state given lines))
unfolding effects
body_rises world [] n m state given h = tt
body_rises world (line ∷ rest) n m state given h =
    let s = line_step world state given line in
    cond_both (begins (codes "#END") (words line)) _ _ (λ (es : List (ℕ × Effect)). LinesRise m (flat_map entry_of es)) (λ _. tt)
    (λ _. rise_step world n m s.effect _ h (λ k l. body_rises world rest (n + 1) k s.state s.given l))

-- the faction of a header is from 1 to 9,999, and the next line has a number above 0
abbrev IsHeaded : HeaderValue → Type 0
IsHeaded h = IsWithin last_faction h.faction × (0 < h.next)

faction_within : (ws : List WordText) (n : ℕ) → faction_of ws ≡ Some n → IsWithin last_faction n
faction_within [] n h = cc
faction_within (w ∷ []) n h = cc
faction_within (w ∷ v ∷ ws) n h =
    nonzero_is_from_one last_faction (number_of last_faction v.bytes) n (number_within last_faction v.bytes) h

-- A header line gives a fault, or a faction from 1 to 9,999 and a next line above 0 (`IsHeaded`). This supposes that
-- the number f that the line names, if any, is in this range.
line_headed : (n : ℕ) (rest : List (List ℕ)) (f : Option ℕ) → ((k : ℕ) → f ≡ Some k → IsWithin last_faction k)
    → Holds IsHeaded (header_line n rest f)
line_headed n rest None h = tt
line_headed n rest (Some k) h = (h k refl, omega arith)

header_sound : (lines : List (List ℕ)) (n : ℕ) → Holds IsHeaded (header_from n lines)
unfolding header_from
header_sound [] n = tt
header_sound (line ∷ rest) n =
    cond_both (begins (codes "#ATLANTIS") (words line)) _ _ (Holds IsHeaded)
    (λ _. line_headed n rest (faction_of (words line)) (faction_within (words line))) (λ _. header_sound rest (n + 1))

after_header_sound : (world : WorldValue) (r : Result HeaderValue MailFault) → Holds IsHeaded r
    → Holds (IsReading world) (after_header world r)
after_header_sound world (Err fault) h = tt
after_header_sound world (Ok head) h =
    record { faction = h.0; entries = body_sound world head.rest head.next Nowhere no_alias tt; lines = body_rises world head.rest head.next 0 Nowhere no_alias h.1 }

reading_sound : (world : WorldValue) (text : List ℕ) → Holds (IsReading world) (reading world text)
unfolding reading
reading_sound world text =
    cond_both (nat_lt most_bytes (length text)) _ _ (Holds (IsReading world)) (λ _. tt)
    (λ _. after_header_sound world (header_from 1 (lines text)) (header_sound (lines text) 1))

-- whatever mailing a text gives is in bounds: its faction, its orders and its line numbers (`IsReading`)
pub readings_keep_bounds : ReadingsKeepBounds
readings_keep_bounds world text r e = subst (Holds (IsReading world)) e (reading_sound world text)
