-- The function `reading` gives for a whole text what the rules allow, and the rules allow nothing else. `header` is the
-- first header of the lines, `above` are the lines above it and `below` those below it, and n is the number of the
-- first line.
use Rattle.std.proofs.Common.{◌≡◌, ℕ, suc, ◌+◌, ◌<◌, ◌≤◌, ◌++◌, Bool, true, false, cond, List, [], ◌∷◌, length, Option, Some, None, Result, Err, nat_lt, refl, sym, ap, ◌∙◌, arith}
use Rattle.std.proofs.lemmas.Bool.{cond_both}
use Rattle.std.proofs.lemmas.Bool.Decides.{nat_tests}
use Rattle.std.proofs.lemmas.List.Elements.{All-nil, All-cons, All-head, All-tail}
use Rattle.std.proofs.Math.Nat.{zero-add}
use Rattle.atl_world.specs.Worlds.{WorldValue}
use Rattle.atl_words.specs.declared.mail_fault.MailFault.{MailFault}
use Rattle.atl_words.specs.declared.mail_fault.MailFault.TheVariants.{NoHeader}
use Rattle.atl_lines.specs.declared.reading.ReaderState.TheVariants.{Nowhere}
use Rattle.atl_words.specs.Limits.{most_bytes}
use Rattle.atl_lines.specs.Aliasing.{no_alias}
use Rattle.atl_words.specs.TextLines.{lines}
use Rattle.atl_words.specs.Words.{words}
use Rattle.atl_orders.specs.Mailing.{Reading, after_header, reading}
use Rattle.atl_words.specs.Header.{faction_of, header_line, header_from}
use Rattle.atl_orders.specs.Rules.{is_header, HaveNoHeader, HaveHeader, TextSays, too_long, no_header, bad_header, mailing}
use Rattle.atl_orders.proofs.RuleLaws.{body_fits, body_only}

abbrev IsNoHeader : List ℕ → Type 0
IsNoHeader line = is_header line ≡ false

-- ---- the first header of lines

-- lines from the number n on have no header, and `header_from` gives NoHeader; or they have a first header, and
-- `header_from` gives what this header gives
data HasHeaderOrNone (n : ℕ) (all : List (List ℕ)) : Type 0 where
  none : HaveNoHeader all → header_from n all ≡ Err NoHeader → HasHeaderOrNone n all
  one : (above : List (List ℕ)) (header : List ℕ) (below : List (List ℕ)) → HaveHeader all above header below
      → header_from n all ≡ header_line (length above + n) below (faction_of (words header)) → HasHeaderOrNone n all

-- k lines after line n + 1 is k + 1 lines after line n
lines_after_next : (n k : ℕ) → k + (n + 1) ≡ suc k + n
lines_after_next n k = omega arith

with_line_above : (n : ℕ) (line : List ℕ) (rest : List (List ℕ)) → IsNoHeader line
    → header_from n (line ∷ rest) ≡ header_from (n + 1) rest → HasHeaderOrNone (n + 1) rest
    → HasHeaderOrNone n (line ∷ rest)
with_line_above n line rest h e (none a f) = none (All-cons IsNoHeader line rest h a) (e ∙ f)
with_line_above n line rest h e (one above header below is f) =
    one (line ∷ above) header below (record { whole = ap (λ l. line ∷ l) is.whole; leads = is.leads; first = All-cons IsNoHeader line above h is.first })
    (e ∙ f ∙ ap (λ k. header_line k below (faction_of (words header))) (lines_after_next n (length above)))

with_first_line : (t : Bool) (n : ℕ) (line : List ℕ) (rest : List (List ℕ)) → is_header line ≡ t
    → header_from n (line ∷ rest) ≡ cond t (header_line n rest (faction_of (words line))) (header_from (n + 1) rest)
    → HasHeaderOrNone (n + 1) rest → HasHeaderOrNone n (line ∷ rest)
with_first_line true n line rest h e f =
    one [] line rest (record { whole = refl; leads = h; first = All-nil IsNoHeader })
    (e ∙ ap (λ k. header_line k rest (faction_of (words line))) (sym (zero-add n)))
with_first_line false n line rest h e f = with_line_above n line rest h e f

has_header_or_none : (n : ℕ) (all : List (List ℕ)) → HasHeaderOrNone n all
unfolding header_from
has_header_or_none n [] = none (All-nil IsNoHeader) refl
has_header_or_none n (line ∷ rest) =
    with_first_line (is_header line) n line rest refl refl (has_header_or_none (n + 1) rest)

no_header_found : (n : ℕ) (all : List (List ℕ)) → HaveNoHeader all → header_from n all ≡ Err NoHeader
unfolding header_from
no_header_found n [] a = refl
no_header_found n (line ∷ rest) a =
    rw (All-head IsNoHeader line rest a) (no_header_found (n + 1) rest (All-tail IsNoHeader line rest a))

first_one : (n : ℕ) (above : List (List ℕ)) (header : List ℕ) (below : List (List ℕ)) → HaveNoHeader above
    → is_header header ≡ true
    → header_from n (above ++ header ∷ below) ≡ header_line (length above + n) below (faction_of (words header))
unfolding header_from
first_one n [] header below a h = rw h (ap (λ k. header_line k below (faction_of (words header))) (sym (zero-add n)))
first_one n (line ∷ above) header below a h =
    rw (All-head IsNoHeader line above a)
    (first_one (n + 1) above header below (All-tail IsNoHeader line above a) h ∙ ap (λ k. header_line k below (faction_of (words header))) (lines_after_next n (length above)))

-- ---- a whole text

-- the line after a header with k lines above it has the number k + 2
line_after_header : (k : ℕ) → k + 1 + 1 ≡ k + 2
line_after_header k = omega arith

module _ (world : WorldValue) (text : List ℕ) where
  headed_fits : (o : Option ℕ) → length text ≤ most_bytes
      → (above : List (List ℕ)) (header : List ℕ) (below : List (List ℕ)) → HaveHeader (lines text) above header below
      → faction_of (words header) ≡ o
      → TextSays world text (after_header world (header_line (length above + 1) below o))
  headed_fits None s above header below is f = bad_header s above header below is f refl
  headed_fits (Some faction) s above header below is f =
      rw (line_after_header (length above)) (mailing s above header below is faction f _ _ (body_fits world (length above + 2) Nowhere no_alias below) refl)

  found_fits : length text ≤ most_bytes → HasHeaderOrNone 1 (lines text)
      → TextSays world text (after_header world (header_from 1 (lines text)))
  found_fits s (none a e) = rw e (no_header s a refl)
  found_fits s (one above header below is e) =
      rw e (headed_fits (faction_of (words header)) s above header below is refl)

  -- the rules (`TextSays`) allow the result that the function `reading` gives for a text
  pub text_fits : TextSays world text (reading world text)
  unfolding reading
  text_fits =
      cond_both (nat_lt most_bytes (length text)) _ _ (TextSays world text)
      (λ h. too_long (grind (arith, nat_tests)) refl)
      (λ h. found_fits (grind (arith, nat_tests)) (has_header_or_none 1 (lines text)))

  long_is : most_bytes < length text → nat_lt most_bytes (length text) ≡ true
  long_is h = grind (arith, nat_tests)

  short_is : length text ≤ most_bytes → nat_lt most_bytes (length text) ≡ false
  short_is h = grind (arith, nat_tests)

  first_is : (above : List (List ℕ)) (header : List ℕ) (below : List (List ℕ))
      → HaveHeader (lines text) above header below
      → header_from 1 (lines text) ≡ header_line (length above + 1) below (faction_of (words header))
  first_is above header below is = ap (header_from 1) is.whole ∙ first_one 1 above header below is.first is.leads

  -- a result that the rules (`TextSays`) allow for a text is the one that the function `reading` gives
  pub text_only : (read : Result Reading MailFault) → TextSays world text read → read ≡ reading world text
  unfolding reading
  text_only read (too_long h e) = rw (long_is h) e
  text_only read (no_header s a e) = rw (short_is s, no_header_found 1 (lines text) a) e
  text_only read (bad_header s above header below is f e) = rw (short_is s, first_is above header below is, f) e
  text_only read (mailing s above header below is faction f entries faults b e) =
      let only = body_only world b in
      rw (short_is s, first_is above header below is, f, line_after_header (length above)) (e ∙ rw (only.0, only.1) refl)
