-- A header is a line whose first word is `#ATLANTIS`, in any case (`begins`). The first one names a mailing's faction.
-- See docs/RULES.md, "Reading a mailing".
use Rattle.std.specs.Prelude.{◌≡◌, ◌≤◌, ℕ, ◌+◌, List, [], ◌∷◌, length, codes, Option, Some, None, Result, Ok, Err, if◌then◌else◌}
use Rattle.atl_words.specs.Limits.{last_faction, most_bytes}
use Rattle.atl_words.specs.declared.mail_fault.MailFault.{MailFault}
use Rattle.atl_words.specs.declared.mail_fault.MailFault.TheVariants.{NoHeader, BadHeader}
use Rattle.atl_words.specs.Words.{WordText, words, begins, number_of, not_zero}
use Rattle.atl_words.specs.TextLines.{lines}

-- the faction's number, from 1 to 9,999, that is the second word of a header; None if it has no such word
abbrev pub faction_of : List WordText → Option ℕ
faction_of [] = None
faction_of (w ∷ []) = None
faction_of (w ∷ v ∷ ws) = not_zero (number_of last_faction v.bytes)

-- what a header gives: its faction's number, and the lines after it, of which the first has the number `next`
pub record HeaderValue : Type 0 where
  pub faction : ℕ
  pub next : ℕ
  pub rest : List (List ℕ)

-- what the header at line n gives: its faction, and `rest`, the lines after it; BadHeader if it names no faction (None)
abbrev pub header_line : ℕ → List (List ℕ) → Option ℕ → Result HeaderValue MailFault
header_line n rest None = Err BadHeader
header_line n rest (Some faction) = Ok (record { faction = faction; next = n + 1; rest = rest })

-- What the first header in a list of lines gives, BadHeader if it names no faction, and NoHeader without a header. The
-- first line has the number n.
unfoldable pub header_from : ℕ → List (List ℕ) → Result HeaderValue MailFault
header_from n [] = Err NoHeader
header_from n (line ∷ rest) =
    if begins (codes "#ATLANTIS") (words line) then header_line n rest (faction_of (words line))
    else header_from (n + 1) rest

-- a text is a mailing of a faction: it has at most 65,536 bytes, and its first header names the faction
pub record IsMailingOf (faction : ℕ) (text : List ℕ) : Type 0 where
  pub short : length text ≤ most_bytes
  pub header :
      (next : ℕ) × (rest : List (List ℕ))
      × (header_from 1 (lines text) ≡ Ok (record { faction = faction; next = next; rest = rest }))
