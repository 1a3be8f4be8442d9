-- A text that is read as a mailing is one of the faction that its header names.
use Rattle.std.proofs.Common.{◌≡◌, ◌≤◌, List, ℕ, length, Result, Ok, Err, nat_lt, refl, ap, ◌∙◌, arith}
use Rattle.std.proofs.lemmas.Bool.{cond_both}
use Rattle.std.proofs.lemmas.Bool.Decides.{nat_tests}
use Rattle.atl_words.specs.Limits.{most_bytes}
use Rattle.atl_world.specs.Worlds.{WorldValue}
use Rattle.atl_words.specs.declared.mail_fault.MailFault.{MailFault}
use Rattle.atl_words.specs.TextLines.{lines}
use Rattle.atl_orders.specs.Mailing.{Reading, after_header, reading}
use Rattle.atl_words.specs.Header.{HeaderValue, header_from, IsMailingOf}

one_reading : (a b : Reading) → ◌≡◌ {A = Result Reading MailFault} (Ok a) (Ok b) → a ≡ b
one_reading a b e = cc

-- r is the mailing that the text is read as
module _ (world : WorldValue) (text : List ℕ) (r : Reading) where
  sent : (header_value : Result HeaderValue MailFault) → header_from 1 (lines text) ≡ header_value
      → length text ≤ most_bytes → after_header world header_value ≡ Ok r → IsMailingOf r.faction text
  sent (Ok h) is short e =
      record { short = short; header = (h.next, h.rest, is ∙ ap (λ n. Ok (record { faction = n; next = h.next; rest = h.rest })) (ap (λ (x : Reading). x.faction) (one_reading _ r e))) }
  sent (Err fault) is short e = cc

  pub read_is_mailing : reading world text ≡ Ok r → IsMailingOf r.faction text
  unfolding reading
  read_is_mailing e =
      cond_both (nat_lt most_bytes (length text)) _ _
      (λ (x : Result Reading MailFault). x ≡ Ok r → IsMailingOf r.faction text) (λ _ long. cc)
      (λ is fits. sent (header_from 1 (lines text)) refl (grind (arith, nat_tests)) fits) e
