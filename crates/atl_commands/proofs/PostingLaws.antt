-- Laws on stored mailings: only the last one of each faction counts for closing a month (`OnlyTheLastMailCounts`).
-- `w` is the world, `c` the campaign before the commands, and `n` or `faction` a faction's number. `sent` and `others`
-- are two lists of commands, and `mail` has the stored mailing of each faction. `who` is the faction that a lookup
-- gave, or why it gave none.
use Rattle.std.proofs.Common.{◌≡◌, ◌==◌, ℕ, Bool, true, false, cond, not, List, [], ◌∷◌, Option, Some, None, Result, Ok, Err, refl, sym, ap, ◌∙◌}
use Rattle.std.specs.Option.{option_or}
use Rattle.std.specs.Ordering.{nat_cmp}
use Rattle.std.specs.Cmp.{nat_cmp_total}
use Rattle.std.specs.FinMap.{FinMap, get, insert, get-insert, same_map, nat_cmp-IsAntisymmetric}
use Rattle.atl_world.specs.Worlds.{WorldValue}
use Rattle.atl_words.specs.declared.mail_fault.MailFault.{MailFault}
use Rattle.atl_words.specs.declared.mail_fault.MailFault.TheVariants.{TooLong, NoHeader, BadHeader, Memory}
use Rattle.atl_orders.specs.Mailing.{Reading, reading}
use Rattle.atl_records.specs.declared.records.Faction.{Faction}
use Rattle.atl_campaign.specs.Campaign.{CampaignValue, with_mail}
use Rattle.atl_commands.specs.declared.command.Command.{Command}
use Rattle.atl_commands.specs.declared.command.Command.TheVariants.{Join, Mail, Close, Report}
use Rattle.atl_commands.specs.declared.command.Answer.{Answer}
use Rattle.atl_commands.specs.declared.command.Answer.TheVariants.{Refused}
use Rattle.atl_commands.specs.declared.command.Refusal.{Refusal}
use Rattle.atl_commands.specs.declared.command.Refusal.TheVariants as why
use Rattle.atl_commands.specs.Step.{faction_with_pass, mailed, mailed_by, run_of, step}
use Rattle.atl_commands.specs.Posting.{AreMailed, IsMailed, OnlyTheLastMailCounts, last_text}
use Rattle.atl_world.proofs.GeneralLaws.{key_equality_is_symmetric}

-- ---- one mailing that is answered Mailed is stored

module _ (c : CampaignValue) (faction : ℕ) (text : List ℕ) where
  -- If the answer is Mailed, the new campaign is `c` with this text as the faction's mail.
  abbrev StoresIfMailed : CampaignValue × Answer → Type 0
  StoresIfMailed made = IsMailed made.1 → made.0 ≡ with_mail c faction text

  kept_own : (other : Bool) (done : CampaignValue × Answer) → StoresIfMailed done
      → StoresIfMailed (cond other (c, Refused why.WrongFaction) done)
  kept_own true done keeps taken = absurd taken
  kept_own false done keeps taken = keeps taken

  kept_read : (read : Result Reading MailFault) → StoresIfMailed (mailed c faction text read)
  kept_read (Ok r) taken = kept_own (not (r.faction == faction)) _ (λ _. refl) taken
  kept_read (Err TooLong) taken = absurd taken
  kept_read (Err NoHeader) taken = absurd taken
  kept_read (Err BadHeader) taken = absurd taken
  kept_read (Err Memory) taken = absurd taken

  kept_here : (gone : Bool) (done : CampaignValue × Answer) → StoresIfMailed done
      → StoresIfMailed (cond gone (c, Refused why.Gone) done)
  kept_here true done keeps taken = absurd taken
  kept_here false done keeps taken = keeps taken

  kept_by : (w : WorldValue) (who : Result Faction Refusal) → StoresIfMailed (mailed_by w c faction text who)
  kept_by w (Err refusal) taken = absurd taken
  kept_by w (Ok f) taken = kept_here f.gone (mailed c faction text (reading w text)) (kept_read (reading w text)) taken

  mailed_text_is_stored : (w : WorldValue) (pass : List ℕ) → StoresIfMailed (step w c (Mail faction pass text))
  unfolding step
  mailed_text_is_stored w pass = kept_by w (faction_with_pass pass (get c.factions faction))

-- ---- the mail after a list of mailings

-- the mail after these commands, if all their mailings are stored
abbrev mail_after : FinMap nat_cmp (List ℕ) → List Command → FinMap nat_cmp (List ℕ)
mail_after mail [] = mail
mail_after mail (Join _ _ _ ∷ more) = mail_after mail more
mail_after mail (Mail faction _ text ∷ more) = mail_after (insert mail faction text) more
mail_after mail (Close _ _ _ ∷ more) = mail_after mail more
mail_after mail (Report _ _ ∷ more) = mail_after mail more

-- after a list of mailings that are all stored, the campaign differs from the one before in its mail alone
run_posts : (w : WorldValue) (c : CampaignValue) (sent : List Command) → AreMailed w c sent
    → (run_of w c sent).0 ≡ record c { mail = mail_after c.mail sent }
run_posts w c [] all = refl
run_posts w c (Join _ _ _ ∷ more) all = absurd all
run_posts w c (Mail faction pass text ∷ more) all =
    run_posts w (step w c (Mail faction pass text)).0 more all.1 ∙ ap (λ (d : CampaignValue). record d { mail = mail_after d.mail more }) (mailed_text_is_stored c faction text w pass all.0)
run_posts w c (Close _ _ _ ∷ more) all = absurd all
run_posts w c (Report _ _ ∷ more) all = absurd all

-- a faction's mail after a list of stored mailings is its last text in the list, or its earlier mail if the list has
-- none
get_posted : (mail : FinMap nat_cmp (List ℕ)) (sent : List Command) (n : ℕ)
    → get (mail_after mail sent) n ≡ last_text n (get mail n) sent
get_posted mail [] n = refl
get_posted mail (Join _ _ _ ∷ more) n = get_posted mail more n
get_posted mail (Mail faction pass text ∷ more) n =
    get_posted (insert mail faction text) more n
    ∙ ap (λ o. last_text n o more) (get-insert nat_cmp_total mail faction text n ∙ ap (λ b. cond b (Some text) (get mail n)) (key_equality_is_symmetric n faction))
get_posted mail (Close _ _ _ ∷ more) n = get_posted mail more n
get_posted mail (Report _ _ ∷ more) n = get_posted mail more n

-- a faction's last text with the default "`before`, or else `other`" is its last text with the default `before`, or
-- else `other`
last_or : (n : ℕ) (before other : Option (List ℕ)) (sent : List Command)
    → last_text n (option_or before other) sent ≡ option_or (last_text n before sent) other
last_or n before other [] = refl
last_or n before other (Join _ _ _ ∷ more) = last_or n before other more
last_or n before other (Mail faction pass text ∷ more) =
    ap (λ o. last_text n o more) (inside (faction == n)) ∙ last_or n (cond (faction == n) (Some text) before) other more
  where
    inside : (b : Bool) → cond b (Some text) (option_or before other) ≡ option_or (cond b (Some text) before) other
    inside true = refl
    inside false = refl
last_or n before other (Close _ _ _ ∷ more) = last_or n before other more
last_or n before other (Report _ _ ∷ more) = last_or n before other more

-- Two lists of commands with the same last text of each faction leave the same mail (`mail_after`) from the same mail
-- before.
same_mail : (mail : FinMap nat_cmp (List ℕ)) (sent others : List Command)
    → ((n : ℕ) → last_text n None sent ≡ last_text n None others) → mail_after mail sent ≡ mail_after mail others
same_mail mail sent others same = same_map nat_cmp_total nat_cmp-IsAntisymmetric (mail_after mail sent) (mail_after mail others) (λ n.
    get_posted mail sent n ∙ last_or n None (get mail n) sent ∙ ap (λ o. option_or o (get mail n)) (same n) ∙ sym (get_posted mail others n ∙ last_or n None (get mail n) others))

-- for closing a month only the last stored mailing of each faction counts (`OnlyTheLastMailCounts`)
pub only_the_last_mail_counts : OnlyTheLastMailCounts
only_the_last_mail_counts w c sent others month pass words all all_others same =
    ap (λ d. step w d (Close month pass words)) (run_posts w c sent all ∙ ap (λ mail. record c { mail = mail }) (same_mail c.mail sent others same) ∙ sym (run_posts w c others all_others))
