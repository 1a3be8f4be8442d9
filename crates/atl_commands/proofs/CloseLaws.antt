-- Laws on closing a month: the mail is read, the reports are stored, the result is the campaign of `closed`, and the
-- marks have all changes.
-- `w` is the world, `n` a faction's number, and `text` its mailing. `ms` are mailings that the code read. `es` are
-- stored ones, each text with its faction's number. `faults` are the faulty lines of one mailing, or of each faction's.
-- `events` are those of the month. In the laws on marks `c` is the campaign before a call, and `d` after it.
use Rattle.std.proofs.Common.{◌≡◌, ◌≤◌, ℕ, Bool, true, false, cond, List, [], ◌∷◌, ◌++◌, map, length, Option, Some, None, option_map, Result, Ok, Err, refl, sym, ap, ap₂, ◌∙◌, subst, arith}
use Rattle.std.specs.Prelude.{All, OnOk, filter, fold, nat_lt, not, unwrap_or}
use Rattle.std.proofs.lemmas.Bool.Decides.{nat_tests}
use Rattle.std.proofs.lemmas.List.{append-nil, append_assoc, map-append}
use Rattle.std.proofs.lemmas.List.Elements.{All-push}
use Rattle.std.proofs.lemmas.Map.Keys.{IsDistinct-from_sorted}
use Rattle.std.specs.List.{AllByRecursion, IsDistinct, flat_map}
use Rattle.std.specs.Ordering.{nat_cmp, eq_by_cmp}
use Rattle.std.specs.FinMap.{FinMap, empty, entries, get, insert, same_entries_map}
use Rattle.atl_world.specs.Worlds.{WorldValue, IsWorld}
use Rattle.atl_world.specs.Sums.{map_values, numbers_among}
use Rattle.atl_world.proofs.MappedLaws.{entries-mapped, get-mapped, insert_last}
use Rattle.atl_world.proofs.Maps.{entries-empty}
use Rattle.atl_lines.specs.declared.fault.FaultyLine.{FaultyLine}
use Rattle.atl_words.specs.declared.mail_fault.MailFault.{MailFault}
use Rattle.atl_words.specs.declared.mail_fault.MailFault.TheVariants.{TooLong, NoHeader, BadHeader, Memory}
use Rattle.atl_orders.specs.declared.mailing.Mailing.{Mailing}
use Rattle.atl_words.specs.Limits.{most_bytes}
use Rattle.atl_words.specs.TextLines.{lines}
use Rattle.atl_orders.specs.Mailing.{IsReadWith, Reading, AgreesOrMemory, after_header, reading, reading_of}
use Rattle.atl_words.specs.Header.{IsMailingOf, header_from}
use Rattle.atl_records.specs.declared.event.Event.{Event}
use Rattle.atl_records.specs.declared.records.Faction.{Faction}
use Rattle.atl_campaign.specs.Covers.{MarksChanges}
use Rattle.atl_world.specs.Every.{EachEntry, HasValue}
use Rattle.atl_campaign.specs.Good.{IsGood}
use Rattle.atl_records.specs.Limits.{most_things}
use Rattle.atl_campaign.specs.Marking.{mark_all_mail, mark_campaign_row, mark_report}
use Rattle.atl_campaign.specs.Marks.{Marks}
use Rattle.atl_campaign.specs.Campaign.{CampaignValue, MarkedCampaign, active, with_month, without_mail}
use Rattle.atl_campaign.proofs.CoverLaws.{marks-trans}
use Rattle.atl_world.proofs.EveryLaws.{each-from_every, sorted}
use Rattle.atl_campaign.proofs.GoodLaws.{IsGood-with_report}
use Rattle.atl_campaign.proofs.PostLaws.{marks-month, marks-no_mail, marks-report}
use Rattle.atl_containers.proofs.SlotLaws.{keys_rise}
use Rattle.atl_phase.specs.Month.{HaveOwnFactions, by_faction}
use Rattle.atl_month.specs.Month.{after_month, month_of}
use Rattle.atl_report.specs.Report.{report_of}
use Rattle.atl_report.specs.Sight.{view_of}
use Rattle.atl_report.specs.Sites.{AreRegionLists}
use Rattle.atl_report.specs.declared.sites.RegionLists.{RegionLists}
use Rattle.atl_commands.specs.declared.closing.ReadMail.{ReadMail}
use Rattle.atl_commands.specs.declared.reporting.MonthResult.{MonthResult}
use Rattle.atl_commands.specs.Months.{AreFactions, HasRead, ReadSoFar, reported_to_all}
use Rattle.atl_commands.specs.Closing.{closed, faults_in, faults_of, read_of, readings, reported_to, reported_with, with_month_reports}

-- ---- each stored mailing can be read, and no two are of one faction

module _ (w : WorldValue) (n : ℕ) (text : List ℕ) where
  -- The text was read, and its header names the faction `n`.
  abbrev pub IsReadAsOf : Result Reading MailFault → Type 0
  IsReadAsOf read = (r : Reading) × (read ≡ Ok r) × (r.faction ≡ n)

  named : (next : ℕ) (rest : List (List ℕ))
      → header_from 1 (lines text) ≡ Ok (record { faction = n; next = next; rest = rest })
      → IsReadAsOf (after_header w (header_from 1 (lines text)))
  named next rest is = rw is (_, refl, refl)

  names_if_short : (long : Bool) → nat_lt most_bytes (length text) ≡ long → length text ≤ most_bytes
      → IsReadAsOf (after_header w (header_from 1 (lines text)))
      → IsReadAsOf (cond long (Err TooLong) (after_header w (header_from 1 (lines text))))
  names_if_short true is short names = absurd (grind (arith, nat_tests))
  names_if_short false is short names = names

  -- a stored mailing of faction `n` (`IsMailingOf`) can be read, and its header names this faction
  pub stored_mailing_is_read : IsMailingOf n text → IsReadAsOf (reading w text)
  unfolding reading
  stored_mailing_is_read sent =
      names_if_short (nat_lt most_bytes (length text)) refl sent.short
      (let (next, rest, is) = sent.header in named next rest is)

  -- reading a stored mailing gives no fault
  pub not_unread : (fault : MailFault) → IsMailingOf n text → reading w text ≡ Err fault → ⊥
  not_unread fault sent unread = let (r, is, own) = stored_mailing_is_read sent in apart r fault (sym is ∙ unread)
    where
      apart : (r : Reading) (fault : MailFault) → ◌≡◌ {A = Result Reading MailFault} (Ok r) (Err fault) → ⊥
      apart r fault is = cc

  -- if the code failed to read a stored mailing, memory ran out, since the definition reads it without a fault
  pub only_memory : (fault : MailFault) → IsMailingOf n text → AgreesOrMemory reading_of (Err fault) (reading w text)
      → fault ≡ Memory
  only_memory TooLong sent unread = absurd (not_unread TooLong sent unread)
  only_memory NoHeader sent unread = absurd (not_unread NoHeader sent unread)
  only_memory BadHeader sent unread = absurd (not_unread BadHeader sent unread)
  only_memory Memory sent unread = refl

module _ (w : WorldValue) where
  -- the readings of the mailings in the entries `es` of the mail, without those that can't be read
  abbrev texts_read : List (ℕ × List ℕ) → List Reading
  texts_read es = flat_map (λ e. read_of (reading w e.1)) es

  factions_read : (es : List (ℕ × List ℕ)) → EachEntry IsMailingOf es
      → map (λ r. r.faction) (texts_read es) ≡ map (λ e. e.0) es
  factions_read [] h = refl
  factions_read (e ∷ es) h =
      let (r, is, own) = stored_mailing_is_read w e.0 e.1 h.0 in
      ap (λ read. map (λ r. r.faction) (read_of read ++ texts_read es)) is
      ∙ ap₂ (λ n ns. n ∷ ns) own (factions_read es h.1)

factions_of : (ms : List Mailing) → map (λ r. r.faction) (map reading_of ms) ≡ map (λ m. m.faction) ms
factions_of [] = refl
factions_of (m ∷ ms) = ap (λ ns. m.faction ∷ ns) (factions_of ms)

sent_by : (w : WorldValue) (c : CampaignValue) → IsGood w c → EachEntry IsMailingOf (entries c.mail)
sent_by w c good = each-from_every IsMailingOf c.mail (λ n text there. (good.sound.mail n text there).0)

-- no two mailings are of one faction (`HaveOwnFactions`), if they were read from the mail of a good campaign
pub own_factions : (w : WorldValue) (c : CampaignValue) (ms : List Mailing) → IsGood w c
    → map reading_of ms ≡ readings w c → HaveOwnFactions ms
own_factions w c ms good is =
    let numbers = map (λ e. e.0) (entries c.mail) in
    let sent = sent_by w c good in
    let same : map (λ m. m.faction) ms ≡ numbers = sym (factions_of ms) ∙ ap (map (λ r. r.faction)) is ∙ factions_read w (entries c.mail) sent in
    subst (IsDistinct (eq_by_cmp nat_cmp)) (sym same) (IsDistinct-from_sorted nat_cmp numbers (keys_rise (entries c.mail) (sorted c.mail)))

-- ---- the faulty lines of each mailing

-- the faulty lines that the map of all faulty lines has under a faction's number are those of its stored mailing; both
-- are none if there is no mailing
pub faulty_lines_under : (w : WorldValue) (mail : FinMap nat_cmp (List ℕ)) (n : ℕ)
    → unwrap_or (get (map_values (λ text. faults_of (reading w text)) mail) n) [] ≡ faults_in w (get mail n)
faulty_lines_under w mail n =
    ap (λ o. unwrap_or o []) (get-mapped (λ text. faults_of (reading w text)) mail n) ∙ at (get mail n)
  where
    at : (o : Option (List ℕ)) → unwrap_or (option_map (λ text. faults_of (reading w text)) o) [] ≡ faults_in w o
    at None = refl
    at (Some text) = refl

-- ---- the reports

module _ (w : WorldValue) (events : List Event) where
  -- two functions f and g that give each faction the same faulty lines give the same reports for the factions `ns`
  pub same_reports : (f g : ℕ → List FaultyLine) → ((n : ℕ) → f n ≡ g n) → (c : CampaignValue) (ns : List ℕ)
      → fold (reported_to w f events) c ns ≡ fold (reported_to w g events) c ns
  same_reports f g same c [] = refl
  same_reports f g same c (n ∷ ns) =
      ap (λ faults. fold (reported_to w f events) (reported_with w c n faults events) ns) (same n)
      ∙ same_reports f g same (reported_to w g events c n) ns

  -- a good campaign stays good when reports for some of its factions (`ns`) are stored
  pub good_reports : (faults : ℕ → List FaultyLine) (c : CampaignValue) (ns : List ℕ) → AreFactions c ns → IsGood w c
      → IsGood w (fold (reported_to w faults events) c ns)
  good_reports faults c [] there good = good
  good_reports faults c (n ∷ ns) (here, there) good =
      good_reports faults (reported_to w faults events c n) ns there (IsGood-with_report w c n (report_of w (view_of w c n) (faults n) events) here good)

there_among : (P : ℕ → Type 0) (p : Faction → Bool) (es : List (ℕ × Faction)) → EachEntry (λ n f. P n) es
    → AllByRecursion P (numbers_among p es)
there_among P p [] all = tt
there_among P p (e ∷ es) (here, all) = at (p e.1) (there_among P p es all)
  where
    at : (b : Bool) → AllByRecursion P (numbers_among p es)
        → AllByRecursion P (map (λ x. x.0) (cond b (e ∷ filter (λ x. p x.1) es) (filter (λ x. p x.1) es)))
    at true rest = (here, rest)
    at false rest = rest

-- if no faction is lost from the campaign `before` to `after`, those that weren't gone in `before` are factions of
-- `after`
pub active_there : (before after : CampaignValue) → ((n : ℕ) → HasValue before.factions n → HasValue after.factions n)
    → AreFactions after (active before)
active_there before after stay =
    there_among (HasValue after.factions) (λ f. not f.gone) (entries before.factions)
    (each-from_every (λ n f. HasValue after.factions n) before.factions (λ n f is. stay n (f, is)))

-- ---- the month

-- Storing the reports after the month's phases, with the month counted and the mail removed, gives the campaign of
-- `closed`. The phases make `after` and `events` of `c`, its mail and the words of the dice (`words`); `faults` has
-- each stored mailing's faulty lines.
pub closed_is : (w : WorldValue) (c after : CampaignValue) (events : List Event) (words : List ℕ) (faults : FinMap nat_cmp (List FaultyLine))
    → (after, events) ≡ month_of w c (by_faction (readings w c)) words
    → faults ≡ map_values (λ text. faults_of (reading w text)) c.mail
    → fold (reported_to w (λ n. unwrap_or (get faults n) []) events) (after_month after) (active c) ≡ closed w c words
unfolding closed
closed_is w c after events words faults is wrong =
    same_reports w events (λ n. unwrap_or (get faults n) []) (λ n. faults_in w (get c.mail n)) (λ n. ap (λ m. unwrap_or (get m n) []) wrong ∙ faulty_lines_under w c.mail n) (after_month after) (active c)
    ∙ ap (with_month_reports w c) is

-- ---- the marks

-- no mark is lost from `c` to `d`, and all that changed is marked (`MarksChanges`), if this holds of the value and the
-- marks that `d` has
marked_as : (c d : MarkedCampaign) (what : CampaignValue) (marks : Marks) → d.value ≡ what → d.marks ≡ marks
    → MarksChanges c (record { value = what; marks = marks }) → MarksChanges c d
marked_as c d what marks is m h = subst (MarksChanges c) (sym (ap₂ (λ s n. record { value = s; marks = n }) is m)) h

-- setting the month to `n` and marking the campaign's row marks all that changed, and loses no mark (`MarksChanges`)
pub month_marked : (c d : MarkedCampaign) (n : ℕ) → d.value ≡ with_month c.value n → d.marks ≡ mark_campaign_row c
    → MarksChanges c d
month_marked c d n is m = marked_as c d (with_month c.value n) (mark_campaign_row c) is m (marks-month c n)

-- removing all mail and marking it marks all that changed, and loses no mark (`MarksChanges`)
pub mail_marked : (c d : MarkedCampaign) → d.value ≡ without_mail c.value → d.marks ≡ mark_all_mail c → MarksChanges c d
mail_marked c d is m = marked_as c d (without_mail c.value) (mark_all_mail c) is m (marks-no_mail c)

-- storing a faction's report and marking it marks all that changed, and loses no mark (`MarksChanges`)
pub report_marked : (w : WorldValue) (c d : MarkedCampaign) (n : ℕ) (faults : List FaultyLine) (events : List Event)
    → d.value ≡ reported_with w c.value n faults events → d.marks ≡ mark_report c n → MarksChanges c d
report_marked w c d n faults events is m =
    marked_as c d (reported_with w c.value n faults events) (mark_report c n) is m
    (marks-report c n (report_of w (view_of w c.value n) faults events))

-- No mark is lost from before a month (`a`) to after it (`d`), and all that changed is marked, if so in its phases (`a`
-- to `b`). Then the month is set to `n` and the campaign row marked (`c`), and the mail removed and marked (`d`).
pub turned_marked : (a b c d : MarkedCampaign) (n : ℕ) → MarksChanges a b → c.value ≡ with_month b.value n
    → c.marks ≡ mark_campaign_row b → d.value ≡ without_mail c.value → d.marks ≡ mark_all_mail c → MarksChanges a d
turned_marked a b c d n run is m taken t =
    marks-trans a b d run (marks-trans b c d (month_marked b c n is m) (mail_marked c d taken t))

-- if a call with the result `r` stores a faction's report and marks it where `r` is Ok, it then has marked all that
-- changed and lost no mark (`MarksChanges`)
pub stored_marked : {A E : Type 0} (w : WorldValue) (c d : MarkedCampaign) (n : ℕ) (faults : List FaultyLine) (events : List Event) (r : Result A E)
    → OnOk r (d.value ≡ reported_with w c.value n faults events) → OnOk r (d.marks ≡ mark_report c n)
    → OnOk r (MarksChanges c d)
stored_marked w c d n faults events (Ok a) is m = report_marked w c d n faults events is m
stored_marked w c d n faults events (Err e) is m = tt

-- ---- the mail, read one mailing after another

abbrev faulty_lines_in : WorldValue → List (ℕ × List ℕ) → List (ℕ × List FaultyLine)
faulty_lines_in w es = map (λ e. (e.0, faults_of (reading w e.1))) es

abbrev faulty_lines_of_mail : WorldValue → CampaignValue → FinMap nat_cmp (List FaultyLine)
faulty_lines_of_mail w c = map_values (λ text. faults_of (reading w text)) c.mail

-- before the first mailing of a good campaign is read, what was read (nothing) and what is left (`all`) make the whole
-- mail (`ReadSoFar`)
pub read_begins : (w : WorldValue) (c : CampaignValue) (ms : List Mailing) (faults : FinMap nat_cmp (List FaultyLine)) (all : List (ℕ × List ℕ))
    → IsGood w c → all ≡ entries c.mail → ms ≡ [] → faults ≡ empty → ReadSoFar w c ms faults all
read_begins w c ms faults all good is none none_wrong =
    rw (is, none, none_wrong) (
      refl,
      λ k d h. absurd (omega arith),
      ap (λ es. es ++ faulty_lines_in w (entries c.mail)) (entries-empty {X = List FaultyLine}) ∙ sym (entries-mapped (λ text. faults_of (reading w text)) c.mail),
      sent_by w c good,
    )

-- after one more mailing of the mail is read, the first of those left (`here`), what was read and what is left (`rest`)
-- still make the whole mail (`ReadSoFar`). The mailing is `text` of faction `n`, and was read as `m`. With it `ms` and
-- `faults` become `ns` and `faults'`.
pub read_goes_on : (w : WorldValue) (c : CampaignValue) (ms ns : List Mailing) (faults faults' : FinMap nat_cmp (List FaultyLine)) (here rest : List (ℕ × List ℕ)) (n : ℕ) (text : List ℕ) (m : Mailing)
    → here ≡ (n, text) ∷ rest → ns ≡ ms ++ m ∷ [] → IsReadWith w m → m.text ≡ text
    → faults' ≡ insert faults n m.faults → ReadSoFar w c ms faults here → ReadSoFar w c ns faults' rest
read_goes_on w c ms ns faults faults' here rest n text m left one_more read kept put (mailings, all, outcome, sent) =
    let is : reading w text ≡ Ok (reading_of m) = ap (reading w) (sym kept) ∙ read in
    let of_all = subst (λ es. map reading_of ms ++ texts_read w es ≡ readings w c) left mailings in
    let says_of_all = subst (λ es. entries faults ++ faulty_lines_in w es ≡ entries (faulty_lines_of_mail w c)) left outcome in
    let first : faults_of (reading w text) ≡ m.faults = ap faults_of is in
    let says_now = subst (λ fs. entries faults ++ (n, fs) ∷ faulty_lines_in w rest ≡ entries (faulty_lines_of_mail w c)) first says_of_all in (
      ap (λ xs. map reading_of xs ++ texts_read w rest) one_more
          ∙ ap (λ xs. xs ++ texts_read w rest) (map-append reading_of ms (m ∷ []))
          ∙ append_assoc (map reading_of ms) (reading_of m ∷ []) (texts_read w rest) ∙ ap (λ rs. map reading_of ms ++ (read_of rs ++ texts_read w rest)) (sym is) ∙ of_all,
      subst (All (IsReadWith w)) (sym one_more) (All-push (IsReadWith w) ms m all read),
      ap (λ fs. entries fs ++ faulty_lines_in w rest) put
          ∙ ap (λ es. es ++ faulty_lines_in w rest) (insert_last faults (faulty_lines_of_mail w c) n m.faults (faulty_lines_in w rest) says_now)
          ∙ append_assoc (entries faults) ((n, m.faults) ∷ []) (faulty_lines_in w rest) ∙ says_now,
      (subst (EachEntry IsMailingOf) left sent).1,
    )

-- when what was read (`r`) and what is left (`rest`) make the whole mail, and nothing is left, all is read (`HasRead`)
pub read_ends : (w : WorldValue) (c : CampaignValue) (r : ReadMail) (rest : List (ℕ × List ℕ)) → rest ≡ []
    → ReadSoFar w c r.mailings.items r.faults rest → HasRead w c r
read_ends w c r rest none (mailings, all, outcome, sent) = record {
  readings_are = sym (append-nil (map reading_of r.mailings.items)) ∙ subst (λ es. map reading_of r.mailings.items ++ texts_read w es ≡ readings w c) none mailings;
  read = all;
  faults = same_entries_map r.faults (faulty_lines_of_mail w c) (sym (append-nil (entries r.faults)) ∙ subst (λ es. entries r.faults ++ faulty_lines_in w es ≡ entries (faulty_lines_of_mail w c)) none outcome);
}

-- lists of the structures and the units by region are still right (`AreRegionLists`) after a report is stored
pub lists_stay : (w : WorldValue) (faults : ℕ → List FaultyLine) (events : List Event) (c d : CampaignValue) (n : ℕ)
    → d ≡ reported_to w faults events c n → (lists : RegionLists) → AreRegionLists w c lists → AreRegionLists w d lists
lists_stay w faults events c d n is lists listed =
    subst (λ (s : CampaignValue). AreRegionLists w s lists) (sym is) (record { sites = listed.sites; levels = listed.levels })

-- ---- what the store requires, and what is written

-- the books of a good campaign of a valid world have at most as many things as the store can write (`most_things`)
pub few_things : (w : WorldValue) (c : CampaignValue) → IsWorld w → IsGood w c → c.books.things ≤ most_things
few_things w c world good = omega (arith, good.sound.steady.numbers.books.count, world.few_items)

-- Let storing the reports of a month's result (`outcome`), for factions of the good campaign `turned`, make the
-- campaign of `closed`. Then the campaign after storing them is that of `closed`, and good. `turned` is the campaign
-- before the first report, with the month counted and the mail removed.
pub closed_after_reports : (w : WorldValue) (c turned after : CampaignValue) (words : List ℕ) (outcome : MonthResult)
    → reported_to_all w turned outcome ≡ closed w c words → after ≡ reported_to_all w turned outcome
    → AreFactions turned outcome.factions.items → IsGood w turned → (after ≡ closed w c words) × IsGood w after
closed_after_reports w c turned after words outcome whole is there good =
    (is ∙ whole, subst (IsGood w) (sym is) (good_reports w outcome.events.items (λ n. unwrap_or (get outcome.faults n) []) turned outcome.factions.items there good))
