-- Laws on sorting events by faction: each list has the faction's own events, and a report needs only these.
-- `events` or `es` are events of a month in their order. `sorted` has, under each faction's number, its events that are
-- sorted so far, and `new` has one event more. `n` is a faction's number.
use Rattle.std.proofs.Common.{Result, Ok, Err, ◌≡◌, ◌==◌, ◌++◌, ◌+◌, ◌<◌, ℕ, Bool, true, false, cond, List, [], ◌∷◌, Option, Some, unwrap_or, refl, sym, ap, ◌∙◌, length, get_or, drop}
use Rattle.std.specs.Prelude.{OnOk}
use Rattle.std.specs.Ordering.{nat_cmp}
use Rattle.std.specs.Cmp.{nat_cmp_total}
use Rattle.std.specs.FinMap.{FinMap, get, get-insert, get-empty, empty}
use Rattle.std.proofs.lemmas.List.{append_assoc, drop_more}
use Rattle.atl_world.specs.Worlds.{WorldValue}
use Rattle.atl_world.proofs.GeneralLaws.{key_equality_is_symmetric, is_equal}
use Rattle.atl_lines.specs.declared.fault.FaultyLine.{FaultyLine}
use Rattle.atl_records.specs.declared.event.Event.{Event}
use Rattle.atl_campaign.specs.Campaign.{CampaignValue, with_report}
use Rattle.atl_sight.specs.Events.{own_events}
use Rattle.atl_report.proofs.EventLaws.{only_what_is_seen_is_reported}
use Rattle.atl_commands.specs.Closing.{reported_with}
use Rattle.atl_commands.specs.Sorting.{events_of, with_event}

-- a faction's sorted events, and then its unsorted ones, stay the same list when the first unsorted event, if it is the
-- faction's (`b`), is moved to the end of the sorted ones
by_faction : (b : Bool) (o : Option (List Event)) (listed rest : List Event) (e : Event)
    → (b ≡ true → listed ≡ unwrap_or o [])
    → unwrap_or (cond b (Some (listed ++ (e ∷ []))) o) [] ++ rest ≡ unwrap_or o [] ++ cond b (e ∷ rest) rest
by_faction true o listed rest e h =
    ap (λ l. (l ++ (e ∷ [])) ++ rest) (h refl) ∙ append_assoc (unwrap_or o []) (e ∷ []) rest
by_faction false o listed rest e h = refl

same_list : (sorted : FinMap nat_cmp (List Event)) (q r : ℕ) → (r == q) ≡ true → events_of sorted r ≡ events_of sorted q
same_list sorted q r h = ap (events_of sorted) (is_equal r q h)

event_goes_on : (sorted : FinMap nat_cmp (List Event)) (e : Event) (es : List Event) (n : ℕ)
    → events_of (with_event sorted e) n ++ own_events n es ≡ events_of sorted n ++ own_events n (e ∷ es)
event_goes_on sorted e es n =
    ap (λ o. unwrap_or o [] ++ own_events n es) (get-insert nat_cmp_total sorted e.faction (events_of sorted e.faction ++ (e ∷ [])) n)
    ∙ ap (λ b. unwrap_or (cond b (Some (events_of sorted e.faction ++ (e ∷ []))) (get sorted n)) [] ++ own_events n es) (key_equality_is_symmetric n e.faction)
    ∙ by_faction (e.faction == n) (get sorted n) (events_of sorted e.faction) (own_events n es) e (same_list sorted n e.faction)

-- the list of faction `n` followed by this faction's unsorted events stays the same when event `i` is added to the list
-- of its own faction. This list is `whole`; before that the events from event `i` on are unsorted. `d` is any event.
pub sorted_on : (sorted new : FinMap nat_cmp (List Event)) (events : List Event) (i : ℕ) (d : Event) (whole : List Event) (n : ℕ)
    → i < length events → new ≡ with_event sorted (get_or events i d)
    → events_of sorted n ++ own_events n (drop i events) ≡ whole
    → events_of new n ++ own_events n (drop (i + 1) events) ≡ whole
sorted_on sorted new events i d whole n h is so_far =
    ap (λ (m : FinMap nat_cmp (List Event)). events_of m n ++ own_events n (drop (i + 1) events)) is
    ∙ event_goes_on sorted (get_or events i d) (drop (i + 1) events) n
    ∙ ap (λ es. events_of sorted n ++ own_events n es) (sym (drop_more events i d h))
    ∙ so_far

-- before any event is sorted, no faction has one in the map m
pub none_sorted : (m : FinMap nat_cmp (List Event)) → m ≡ empty → (n : ℕ) → events_of m n ≡ []
none_sorted m h n =
    ap (λ (m : FinMap nat_cmp (List Event)). events_of m n) h ∙ ap (λ o. unwrap_or o []) (get-empty nat_cmp n)

-- of a faction's own events all are its own: to choose them again changes nothing
pub own_again : (n : ℕ) (events : List Event) → own_events n (own_events n events) ≡ own_events n events
own_again n [] = refl
own_again n (e ∷ es) = by_test (e.faction == n) refl (own_again n es)
  where
    by_test : (b : Bool) → (e.faction == n) ≡ b → own_events n (own_events n es) ≡ own_events n es
        → own_events n (cond b (e ∷ own_events n es) (own_events n es)) ≡ cond b (e ∷ own_events n es) (own_events n es)
    by_test true is rest =
        ap (λ t. cond t (e ∷ own_events n (own_events n es)) (own_events n (own_events n es))) is
        ∙ ap (λ (more : List Event). e ∷ more) rest
    by_test false is rest = rest

-- a report of faction `n` made from its own events is the one made from all events: where a call answers Ok (r) and
-- stores the first, campaign `d` is `c` with the second. `own` are its own events, and `lines` are equal to `faults`,
-- the faulty lines of its mailing.
pub stored_own : {A E : Type 0} (w : WorldValue) (c d : CampaignValue) (n : ℕ) (faults lines : List FaultyLine) (events own : List Event) (r : Result A E)
    → lines ≡ faults → own ≡ own_events n events → OnOk r (d ≡ reported_with w c n lines own)
    → OnOk r (d ≡ reported_with w c n faults events)
stored_own w c d n faults lines events own (Err e) wrong mine is = tt
stored_own w c d n faults lines events own (Ok a) wrong mine is =
    is ∙ ap (λ fs. reported_with w c n fs own) wrong
    ∙ ap (λ text. with_report c n text) (only_what_is_seen_is_reported w c c n faults own events refl (ap (own_events n) mine ∙ own_again n events))
