-- Laws of a report's lines after `Orders:`: when they are `None.`, and else which lines they are.
-- `faults` are the faulty lines of the faction's mailing, and `events` is a list of events of any factions.
use Rattle.std.proofs.Common.{◌≡◌, ◌==◌, ◌++◌, ℕ, Bool, true, false, cond, ◌||◌, ◌&&◌, not, List, [], ◌∷◌, length, refl, sym, ap, ◌∙◌, arith}
use Rattle.std.specs.Prelude.{codes, filter}
use Rattle.std.specs.List.{list_any}
use Rattle.std.proofs.lemmas.Bool.{false≢true}
use Rattle.std.proofs.lemmas.Bool.Decides.{nat_tests}
use Rattle.atl_lines.specs.declared.fault.FaultyLine.{FaultyLine}
use Rattle.atl_records.specs.declared.event.Event.{Event}
use Rattle.atl_sight.specs.Events.{faulty_lines, event_lines, own_events, results_text}

none_passes : (p : Event → Bool) (es : List Event) → list_any p es ≡ false → results_text [] (filter p es) ≡ codes "None.\n"
none_passes p [] h = refl
none_passes p (e ∷ es) h = by_test (p e) h (none_passes p es)
  where
    by_test : (t : Bool) → (t || list_any p es) ≡ false → (list_any p es ≡ false → results_text [] (filter p es) ≡ codes "None.\n") → results_text [] (cond t (e ∷ filter p es) (filter p es)) ≡ codes "None.\n"
    by_test true h rest = absurd (false≢true (sym h))
    by_test false h rest = rest h

some_passes : (p : Event → Bool) (es : List Event) → list_any p es ≡ true
    → results_text [] (filter p es) ≡ event_lines (filter p es)
some_passes p [] h = absurd (false≢true h)
some_passes p (e ∷ es) h = by_test (p e) h (some_passes p es)
  where
    by_test : (t : Bool) → (t || list_any p es) ≡ true
        → (list_any p es ≡ true → results_text [] (filter p es) ≡ event_lines (filter p es))
        → results_text [] (cond t (e ∷ filter p es) (filter p es))
        ≡ event_lines (cond t (e ∷ filter p es) (filter p es))
    by_test true h rest = refl
    by_test false h rest = rest h

some_length : (f : FaultyLine) (fs : List FaultyLine) → (length (f ∷ fs) == 0) ≡ false
some_length f fs = grind (arith, nat_tests)

-- where no line is faulty and no event is the faction's, the lines of its report after `Orders:` are `None.`
pub results_none : (faction : ℕ) (faults : List FaultyLine) (events : List Event)
    → ((length faults == 0) && not (list_any (λ (e : Event). e.faction == faction) events)) ≡ true
    → results_text faults (own_events faction events) ≡ codes "None.\n"
results_none faction (f ∷ fs) events h =
    absurd
    (false≢true (sym (ap (λ b. b && not (list_any (λ (e : Event). e.faction == faction) events)) (some_length f fs)) ∙ h))
results_none faction [] events h =
    by_test (list_any (λ (e : Event). e.faction == faction) events) h
    (none_passes (λ (e : Event). e.faction == faction) events)
  where
    by_test : (t : Bool) → not t ≡ true → (t ≡ false → results_text [] (own_events faction events) ≡ codes "None.\n") → results_text [] (own_events faction events) ≡ codes "None.\n"
    by_test true h rest = absurd (false≢true h)
    by_test false h rest = rest refl

-- where a line is faulty or an event is the faction's, after `Orders:` come the faulty lines and then its own events
pub results_lines : (faction : ℕ) (faults : List FaultyLine) (events : List Event)
    → ((length faults == 0) && not (list_any (λ (e : Event). e.faction == faction) events)) ≡ false
    → results_text faults (own_events faction events) ≡ faulty_lines faults ++ event_lines (own_events faction events)
results_lines faction (f ∷ fs) events h = refl
results_lines faction [] events h =
    by_test (list_any (λ (e : Event). e.faction == faction) events) h
    (some_passes (λ (e : Event). e.faction == faction) events)
  where
    by_test : (t : Bool) → not t ≡ false
        → (t ≡ true → results_text [] (own_events faction events) ≡ event_lines (own_events faction events))
        → results_text [] (own_events faction events) ≡ event_lines (own_events faction events)
    by_test true h rest = rest refl
    by_test false h rest = absurd (false≢true (sym h))
