-- Laws of joined names: if no two factions joined under one name, the list of factions has no name twice.
use Rattle.std.proofs.Common.{◌≡◌, ◌≢◌, ℕ, true, List, [], ◌∷◌, Some, sym, ap, ◌∙◌}
use Rattle.std.proofs.lemmas.Bool.{and_parts}
use Rattle.std.specs.Ordering.{nat_cmp}
use Rattle.std.specs.FinMap.{FinMap, find, entries, get-entries, is_sorted}
use Rattle.atl_records.specs.declared.records.Faction.{Faction}
use Rattle.atl_state.specs.Deciding.{JoinedNamesDiffer}
use Rattle.atl_world.specs.Every.{Every}
use Rattle.atl_world.proofs.EveryLaws.{none_some, each_of, later, first, not_below, sorted}

names_in_entries_differ : (es : List (ℕ × Faction)) → is_sorted nat_cmp es ≡ true
    → ((n k : ℕ) (f g : Faction) → find nat_cmp n es ≡ Some f → find nat_cmp k es ≡ Some g → f.joined_as ≡ g.joined_as → n ≡ k)
    → JoinedNamesDiffer es
names_in_entries_differ [] s h = tt
names_in_entries_differ (e ∷ es) s h = (
  each_of (λ _ f. e.1.joined_as ≢ f.joined_as) es (and_parts _ _ s).1 (λ n f is same.
      let one : e.0 ≡ n = h e.0 n e.1 f (first e es) (later e es n f s is) same in
      none_some f (sym (not_below e.0 es (and_parts _ _ s).0) ∙ ap (λ k. find nat_cmp k es) one ∙ is)),
  names_in_entries_differ es (and_parts _ _ s).1 (λ n k f g is js same. h n k f g (later e es n f s is) (later e es k g s js) same),
)

-- in a map of factions, those with the same joined name have the same number
abbrev pub AllDiffer : FinMap nat_cmp Faction → Type 0
AllDiffer m = Every (λ n f. Every (λ k g. f.joined_as ≡ g.joined_as → n ≡ k) m) m

-- if factions with the same joined name are the same one, the list of factions has no joined name twice
pub entries_differ : (m : FinMap nat_cmp Faction) → AllDiffer m → JoinedNamesDiffer (entries m)
entries_differ m every =
    names_in_entries_differ (entries m) (sorted m)
    (λ n k f g is js same. every n f (get-entries m n ∙ is) k g (get-entries m k ∙ js) same)
