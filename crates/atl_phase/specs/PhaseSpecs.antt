-- The specification of a phase: its effect, by how much it may change the books, and what it keeps. `step` says what a
-- phase does for an order, and `is_of` which verbs it has. See docs/RULES.md, "Closing a month".
use Rattle.std.specs.Prelude.{⊤, ℕ, ◌+◌, ◌≤◌, ◌==◌, ◌||◌, Bool, false, List, [], ◌∷◌, if◌then◌else◌}
use Rattle.atl_world.specs.declared.verb.Verb.{Verb}
use Rattle.atl_records.specs.declared.books.BooksEntry.{BooksEntry}
use Rattle.atl_records.specs.declared.books.Thing.{Thing}
use Rattle.atl_records.specs.declared.books.Thing.TheVariants.{Item, Money, People}
use Rattle.atl_records.specs.Books.{entry_index}
use Rattle.atl_phase.specs.Meaning.{BookBound, Frame, Meaning, both_keep, both_move, most_moved, moves_only, then_also}
use Rattle.atl_phase.specs.OrderEffects.{Affects, OrderMeaning, Unaffected, meaning_by_orders, others_unaffected}
use Rattle.atl_phase.specs.Unbooked.{moves_nothing}

-- ---- the books

-- the entries of the books under which a phase may move money, people and items
pub record MovedEntries : Type 0 where
  pub money : List BooksEntry
  pub people : List BooksEntry
  pub items : List BooksEntry

-- no entries, for a phase that moves no amount of the books
abbrev pub no_moved_entries : MovedEntries
no_moved_entries = record { money = []; people = []; items = [] }

-- the entries under which a phase may move a given thing
abbrev pub entries_of : MovedEntries → Thing → List BooksEntry
entries_of moved Money = moved.money
entries_of moved People = moved.people
entries_of moved (Item i) = moved.items

-- whether an entry of the books is in a list of entries
abbrev pub is_among : BooksEntry → List BooksEntry → Bool
is_among e [] = false
is_among e (k ∷ ks) = is_among e ks || (entry_index e == entry_index k)

-- whether a phase may move the amount of a given entry and thing
abbrev pub may_move : MovedEntries → BooksEntry → Thing → Bool
may_move moved e t = is_among e (entries_of moved t)

-- ---- a phase

-- the specification of a phase: its effect, its bound on the books, the entries that it may move, and what it keeps
pub record PhaseSpec : Type 1 where
  pub meaning : Meaning
  pub book_bound : BookBound
  pub moved : MovedEntries
  pub keeps : Frame

-- By its bound a phase moves only amounts that it may move (`may_move`), and each by less than 10^14.
abbrev pub MovesItsOwn : PhaseSpec → Type 0
MovesItsOwn phase = (e : BooksEntry) (t : Thing) → phase.book_bound e t ≤ (if may_move phase.moved e t then most_moved else 0)

-- the specification of a phase that has the effect `meaning`, moves no amount of the books, and keeps what `keeps` says
abbrev pub spec_without_books : Meaning → Frame → PhaseSpec
spec_without_books meaning keeps = record { meaning = meaning; book_bound = moves_nothing; moved = no_moved_entries; keeps = keeps }

-- The specification of a phase that moves no amount of the books and carries its orders out one by one. A unit that
-- none of its orders affects (`affects`) is still there after it, and has changed at most as `unaffected` allows.
abbrev pub goes_by_orders : OrderMeaning → (Verb → Bool) → Affects → Unaffected → PhaseSpec
goes_by_orders step is_of affects unaffected =
    spec_without_books (meaning_by_orders step is_of) (others_unaffected affects unaffected is_of)

-- The specification of a phase that has the effect `meaning` and keeps what `keeps` says. It moves the money of one
-- entry of the books, by at most `most_moved`, and no other amount.
abbrev pub books_money : BooksEntry → Meaning → Frame → PhaseSpec
books_money entry meaning keeps = record {
  meaning = meaning;
  book_bound = moves_only most_moved entry Money;
  moved = record { money = entry ∷ []; people = []; items = [] };
  keeps = keeps;
}

-- The specification of a phase that has the effect `meaning` and keeps what `keeps` says. It moves the money of one
-- entry of the books and the people of another, each by at most `most_moved`, and no other amount.
abbrev pub books_money_and_people : (money people : BooksEntry) → Meaning → Frame → PhaseSpec
books_money_and_people money people meaning keeps = record {
  meaning = meaning;
  book_bound = both_move (moves_only most_moved money Money) (moves_only most_moved people People);
  moved = record { money = money ∷ []; people = people ∷ []; items = [] };
  keeps = keeps;
}

-- ---- some phases, one after the other

-- the effect of the phases of a list, one after the other; where there are none, nothing changes
abbrev pub meaning_of : List PhaseSpec → Meaning
meaning_of [] = λ w c m. (c, m)
meaning_of (phase ∷ []) = phase.meaning
meaning_of (phase ∷ next ∷ rest) = then_also phase.meaning (meaning_of (next ∷ rest))

-- the bound on the books of the phases of a list together: the sum of their bounds
abbrev pub book_bound_of : List PhaseSpec → BookBound
book_bound_of [] = λ e t. 0
book_bound_of (phase ∷ []) = phase.book_bound
book_bound_of (phase ∷ next ∷ rest) = both_move phase.book_bound (book_bound_of (next ∷ rest))

-- what phases in turn keep together: each keeps what its own specification says, from the campaign and the month that
-- the phases before it made; of an empty list of phases it says nothing
abbrev pub keeps_of : List PhaseSpec → Frame
keeps_of [] = λ w m before after. ⊤
keeps_of (phase ∷ []) = phase.keeps
keeps_of (phase ∷ next ∷ rest) = both_keep phase.meaning phase.keeps (keeps_of (next ∷ rest))

-- how many phases of a list may move the amount of a given entry and thing (`may_move`)
abbrev pub moving_phase_count_of : List PhaseSpec → BooksEntry → Thing → ℕ
moving_phase_count_of [] e t = 0
moving_phase_count_of (phase ∷ rest) e t = (if may_move phase.moved e t then 1 else 0) + moving_phase_count_of rest e t

-- P holds of each phase of a list
abbrev pub EachPhase : (PhaseSpec → Type 0) → List PhaseSpec → Type 0
EachPhase P [] = ⊤
EachPhase P (phase ∷ rest) = P phase × EachPhase P rest
