-- Laws of the indices of orders that count: those of one mailing, order by order, and those of all mailings. An index
-- (`OrderIndex`) says in which mailing of the list `ms` an order is, and where there. `old` is a list of indices, and
-- `new` or `list` this list after some were added. `is_of` says which verbs a phase has.
use Rattle.std.proofs.Common.{◌≡◌, ◌==◌, ◌&&◌, ◌||◌, ℕ, ◌+◌, ◌<◌, ◌≤◌, Bool, true, false, true≢false, cond, Option, Some, None, List, [], ◌∷◌, ◌++◌, map, filter, drop, take, length, get_or, All, refl, sym, ap, ap₂, subst, ◌∙◌}
use Rattle.std.specs.List.{list_any}
use Rattle.std.proofs.lemmas.List.{append-nil, append_assoc, drop_all, drop_more, map-append, take_more}
use Rattle.std.proofs.lemmas.List.Concat.{flat_map-append}
use Rattle.std.proofs.lemmas.List.Elements.{All-push}
use Rattle.atl_orders.specs.declared.mailing.Entry.{Entry}
use Rattle.atl_orders.specs.declared.mailing.Mailing.{Mailing}
use Rattle.atl_world.specs.declared.verb.Slot.{Slot}
use Rattle.atl_world.specs.declared.verb.Verb.{Verb}
use Rattle.atl_orders.specs.Mailing.{entry_value, reading_of}
use Rattle.atl_world.specs.Verbs.{row_of}
use Rattle.atl_phase.specs.declared.order_indices.OrderIndex.{OrderIndex}
use Rattle.atl_phase.specs.Month.{Aliases}
use Rattle.atl_phase.specs.PhaseOrders.{Task, order_counts, counts_in_slot, tasks_for, tasks_from, tasks_of, unit_of}
use Rattle.atl_phase.specs.OrderIndices.{AddsMailing, AreLastLines, IsThere, LastLineMap, all_tasks, mailing_at, no_entry, no_mailing, counts_by_lines, task_at, tasks_at}

by_lines : (ts : List Task) (lines : LastLineMap) (t : Task) → AreLastLines ts lines → (o : Option Slot)
    → counts_by_lines lines t.unit t.line o ≡ counts_in_slot ts t o
by_lines ts lines t last None = refl
by_lines ts lines t last (Some slot) = ap (λ n. t.line == n) (last slot t.unit)

-- the mailing at index `at` of the list `ms` (`read`), and its orders that count and have verbs that pass `is_of`: the
-- orders that count for the phase
module _ (is_of : Verb → Bool) (aliases : Aliases) (ms : List Mailing) (at : ℕ) where
  abbrev read : Mailing
  read = mailing_at ms at

  abbrev entry_at : ℕ → Entry
  entry_at i = get_or read.entries i no_entry

  -- whether an order of the mailing counts and has one of the phase's verbs
  abbrev is_wanted : Task → Bool
  is_wanted t = is_of t.order_value.verb && order_counts (tasks_at aliases ms at) t

  -- the orders of the mailing that count for the phase, from index i on
  abbrev pub rest_from : ℕ → List Task
  rest_from i = filter is_wanted (tasks_from aliases read.faction i (map (entry_value read.text) (drop i read.entries)))

  abbrev place_of : ℕ → OrderIndex
  place_of i =
      record { unit = unit_of aliases read.faction (entry_at i).target; line = (entry_at i).line; faction = read.faction; mailing = at; index = i }

  -- whether the order at index i of the mailing counts for the phase
  abbrev counts : ℕ → Bool
  counts i = is_wanted (task_at ms (place_of i))

  -- the orders that count from index i on are the one at i, if it counts, and those from i + 1 on
  opened : (i : ℕ) → i < length read.entries
      → rest_from i ≡ cond (counts i) (task_at ms (place_of i) ∷ rest_from (i + 1)) (rest_from (i + 1))
  opened i h =
      ap (λ es. filter is_wanted (tasks_from aliases read.faction i (map (entry_value read.text) es)))
      (drop_more read.entries i no_entry h)

  -- The list names the orders that `old` names, and then those that count before index i of the mailing. If all indices
  -- of `old` are there (`IsThere`), so are all of the list.
  pub record Added (old : List OrderIndex) (i : ℕ) (list : List OrderIndex) : Type 0 where
    pub there : All (IsThere ms) old → All (IsThere ms) list
    -- the orders that `list` names, and then those that count from index i on, are those of `old` and all that count
    pub tasks : map (task_at ms) list ++ rest_from i ≡ map (task_at ms) old ++ rest_from 0

  -- `list` has the indices of the orders that count before the order at i, after those of `old` (`before`)
  module _ (old list : List OrderIndex) (i : ℕ) (h : i < length read.entries) (before : Added old i list) where
    -- if the order at i doesn't count for the phase, the list already has all that count before i + 1 (`Added`)
    pub passed : counts i ≡ false → Added old (i + 1) list
    passed skipped = record {
      there = before.there;
      tasks = ap (λ ts. map (task_at ms) list ++ ts) (sym (opened i h ∙ ap (λ b. cond b (task_at ms (place_of i) ∷ rest_from (i + 1)) (rest_from (i + 1))) skipped)) ∙ before.tasks;
    }

    -- The mailings `ms` have one at `at`, and its order at i counts for the phase. Then the list with the index of this
    -- order at its end has the indices of `old`, and then those of all orders that count before i + 1 (`Added`).
    pub pushed : at < length ms → counts i ≡ true → Added old (i + 1) (list ++ place_of i ∷ [])
    pushed within counted = record {
      there = λ all. All-push (IsThere ms) list (place_of i) (before.there all) (record { mailing = within; entry = h });
      tasks =
          ap (λ ts. ts ++ rest_from (i + 1)) (map-append (task_at ms) list (place_of i ∷ []))
          ∙ append_assoc (map (task_at ms) list) (task_at ms (place_of i) ∷ []) (rest_from (i + 1))
          ∙ ap (λ ts. map (task_at ms) list ++ ts) (sym (opened i h ∙ ap (λ b. cond b (task_at ms (place_of i) ∷ rest_from (i + 1)) (rest_from (i + 1))) counted)) ∙ before.tasks;
    }

  -- what the code reads: the mailing m, its entry e at index i, and the number of the unit that the order there is for
  -- (`unit`). The premises say that each is as `ms` has it.
  module _ (i : ℕ) (m : Mailing) (e : Entry) (unit : ℕ) (here : m ≡ read) (entry : e ≡ entry_at i) (for_unit : unit ≡ unit_of aliases m.faction e.target) where
    abbrev found : OrderIndex
    found = record { unit = unit; line = e.line; faction = m.faction; mailing = at; index = i }

    found_is : found ≡ place_of i
    found_is k = record {
      unit = (for_unit ∙ (λ j. unit_of aliases (here j).faction (entry j).target)) k;
      line = (entry k).line;
      faction = (here k).faction;
      mailing = at;
      index = i;
    }

    -- if `lines` are the greatest lines of the mailing by slot and unit, what the code finds by them (b) is whether the
    -- order at i counts for the phase
    pub counts_by : (lines : LastLineMap) (b : Bool) → AreLastLines (tasks_at aliases ms at) lines
        → b ≡ (is_of e.order.verb && counts_by_lines lines unit e.line (row_of e.order.verb).slot) → counts i ≡ b
    counts_by lines b last is =
        let t = task_at ms (place_of i) in
        sym (is ∙ (λ k. is_of (entry k).order.verb && counts_by_lines lines (found_is k).unit (found_is k).line (row_of (entry k).order.verb).slot) ∙ ap (λ z. is_of t.order_value.verb && z) (by_lines (tasks_at aliases ms at) lines t last (row_of t.order_value.verb).slot))

    -- The mailing `at` is there, its order at i counts for the phase, and the code makes the index `found` of it. If
    -- `list` has all that count before i, then `new`, which is `list` and `found`, has those before i + 1 (`Added`).
    pub added : (old list new : List OrderIndex) → i < length read.entries → Added old i list → at < length ms
        → counts i ≡ true → new ≡ list ++ found ∷ [] → Added old (i + 1) new
    added old list new h before within counted is =
        subst (Added old (i + 1)) (sym (is ∙ ap (λ p. list ++ p ∷ []) found_is))
        (pushed old list i h before within counted)

  -- where i is past the last order of the mailing, the list has the old indices and those of all orders of the mailing
  -- that count for the phase (`AddsMailing`)
  pub ended : (old list : List OrderIndex) (i : ℕ) → length read.entries ≤ i → Added old i list
      → AddsMailing is_of aliases ms at old list
  ended old list i h before = record {
    there = before.there;
    tasks =
        sym (append-nil (map (task_at ms) list))
        ∙ ap (λ es. map (task_at ms) list ++ filter is_wanted (tasks_from aliases read.faction i (map (entry_value read.text) es))) (sym (drop_all i read.entries h))
        ∙ before.tasks;
  }

-- ---- a mailing without an order of the phase

-- no order of entries that have no verb of the phase is one of the phase's, whatever else is asked of it
none_wanted : (is_of : Verb → Bool) (aliases : Aliases) (asked : Task → Bool) (faction i : ℕ) (text : List ℕ) (es : List Entry)
    → list_any (λ (e : Entry). is_of e.order.verb) es ≡ false
    → filter (λ t. is_of t.order_value.verb && asked t) (tasks_from aliases faction i (map (entry_value text) es)) ≡ []
none_wanted is_of aliases asked faction i text [] h = refl
none_wanted is_of aliases asked faction i text (e ∷ es) h =
    by_test (λ g. none_wanted is_of aliases asked faction (i + 1) text es g) (is_of e.order.verb) h
  where
    first : Task
    first =
        record { faction = faction; unit = unit_of aliases faction e.target; line = e.line; index = i; order_value = (entry_value text e).order_value }

    rest : List Task
    rest =
        filter (λ t. is_of t.order_value.verb && asked t)
        (tasks_from aliases faction (i + 1) (map (entry_value text) es))

    -- for none_wanted: no order is wanted, where the first entry has a verb of the phase (b) or not
    by_test : (list_any (λ (f : Entry). is_of f.order.verb) es ≡ false → rest ≡ []) → (b : Bool)
        → (b || list_any (λ (f : Entry). is_of f.order.verb) es) ≡ false
        → cond (b && asked first) (first ∷ rest) rest ≡ []
    by_test others true g = absurd (true≢false g)
    by_test others false g = others g

-- the mailing at index `at`, if no verb of its orders passes `is_of`, adds no index (`AddsMailing`)
pub adds_none : (is_of : Verb → Bool) (aliases : Aliases) (ms : List Mailing) (at : ℕ) (list : List OrderIndex)
    → list_any (λ (e : Entry). is_of e.order.verb) (mailing_at ms at).entries ≡ false
    → AddsMailing is_of aliases ms at list list
adds_none is_of aliases ms at list none =
    let m = mailing_at ms at in record {
      there = λ all. all;
      tasks =
          sym (append-nil (map (task_at ms) list))
          ∙ ap (λ ts. map (task_at ms) list ++ ts) (sym (none_wanted is_of aliases (order_counts (tasks_at aliases ms at)) m.faction 0 m.text m.entries none));
    }

-- The indices `new` are `old` with those of the mailing at i added (`AddsMailing`). They name the orders that count for
-- the phase in the mailings up to and with index i, if `old` name those in the mailings before i.
pub next_mailing : (is_of : Verb → Bool) (aliases : Aliases) (ms : List Mailing) (i : ℕ) (old new : List OrderIndex)
    → i < length ms → AddsMailing is_of aliases ms i old new
    → map (task_at ms) old ≡ all_tasks is_of aliases (take i ms)
    → map (task_at ms) new ≡ all_tasks is_of aliases (take (i + 1) ms)
next_mailing is_of aliases ms i old new h adds before =
    adds.tasks ∙ ap₂ (λ us vs. us ++ vs) before (sym (append-nil (tasks_for is_of (tasks_at aliases ms i))))
    ∙ sym (ap (all_tasks is_of aliases) (take_more ms i no_mailing h) ∙ flat_map-append (λ m. tasks_for is_of (tasks_of aliases m.faction (reading_of m))) (take i ms) (mailing_at ms i ∷ []))
