-- Laws of several phases in turn: what holds of all together, if it holds of each. `phases` has the specification of
-- each phase, in turn. The starved are the men whom Starved events report. What a phase leaves to units, it leaves if
-- it keeps what its specification says.
use Rattle.std.proofs.Common.{◌≡◌, ◌-◌, ◌+◌, ◌*◌, ◌≤◌, ℕ, Bool, true, false, List, [], ◌∷◌, refl, arith}
use Rattle.std.specs.Prelude.{if◌then◌else◌}
use Rattle.atl_records.specs.declared.books.BooksEntry.{BooksEntry}
use Rattle.atl_records.specs.declared.books.Thing.{Thing}
use Rattle.atl_phase.specs.Meaning.{most_moved}
use Rattle.atl_phase.specs.PhaseSpecs.{EachPhase, MovesItsOwn, PhaseSpec, keeps_of, may_move, meaning_of, book_bound_of, moving_phase_count_of}
use Rattle.atl_phase.specs.Unmailed.{starved_in}
use Rattle.atl_phase.proofs.UnmailedLaws.{ClosesUnmailed, LeavesUnmailed, both_leave, then_closes}

-- Q holds of each phase of a list, if P does, and if Q holds of every phase of which P holds
pub each_also : {P Q : PhaseSpec → Type 0} → ((phase : PhaseSpec) → P phase → Q phase) → (phases : List PhaseSpec)
    → EachPhase P phases → EachPhase Q phases
each_also also [] each = tt
each_also also (phase ∷ rest) each = (also phase each.0, each_also also rest each.1)

-- ---- the books

-- For `moved_within`: one phase and the others together move an amount by at most `most_moved` for each phase that may
-- move it. The one phase, which may move it if `b` is true, moves it by `moved`. The others move it by `rest`, and
-- `most` of them may move it.
moves_add_up : (b : Bool) (rest moved most : ℕ) → moved ≤ (if b then most_moved else 0) → rest ≤ most * most_moved
    → moved + rest ≤ ((if b then 1 else 0) + most) * most_moved
moves_add_up true rest moved most one others = omega (arith, one, others)
moves_add_up false rest moved most one others = omega (arith, one, others)

-- phases in turn, each of which moves its own entries alone (`MovesItsOwn`), move an amount together by at most
-- `most_moved` for each of them that may move it
pub moved_within : (phases : List PhaseSpec) → EachPhase MovesItsOwn phases → (e : BooksEntry) (t : Thing)
    → book_bound_of phases e t ≤ moving_phase_count_of phases e t * most_moved
moved_within [] each e t = omega arith
moved_within (phase ∷ []) each e t = alone (may_move phase.moved e t) (each.0 e t)
  where
    alone : (b : Bool) → phase.book_bound e t ≤ (if b then most_moved else 0)
        → phase.book_bound e t ≤ ((if b then 1 else 0) + 0) * most_moved
    alone true one = omega (arith, one)
    alone false one = omega (arith, one)
moved_within (phase ∷ next ∷ rest) each e t =
    moves_add_up (may_move phase.moved e t) (book_bound_of (next ∷ rest) e t) (phase.book_bound e t)
    (moving_phase_count_of (next ∷ rest) e t) (each.0 e t) (moved_within (next ∷ rest) each.1 e t)

-- ---- a faction without a mailing

-- The phase keeps the mailings, and takes back no Starved event. If it keeps what its specification says, each unit of
-- a faction without a mailing is there after it. It has its faction and name, no less of any item, and its men less the
-- starved (`LeavesUnmailed`).
abbrev pub PhaseLeavesUnmailed : PhaseSpec → Type 0
PhaseLeavesUnmailed phase = LeavesUnmailed phase.meaning phase.keeps

-- All phases but the last do as `PhaseLeavesUnmailed` says. So does the last, but it may change the mailings, and
-- removes a unit all of whose men starve (`ClosesUnmailed`). No empty list has this.
abbrev pub CloseTogether : List PhaseSpec → Type 0
CloseTogether [] = ⊥
CloseTogether (phase ∷ []) = ClosesUnmailed phase.meaning phase.keeps
CloseTogether (phase ∷ next ∷ rest) = PhaseLeavesUnmailed phase × CloseTogether (next ∷ rest)

-- Phases in turn leave units of factions without a mailing their names and items, and their men less the starved, if
-- each phase does (`CloseTogether`). After the last phase, a unit all of whose men starved is removed
-- (`ClosesUnmailed`).
pub closed_together : (phases : List PhaseSpec) → CloseTogether phases
    → ClosesUnmailed (meaning_of phases) (keeps_of phases)
closed_together [] none = absurd none
closed_together (phase ∷ []) closes = closes
closed_together (phase ∷ next ∷ rest) each = then_closes each.0 (closed_together (next ∷ rest) each.1)

-- phases in turn leave units of factions without a mailing their names and items, and their men less the starved
-- (`LeavesUnmailed`), if each phase does
pub leave_together : (phases : List PhaseSpec) → EachPhase PhaseLeavesUnmailed phases
    → LeavesUnmailed (meaning_of phases) (keeps_of phases)
leave_together [] each = record {
  readings = λ w c m. refl;
  starved_reported = λ w c m n. omega arith;
  left = λ w c m keeps n u there none. record { unit = u; there = there; is_unaffected = record { faction = refl; name = refl; men = nobody (starved_in m.events n) u.holding.men; items = λ i. omega arith } };
}
  where
    nobody : (x a : ℕ) → a + (x - x) ≡ a
    nobody x a = omega arith
leave_together (phase ∷ []) each = each.0
leave_together (phase ∷ next ∷ rest) each = both_leave each.0 (leave_together (next ∷ rest) each.1)
