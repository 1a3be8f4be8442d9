-- Laws of each phase of a month: which entries of the books it moves, and what it leaves to units of a faction without
-- a mailing, if it keeps what its specification says. A phase's own entries are those that its specification lists
-- (`moved`). Such a unit also keeps its faction and name, and the starved are those whom the phase's Starved events
-- report. None takes back a Starved event; all but the sweep, which removes units without men, keep the mailings.
use Rattle.std.proofs.Common.{◌≤◌, [], ◌∷◌, arith}
use Rattle.std.specs.Prelude.{if◌then◌else◌}
use Rattle.std.proofs.lemmas.Bool.Decides.{nat_tests}
use Rattle.atl_records.specs.declared.books.BooksEntry.{BooksEntry}
use Rattle.atl_records.specs.declared.books.BooksEntry.TheVariants as entries
use Rattle.atl_records.specs.declared.books.Thing.{Thing}
use Rattle.atl_records.specs.declared.books.Thing.TheVariants.{Item, Money, People}
use Rattle.atl_records.proofs.EveryEntryLaws.{entry_small}
use Rattle.atl_phase.specs.Meaning.{BookBound, both_move, most_moved, moves_only}
use Rattle.atl_phase.specs.PhaseSpecs.{EachPhase, MovedEntries, MovesItsOwn, PhaseSpec, may_move, no_moved_entries}
use Rattle.atl_phase.specs.Unbooked.{moves_nothing}
use Rattle.atl_phase.proofs.PhaseSpecLaws.{CloseTogether, PhaseLeavesUnmailed}
use Rattle.atl_instant.specs.Quit.{quit_spec}
use Rattle.atl_instant.proofs.UnmailedStepLaws.{form_leaves, give_leaves, guard_leaves, name_leaves, place_leaves, quit_leaves, transfer_leaves}
use Rattle.atl_action.proofs.UnmailedLearnLaws.{learn_leaves}
use Rattle.atl_action.proofs.UnmailedTravelLaws.{sail_leaves, walk_leaves}
use Rattle.atl_market.specs.Build.{build_spec}
use Rattle.atl_market.specs.Produce.{produce_spec}
use Rattle.atl_market.specs.Work.{work_spec}
use Rattle.atl_market.proofs.UnmailedMakeLaws.{build_leaves, produce_leaves}
use Rattle.atl_market.proofs.UnmailedPotLaws.{buy_leaves, recruit_leaves, sell_leaves, tax_leaves, work_leaves}
use Rattle.atl_instant.specs.Form.{form_spec}
use Rattle.atl_instant.specs.Name.{name_spec}
use Rattle.atl_instant.specs.Place.{place_spec}
use Rattle.atl_instant.specs.Give.{give_spec}
use Rattle.atl_instant.specs.Transfer.{transfer_spec}
use Rattle.atl_market.specs.Tax.{tax_spec}
use Rattle.atl_market.specs.Trade.{buy_spec, sell_spec}
use Rattle.atl_market.specs.Recruit.{recruit_spec}
use Rattle.atl_instant.specs.Guard.{guard_spec}
use Rattle.atl_action.specs.Walk.{walk_spec}
use Rattle.atl_action.specs.Sail.{sail_spec}
use Rattle.atl_action.specs.Study.{learn_spec}
use Rattle.atl_month.specs.Month.{early_phases, last_phases, later_phases}
use Rattle.atl_upkeep.specs.Season.{season_spec}
use Rattle.atl_upkeep.specs.Sweep.{sweep_spec}
use Rattle.atl_upkeep.specs.Upkeep.{upkeep_spec}
use Rattle.atl_month.proofs.UnmailedEndLaws.{season_leaves, sweep_leaves, upkeep_leaves}

-- ---- the books

-- the bound `book_bound` is at most 10^14 - 1 under the entries that a phase lists for each thing, and 0 elsewhere
abbrev MovesAlone : BookBound → MovedEntries → Type 0
MovesAlone book_bound moved =
    (e : BooksEntry) (t : Thing) → book_bound e t ≤ (if may_move moved e t then most_moved else 0)

moves_nothing_alone : (moved : MovedEntries) → MovesAlone moves_nothing moved
moves_nothing_alone moved e t = omega arith

money_alone : (k : BooksEntry)
    → MovesAlone (moves_only most_moved k Money) (record { money = k ∷ []; people = []; items = [] })
money_alone k e Money = grind (arith, nat_tests)
money_alone k e People = grind (arith, nat_tests, entry_small k)
money_alone k e (Item i) = grind (arith, nat_tests, entry_small k)

people_alone : (k : BooksEntry)
    → MovesAlone (moves_only most_moved k People) (record { money = []; people = k ∷ []; items = [] })
people_alone k e Money = grind (arith, nat_tests, entry_small e)
people_alone k e People = grind (arith, nat_tests)
people_alone k e (Item i) = grind (arith, nat_tests, entry_small k)

-- A phase that moves money under `k` and people under `j` moves only the entries that it lists (`MovesAlone`), if it
-- lists `k` for money and `j` for people.
money_and_people : (k j : BooksEntry)
    → MovesAlone (both_move (moves_only most_moved k Money) (moves_only most_moved j People)) (record { money = k ∷ []; people = j ∷ []; items = [] })
money_and_people k j e Money = omega (arith, money_alone k e Money, people_alone j e Money)
money_and_people k j e People = omega (arith, money_alone k e People, people_alone j e People)
money_and_people k j e (Item i) = omega (arith, money_alone k e (Item i), people_alone j e (Item i))

quit_alone : MovesItsOwn quit_spec
quit_alone e Money = omega arith
quit_alone e People = omega arith
quit_alone e (Item i) = omega arith

build_alone : MovesItsOwn build_spec
build_alone e Money = omega arith
build_alone e People = omega arith
build_alone e (Item i) = omega arith

produce_alone : MovesItsOwn produce_spec
produce_alone entries.Made (Item i) = omega arith
produce_alone entries.Used (Item i) = omega arith
produce_alone e t = omega arith

pub work_alone : MovesItsOwn work_spec
work_alone = money_alone entries.Wages

pub upkeep_alone : MovesItsOwn upkeep_spec
upkeep_alone = money_and_people entries.Upkeep entries.Starved

pub season_alone : MovesItsOwn season_spec
season_alone e Money = grind (arith, money_and_people entries.Income entries.Births e Money)
season_alone e People = grind (arith, money_and_people entries.Income entries.Births e People)
season_alone e (Item i) = grind (arith, money_and_people entries.Income entries.Births e (Item i))

pub sweep_alone : MovesItsOwn sweep_spec
sweep_alone e Money = grind arith
sweep_alone e People = grind arith
sweep_alone e (Item i) = grind (arith, nat_tests)

-- ---- each phase

-- a phase moves its own entries of the books alone, each by less than 10^14 (`MovesItsOwn`), and leaves units of
-- factions without a mailing their items, and their men less the starved (`PhaseLeavesUnmailed`)
pub record KeepsPhaseLaws (phase : PhaseSpec) : Type 0 where
  pub moves : MovesItsOwn phase
  pub leaves : PhaseLeavesUnmailed phase

keeps_phase_laws : (phase : PhaseSpec) → MovesItsOwn phase → PhaseLeavesUnmailed phase → KeepsPhaseLaws phase
keeps_phase_laws phase moves leaves = record { moves = moves; leaves = leaves }

-- a fact of one phase, paired with the facts of the phases that follow
infixr 5 ◌▹◌
◌▹◌ : {A B : Type 0} → A → B → A × B
one ▹ others = (one, others)

-- each phase from FORM to RECRUIT moves only its own entries, each amount by less than 10^14, and leaves units of
-- factions without a mailing their items, and their men less the starved (`KeepsPhaseLaws`)
pub early_are : EachPhase KeepsPhaseLaws early_phases
early_are =
    keeps_phase_laws form_spec (moves_nothing_alone no_moved_entries) form_leaves
    ▹ keeps_phase_laws name_spec (moves_nothing_alone no_moved_entries) name_leaves
    ▹ keeps_phase_laws place_spec (moves_nothing_alone no_moved_entries) place_leaves
    ▹ keeps_phase_laws give_spec (moves_nothing_alone no_moved_entries) give_leaves
    ▹ keeps_phase_laws transfer_spec (moves_nothing_alone no_moved_entries) transfer_leaves
    ▹ keeps_phase_laws sell_spec (money_alone entries.Sold) sell_leaves
    ▹ keeps_phase_laws buy_spec (money_alone entries.Bought) buy_leaves
    ▹ keeps_phase_laws tax_spec (moves_nothing_alone no_moved_entries) tax_leaves
    ▹ keeps_phase_laws recruit_spec (money_alone entries.Recruiting) recruit_leaves
    ▹ tt

-- each phase from GUARD 1 to PRODUCE moves only its own entries, each amount by less than 10^14, and leaves units of
-- factions without a mailing their items, and their men less the starved (`KeepsPhaseLaws`)
pub later_are : EachPhase KeepsPhaseLaws later_phases
later_are =
    keeps_phase_laws guard_spec (moves_nothing_alone no_moved_entries) guard_leaves
    ▹ keeps_phase_laws quit_spec quit_alone quit_leaves
    ▹ keeps_phase_laws walk_spec (moves_nothing_alone no_moved_entries) walk_leaves
    ▹ keeps_phase_laws sail_spec (moves_nothing_alone no_moved_entries) sail_leaves
    ▹ keeps_phase_laws build_spec build_alone build_leaves
    ▹ keeps_phase_laws learn_spec (money_alone entries.Study) learn_leaves
    ▹ keeps_phase_laws produce_spec produce_alone produce_leaves
    ▹ tt

-- WORK, upkeep, season and sweep each move the amounts of their own entries alone, each by less than 10^14
pub last_move : EachPhase MovesItsOwn last_phases
last_move = work_alone ▹ upkeep_alone ▹ season_alone ▹ sweep_alone ▹ tt

-- WORK, upkeep, season and sweep leave units of factions without a mailing their items, and their men less the starved;
-- after the sweep a unit all of whose men starved is removed
pub last_leave : CloseTogether last_phases
last_leave = work_leaves ▹ upkeep_leaves ▹ season_leaves ▹ sweep_leaves
