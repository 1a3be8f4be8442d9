-- A month: its phases in order, what they make of a campaign, and how far they move the books. By upkeep units pay for
-- their men, or men starve; the sweep removes units without men. See docs/RULES.md, "Closing a month".
use Rattle.std.specs.Prelude.{◌≡◌, ◌≤◌, ℕ, ◌+◌, ◌*◌, List, [], ◌∷◌, map}
use Rattle.std.specs.Ordering.{nat_cmp}
use Rattle.std.specs.List.Sorted.{IsPermutation}
use Rattle.std.specs.FinMap.{FinMap, empty}
use Rattle.atl_world.specs.Worlds.{WorldValue}
use Rattle.atl_orders.specs.Mailing.{Reading, reading_of}
use Rattle.atl_orders.specs.declared.mailing.Mailing.{Mailing}
use Rattle.atl_records.specs.declared.books.BooksEntry.{BooksEntry}
use Rattle.atl_records.specs.declared.books.Thing.{Thing}
use Rattle.atl_records.specs.declared.event.Event.{Event}
use Rattle.atl_records.specs.Books.{amount_in}
use Rattle.atl_campaign.specs.Campaign.{CampaignValue, with_month, without_mail}
use Rattle.atl_phase.specs.Month.{MonthValue, HaveOwnFactions, by_faction}
use Rattle.atl_phase.specs.Meaning.{BookBound, Frame, IsNear, Meaning, both_keep, both_move, most_moved, then_also}
use Rattle.atl_phase.specs.PhaseSpecs.{EachPhase, MovesItsOwn, PhaseSpec, keeps_of, meaning_of, book_bound_of, moving_phase_count_of}
use Rattle.atl_instant.specs.Form.{form_spec}
use Rattle.atl_instant.specs.Give.{give_spec}
use Rattle.atl_instant.specs.Guard.{guard_spec}
use Rattle.atl_instant.specs.Name.{name_spec}
use Rattle.atl_instant.specs.Place.{place_spec}
use Rattle.atl_instant.specs.Quit.{quit_spec}
use Rattle.atl_instant.specs.Transfer.{transfer_spec}
use Rattle.atl_action.specs.Sail.{sail_spec}
use Rattle.atl_action.specs.Study.{learn_spec}
use Rattle.atl_action.specs.Walk.{walk_spec}
use Rattle.atl_market.specs.Build.{build_spec}
use Rattle.atl_market.specs.Produce.{produce_spec}
use Rattle.atl_market.specs.Recruit.{recruit_spec}
use Rattle.atl_market.specs.Tax.{tax_spec}
use Rattle.atl_market.specs.Trade.{buy_spec, sell_spec}
use Rattle.atl_market.specs.Work.{work_spec}
use Rattle.atl_upkeep.specs.Season.{season_spec}
use Rattle.atl_upkeep.specs.Sweep.{sweep_spec}
use Rattle.atl_upkeep.specs.Upkeep.{upkeep_spec}

-- What a month carries as its first phase begins: the mailings as they were read, each under its faction's number, the
-- words of the dice, no event, and no alias. An alias is a mailing's number for a unit that FORM makes.
abbrev pub new_month : FinMap nat_cmp Reading → List ℕ → MonthValue
new_month readings words = record { readings = readings; aliases = empty; words = words; events = [] }

-- ---- the phases

-- the phases from FORM to RECRUIT, in order; none of them sets a guard flag, so in each region all units with a flag
-- stay of one faction (`IsEarly`)
abbrev pub early_phases : List PhaseSpec
early_phases =
    form_spec ∷ name_spec ∷ place_spec ∷ give_spec ∷ transfer_spec ∷ sell_spec ∷ buy_spec ∷ tax_spec ∷ recruit_spec ∷ []

-- the phases from GUARD 1 to PRODUCE, in order; WORK is not among them, since units without an order work too
abbrev pub later_phases : List PhaseSpec
later_phases = guard_spec ∷ quit_spec ∷ walk_spec ∷ sail_spec ∷ build_spec ∷ learn_spec ∷ produce_spec ∷ []

-- the phases after PRODUCE, in order: WORK, upkeep, season, sweep
abbrev pub last_phases : List PhaseSpec
last_phases = work_spec ∷ upkeep_spec ∷ season_spec ∷ sweep_spec ∷ []

-- the meaning of all phases from FORM to PRODUCE: the campaign and the month that they make in turn
abbrev pub orders_meaning : Meaning
orders_meaning = then_also (meaning_of early_phases) (meaning_of later_phases)

-- what the phases from FORM to PRODUCE leave alone: for each phase what its `keeps` says of the campaigns before and
-- after it
abbrev pub orders_keep : Frame
orders_keep = both_keep (meaning_of early_phases) (keeps_of early_phases) (keeps_of later_phases)

-- the meaning of a month: the campaign and the month that its phases make, from the first to the last
abbrev pub month_meaning : Meaning
month_meaning = then_also orders_meaning (meaning_of last_phases)

-- what the phases of a month leave alone: for each phase what its `keeps` says of the campaigns before and after it
abbrev pub month_keeps : Frame
month_keeps = both_keep orders_meaning orders_keep (keeps_of last_phases)

-- The campaign after the phases of a month, and the events. `readings` are the mailings as read, by faction, and
-- `words` the words of the dice. The month isn't counted and the mail isn't removed yet.
unfoldable pub month_of : WorldValue → CampaignValue → FinMap nat_cmp Reading → List ℕ → CampaignValue × List Event
month_of w c readings words = let after = month_meaning w c (new_month readings words) in (after.0, after.1.events)

-- ---- the books

-- the law that each phase of a month moves only amounts that its specification lists (`moved`), each by less than 10^14
abbrev pub PhasesMoveLittle : Type 0
PhasesMoveLittle = EachPhase MovesItsOwn early_phases × EachPhase MovesItsOwn later_phases × EachPhase MovesItsOwn last_phases

-- how many phases of a month may move the amount under an entry and of a thing
abbrev pub moving_phase_count : BooksEntry → Thing → ℕ
moving_phase_count e t = moving_phase_count_of early_phases e t + moving_phase_count_of later_phases e t + moving_phase_count_of last_phases e t

-- the law that at most two phases of a month may move an amount of the books
abbrev pub TwoMoveAtMost : Type 0
TwoMoveAtMost = (e : BooksEntry) (t : Thing) → moving_phase_count e t ≤ 2

-- the bound on how far the phases from FORM to PRODUCE together may move each amount of the books
abbrev pub orders_bound : BookBound
orders_bound = both_move (book_bound_of early_phases) (book_bound_of later_phases)

-- for proofs alone: the bound on how far all phases of a month together may move each amount of the books
abbrev pub phases_bound : BookBound
phases_bound = both_move orders_bound (book_bound_of last_phases)

-- the bound on how far a month may move an amount of the books: 10^14 - 1 for each phase that may move it
abbrev pub month_moves : BookBound
month_moves e t = moving_phase_count e t * most_moved

-- each amount of the books of campaign `after` differs from that of campaign `before` by at most its bound in
-- `book_bound`
abbrev pub BooksAreNear : BookBound → (before after : CampaignValue) → Type 0
BooksAreNear book_bound before after =
    (e : BooksEntry) (t : Thing) → IsNear (book_bound e t) (amount_in before.books e t) (amount_in after.books e t)

-- ---- the mailings

-- the law that the mailings of a month, at most one of each faction, make the same campaign and the same events if they
-- are given in another order, for the same campaign and the same words of the dice
abbrev pub MailOrderDoesNotCount : Type 0
MailOrderDoesNotCount =
    (w : WorldValue) (c : CampaignValue) (words : List ℕ) (mailings others : List Mailing) →
    HaveOwnFactions mailings → IsPermutation mailings others →
    month_of w c (by_faction (map reading_of mailings)) words ≡ month_of w c (by_faction (map reading_of others)) words

-- a campaign with its month counted and its mail removed
abbrev pub after_month : CampaignValue → CampaignValue
after_month c = without_mail (with_month c (c.month + 1))
