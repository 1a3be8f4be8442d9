-- Laws of the test campaigns of `runs` and `settings`: their books have room for each phase.
use Rattle.std.proofs.Common.{◌≡◌, ◌≤◌, ℕ, Bool, true, false, sym, subst, arith}
use Rattle.std.specs.Prelude.{if◌then◌else◌}
use Rattle.atl_world.specs.Worlds.{WorldValue}
use Rattle.atl_records.specs.declared.books.BooksEntry.{BooksEntry}
use Rattle.atl_records.specs.declared.books.Thing.{Thing}
use Rattle.atl_records.specs.Books.{amount_in}
use Rattle.atl_campaign.specs.Good.{IsGood}
use Rattle.atl_campaign.specs.Campaign.{CampaignValue}
use Rattle.atl_phase.specs.Meaning.{BookBound, both_move, most_moved}
use Rattle.atl_phase.specs.Bounds.{HasRoom, HaveRoom}
use Rattle.atl_phase.specs.PhaseSpecs.{MovesItsOwn, PhaseSpec, may_move}
use Rattle.atl_phase.proofs.MeaningLaws.{room_less, room_when_sound}
use Rattle.atl_market.specs.Work.{work_spec}
use Rattle.atl_month.specs.Month.{orders_bound}
use Rattle.atl_upkeep.specs.Season.{season_spec}
use Rattle.atl_upkeep.specs.Sweep.{sweep_spec}
use Rattle.atl_upkeep.specs.Upkeep.{upkeep_spec}
use Rattle.atl_month.proofs.MoveLaws.{phases_little}
use Rattle.atl_month.proofs.PhaseLaws.{season_alone, sweep_alone, upkeep_alone, work_alone}
use Rattle.atl_phase_tests.specs.Roomy.{IsRoomy, asked_room}

-- The books of a good campaign are roomy (`IsRoomy`), and so are those of any campaign with the same books.
pub roomy_when_good : (w : WorldValue) (c d : CampaignValue) → IsGood w c → d.books ≡ c.books → IsRoomy d
roomy_when_good w c d good books e t = subst (λ b. HasRoom asked_room (amount_in b e t)) (sym books) (room_when_sound w c (λ f u. asked_room) (λ f u. omega arith) good.sound e t)

-- Roomy books (`IsRoomy`) have room for what a phase moves (`HaveRoom`), if its bound `book_bound` is at most
-- `asked_room` for each amount.
pub roomy_books_have_room : (c : CampaignValue) (book_bound : BookBound) → ((e : BooksEntry) (t : Thing) → book_bound e t ≤ asked_room) → IsRoomy c → HaveRoom book_bound c
roomy_books_have_room c book_bound little room = room_less book_bound (λ e t. asked_room) c little room

pub room_for_orders : (c : CampaignValue) → IsRoomy c → HaveRoom orders_bound c
room_for_orders c = roomy_books_have_room c orders_bound (λ e t. omega (arith, phases_little e t))

-- `moved`, how far a phase moves one amount of the books, is at most `most_moved` if it keeps the phase's bound. That
-- bound is `most_moved` if the phase may move this amount (`b` is true), and 0 if not.
moved_amount_is_bounded : (b : Bool) (moved : ℕ) → moved ≤ (if b then most_moved else 0) → moved ≤ most_moved
moved_amount_is_bounded true moved l = l
moved_amount_is_bounded false moved l = omega (arith, l)

moves_little : (phase : PhaseSpec) → MovesItsOwn phase → (e : BooksEntry) (t : Thing) → phase.book_bound e t ≤ most_moved
moves_little phase own e t = moved_amount_is_bounded (may_move phase.moved e t) (phase.book_bound e t) (own e t)

room_for_phase : (phase : PhaseSpec) → MovesItsOwn phase → (c : CampaignValue) → IsRoomy c → HaveRoom phase.book_bound c
room_for_phase phase own c = roomy_books_have_room c phase.book_bound (λ e t. omega (arith, moves_little phase own e t))

pub room_for_work : (c : CampaignValue) → IsRoomy c → HaveRoom work_spec.book_bound c
room_for_work = room_for_phase work_spec work_alone

pub room_for_upkeep : (c : CampaignValue) → IsRoomy c → HaveRoom upkeep_spec.book_bound c
room_for_upkeep = room_for_phase upkeep_spec upkeep_alone

pub room_for_season : (c : CampaignValue) → IsRoomy c → HaveRoom season_spec.book_bound c
room_for_season = room_for_phase season_spec season_alone

pub room_for_seasons : (c : CampaignValue) → IsRoomy c → HaveRoom (both_move season_spec.book_bound season_spec.book_bound) c
room_for_seasons c = roomy_books_have_room c (both_move season_spec.book_bound season_spec.book_bound) (λ e t. omega (arith, moves_little season_spec season_alone e t))

pub room_for_sweep : (c : CampaignValue) → IsRoomy c → HaveRoom sweep_spec.book_bound c
room_for_sweep = room_for_phase sweep_spec sweep_alone
