-- Laws that the books of a good campaign have room for all that a phase may book. The tests `agreeing` play seven
-- phases, which need this room.
use Rattle.std.proofs.Common.{◌≤◌, ℕ, Bool, true, false, arith}
use Rattle.std.specs.Prelude.{if◌then◌else◌}
use Rattle.atl_world.specs.Worlds.{WorldValue}
use Rattle.atl_campaign.specs.Good.{IsGood}
use Rattle.atl_campaign.specs.Campaign.{CampaignValue}
use Rattle.atl_phase.specs.Meaning.{most_moved}
use Rattle.atl_phase.specs.Bounds.{HaveRoom}
use Rattle.atl_phase.specs.PhaseSpecs.{MovesItsOwn, PhaseSpec, may_move}
use Rattle.atl_phase.proofs.MeaningLaws.{room_when_sound}
use Rattle.atl_market.specs.Produce.{produce_spec}
use Rattle.atl_market.specs.Recruit.{recruit_spec}
use Rattle.atl_market.specs.Tax.{tax_spec}
use Rattle.atl_market.specs.Trade.{buy_spec, sell_spec}
use Rattle.atl_market.specs.Work.{work_spec}
use Rattle.atl_upkeep.specs.Upkeep.{upkeep_spec}
use Rattle.atl_month.proofs.PhaseLaws.{early_are, later_are, upkeep_alone, work_alone}

-- `moved`, how far a phase moves one amount of the books, is at most 5*10^18 if it keeps the phase's bound. That
-- bound is `most_moved` if the phase may move this amount (`b` is true), and 0 if not.
moved_amount_is_bounded : (b : Bool) (moved : ℕ) → moved ≤ (if b then most_moved else 0) → moved ≤ 5000000000000000000
moved_amount_is_bounded true moved l = omega (arith, l)
moved_amount_is_bounded false moved l = omega (arith, l)

room_for_phase : (phase : PhaseSpec) → MovesItsOwn phase → (w : WorldValue) (c : CampaignValue) → IsGood w c → HaveRoom phase.book_bound c
room_for_phase phase own w c good = room_when_sound w c phase.book_bound (λ e t. moved_amount_is_bounded (may_move phase.moved e t) (phase.book_bound e t) (own e t)) good.sound

pub room_for_selling : (w : WorldValue) (c : CampaignValue) → IsGood w c → HaveRoom sell_spec.book_bound c
room_for_selling = room_for_phase sell_spec early_are.1.1.1.1.1.0.moves

pub room_for_buying : (w : WorldValue) (c : CampaignValue) → IsGood w c → HaveRoom buy_spec.book_bound c
room_for_buying = room_for_phase buy_spec early_are.1.1.1.1.1.1.0.moves

pub room_for_tax : (w : WorldValue) (c : CampaignValue) → IsGood w c → HaveRoom tax_spec.book_bound c
room_for_tax = room_for_phase tax_spec early_are.1.1.1.1.1.1.1.0.moves

pub room_for_recruiting : (w : WorldValue) (c : CampaignValue) → IsGood w c → HaveRoom recruit_spec.book_bound c
room_for_recruiting = room_for_phase recruit_spec early_are.1.1.1.1.1.1.1.1.0.moves

pub room_for_producing : (w : WorldValue) (c : CampaignValue) → IsGood w c → HaveRoom produce_spec.book_bound c
room_for_producing = room_for_phase produce_spec later_are.1.1.1.1.1.1.0.moves

pub room_for_work : (w : WorldValue) (c : CampaignValue) → IsGood w c → HaveRoom work_spec.book_bound c
room_for_work = room_for_phase work_spec work_alone

pub room_for_upkeep : (w : WorldValue) (c : CampaignValue) → IsGood w c → HaveRoom upkeep_spec.book_bound c
room_for_upkeep = room_for_phase upkeep_spec upkeep_alone
