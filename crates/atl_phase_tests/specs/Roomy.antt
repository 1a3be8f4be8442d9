-- For these tests alone: campaigns whose books have room for any of the phases that the cases play.
use Rattle.std.specs.Prelude.{ℕ}
use Rattle.atl_campaign.specs.Campaign.{CampaignValue}
use Rattle.atl_phase.specs.Bounds.{HaveRoom}

-- 5*10^18, the room that the proofs ask for in each amount of the books: far more than one month can book.
abbrev pub asked_room : ℕ
asked_room = 5000000000000000000

-- Each amount of the campaign's books may rise or fall by `asked_room` and stay within its limit (`HaveRoom`).
abbrev pub IsRoomy : CampaignValue → Type 0
IsRoomy c = HaveRoom (λ e t. asked_room) c
