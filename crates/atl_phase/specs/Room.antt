-- When the books have room for one phase: it can move none of their amounts past `amount_limit`.
use Rattle.std.specs.Prelude.{ℕ, ◌-◌, ◌≤◌}
use Rattle.atl_records.specs.declared.books.BooksEntry.{BooksEntry}
use Rattle.atl_records.specs.declared.books.Thing.{Thing}
use Rattle.atl_records.specs.Books.{IsWithin, amount_in}
use Rattle.atl_campaign.specs.Campaign.{CampaignValue}
use Rattle.atl_phase.specs.Meaning.{BookBound, most_moved}
use Rattle.atl_phase.specs.Bounds.{HaveRoom, amount_limit}

-- 9*10^18: an amount of at most this size has room for one phase
abbrev pub roomy_amount : ℕ
roomy_amount = amount_limit - most_moved

-- no amount of the books passes 9*10^18 in size
abbrev pub AreRoomy : CampaignValue → Type 0
AreRoomy c = (e : BooksEntry) (t : Thing) → IsWithin roomy_amount (amount_in c.books e t)

-- A law: where no amount passes 9*10^18, the books have room for one phase that moves each by less than 10^14.
-- Two phases may move an amount further.
abbrev pub OnePhaseHasRoom : Type 0
OnePhaseHasRoom =
    (book_bound : BookBound) (c : CampaignValue) → ((e : BooksEntry) (t : Thing) → book_bound e t ≤ most_moved) →
    AreRoomy c → HaveRoom book_bound c
