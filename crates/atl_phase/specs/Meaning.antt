-- What a phase of the month is: its effect, by how much it may change the books, and what it keeps.
use Rattle.std.specs.Prelude.{◌≡◌, ℕ, ℤ, pos, ◌+ℤ◌, ◌≤ℤ◌, ◌+◌, ◌==◌, if◌then◌else◌}
use Rattle.std.specs.FinMap.{len}
use Rattle.atl_world.specs.Worlds.{WorldValue}
use Rattle.atl_records.specs.declared.books.BooksEntry.{BooksEntry}
use Rattle.atl_records.specs.declared.books.Thing.{Thing}
use Rattle.atl_records.specs.Books.{amount_in, amount_number}
use Rattle.atl_world.specs.Every.{HasValue}
use Rattle.atl_campaign.specs.Campaign.{CampaignValue}
use Rattle.atl_campaign.specs.Totals.{Balances}
use Rattle.atl_phase.specs.Month.{MonthValue}

-- the effect of a phase: from the world, a campaign and a month to the campaign and the month after it
abbrev pub Meaning : Type 0
Meaning = WorldValue → CampaignValue → MonthValue → CampaignValue × MonthValue

-- the effect of two phases in turn: the second gets the campaign and the month that the first leaves
abbrev pub then_also : Meaning → Meaning → Meaning
then_also first second w c m = second w (first w c m).0 (first w c m).1

-- ---- what a campaign keeps before a phase, and after it

-- a statement about a world and a campaign in it
abbrev pub Condition : Type 1
Condition = WorldValue → CampaignValue → Type 0

-- in every world each campaign with the first condition has the second:
-- what one phase leaves is what the next one needs
abbrev pub Follows : Condition → Condition → Type 0
Follows leaves needs = (w : WorldValue) (c : CampaignValue) → leaves w c → needs w c

-- What two phases in turn need: the condition `needs` of the first phase. The condition `between`, which the first
-- phase leaves, must also imply `follows`, which the second one needs.
abbrev pub both_need : Condition → Condition → Condition → Condition
both_need needs between follows w c = needs w c × Follows between follows

-- What a phase keeps: a statement about the world, the month that the phase got, and the campaign before and after it.
-- Mostly it says what is left to units for which their own faction wrote no order of the phase.
abbrev pub Frame : Type 1
Frame = WorldValue → MonthValue → CampaignValue → CampaignValue → Type 0

-- What two phases in turn keep: the first one what `early` says, and the second one what `late` says. The second one
-- gets the campaign and the month that `first`, the effect of the first one, makes.
abbrev pub both_keep : Meaning → Frame → Frame → Frame
both_keep first early late w m before after =
    let between = first w before m in
    early w m before between.0 × late w between.1 between.0 after

-- ---- the books

-- by how much each amount of the books, given by entry and thing, may move at most, up or down; with bound 0 it stays
abbrev pub BookBound : Type 0
BookBound = BooksEntry → Thing → ℕ

-- the bound on the books of two phases in turn: the sum of their bounds
abbrev pub both_move : BookBound → BookBound → BookBound
both_move first second e t = first e t + second e t

-- the bound on the books of a phase that moves the amount of one entry and thing alone, by at most a given number
abbrev pub moves_only : ℕ → BooksEntry → Thing → BookBound
moves_only most e t f u = if amount_number f u == amount_number e t then most else 0

-- by how much one phase moves an amount of the books at most: 10^14 - 1, more than 100,000 units of 999,999,999 hold
-- together
abbrev pub most_moved : ℕ
most_moved = 99999999999999

-- two amounts differ by `most` or less
pub record IsNear (most : ℕ) (before after : ℤ) : Type 0 where
  pub above : after ≤ℤ (before +ℤ pos most)
  pub below : before ≤ℤ (after +ℤ pos most)

-- The number of the month last closed, the reports and the set of factions (gone ones too) stay the same.
pub record IsSameMonth (before after : CampaignValue) : Type 0 where
  pub month : after.month ≡ before.month
  pub reports : after.reports ≡ before.reports
  pub count : len after.factions ≡ len before.factions
  -- no faction is added
  pub factions : (n : ℕ) → HasValue after.factions n → HasValue before.factions n

-- After a phase `leaves` is true of the campaign. Month, reports and set of factions are the same (`IsSameMonth`), and
-- the books balance if they did before. No amount of the books moves further than its bound (`book_bound`).
pub record LeavesWell (leaves : Condition) (book_bound : BookBound) (w : WorldValue) (before after : CampaignValue) : Type 0 where
  pub leaves_it : leaves w after
  pub same_month : IsSameMonth before after
  pub balances : Balances before → Balances after
  pub near : (e : BooksEntry) (t : Thing) → IsNear (book_bound e t) (amount_in before.books e t) (amount_in after.books e t)
