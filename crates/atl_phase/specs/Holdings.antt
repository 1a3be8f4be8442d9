-- Changes to the holding of one unit (name, men, money, guard flag, items and days), and which marks they set.
use Rattle.std.specs.Prelude.{◌≡◌, ℕ, List, fold}
use Rattle.std.specs.Ordering.{nat_cmp}
use Rattle.std.specs.FinMap.{FinMap}
use Rattle.atl_campaign.specs.Covers.{MarksChanges}
use Rattle.atl_records.specs.Holdings.{HoldingValue, with_amount_of}
use Rattle.atl_campaign.specs.Marks.{Marks}
use Rattle.atl_campaign.specs.Campaign.{MarkedCampaign, unit_changed}

-- Unit n, if it is there, holds what `change` makes of what it held, and nothing else changes. No mark is lost, all
-- that changed is marked, and the same units as before have all their items and days marked at once.
pub record ChangesHolding (before after : MarkedCampaign) (n : ℕ) (change : HoldingValue → HoldingValue) : Type 0 where
  pub value : after.value ≡ unit_changed (λ u. record u { holding = change u.holding }) before.value n
  pub marks : MarksChanges before after
  -- the marks of goods, each for all items and days of a unit at once, are those from before
  pub goods : after.marks.goods ≡ before.marks.goods

-- a change marks no items: the marks of single items, and those of all items and days of a unit at once, stay as they
-- were
pub record MarksNoItems (before after : Marks) : Type 0 where
  pub goods : after.goods ≡ before.goods
  pub items : after.items ≡ before.items

-- a change marks no items and no days: the marks of single items and skills, and those of all items and days of a unit
-- at once, stay as they were
abbrev pub MarksNoGoods : Marks → Marks → Type 0
MarksNoGoods before after = MarksNoItems before after × (after.skills ≡ before.skills)

-- The days of study by skill (`days`), with those of each listed skill set to the number beside it. Of two pairs of one
-- skill the later counts, and the result has no skill that is set to 0.
abbrev pub with_days : FinMap nat_cmp ℕ → List (ℕ × ℕ) → FinMap nat_cmp ℕ
with_days days list = fold (λ all e. with_amount_of all e.0 e.1) days list
