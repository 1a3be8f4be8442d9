-- A campaign after a unit used or made an amount of an item, which is booked: the steps of BUILD and PRODUCE.
use Rattle.std.specs.Prelude.{◌+◌, ◌-◌, ℕ, pos, neg_ℤ}
use Rattle.atl_records.specs.declared.books.BooksEntry.TheVariants.{Made, Used}
use Rattle.atl_records.specs.declared.books.Thing.TheVariants.{Item}
use Rattle.atl_records.specs.Holdings.{amount_of}
use Rattle.atl_campaign.specs.Campaign.{CampaignValue, with_booking, with_item}
use Rattle.atl_phase.specs.There.{at_unit}

-- A campaign after unit `n` used `amount` of item `i`, which is booked as used. None of it is left if the unit held
-- less. Where the unit isn't there, nothing changes.
abbrev pub with_used : CampaignValue → ℕ → (item amount : ℕ) → CampaignValue
with_used c n i amount =
    at_unit c n (λ u.
    with_booking (with_item c n i (amount_of u.holding.items i - amount)) Used (Item i) (neg_ℤ (pos amount)))

-- a campaign after unit `n` made `amount` of item `i`, booked as made; unchanged where the unit isn't there
abbrev pub with_made : CampaignValue → ℕ → (item amount : ℕ) → CampaignValue
with_made c n i amount =
    at_unit c n (λ u.
    with_booking (with_item c n i (amount_of u.holding.items i + amount)) Made (Item i) (pos amount))
