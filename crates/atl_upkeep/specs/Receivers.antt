-- For proofs alone: the code's map of the units that receive, in the sweep, what units without men leave.
use Rattle.std.specs.Prelude.{◌≡◌, ◌==◌, ◌&&◌, ℕ, nat_lt, unwrap_or, if◌then◌else◌}
use Rattle.std.specs.Ordering.{nat_cmp}
use Rattle.std.specs.FinMap.{FinMap, get, insert}
use Rattle.atl_records.specs.declared.records.Unit.{Unit}
use Rattle.atl_campaign.specs.Campaign.{CampaignValue}
use Rattle.atl_upkeep.specs.Sweep.{receiver}
use Rattle.atl_world.specs.Groups.{group_of}

-- for each region, and then for each faction, the number of its receiver: the unit that gets what removed units leave
abbrev pub ReceiverMap : Type 0
ReceiverMap = FinMap nat_cmp (FinMap nat_cmp ℕ)

-- the number of the receiving unit of a faction in a region; 0 where there is none
abbrev pub receiver_in : ReceiverMap → (region faction : ℕ) → ℕ
receiver_in m region faction = unwrap_or (get (group_of m region) faction) 0

-- map `m` with this number as that of the receiving unit of a faction in a region; the rest of `m` stays
abbrev pub with_receiver : ReceiverMap → (region faction number : ℕ) → ReceiverMap
with_receiver m region faction number = insert m region (insert (group_of m region) faction number)

-- a map after a unit was noted, by its number: as its faction's receiver in its region, if it has men and the map has
-- none there yet; else unchanged
abbrev pub with_receiver_of : ReceiverMap → ℕ → Unit → ReceiverMap
with_receiver_of m n u =
    if nat_lt 0 u.holding.men && (receiver_in m u.region u.faction == 0) then with_receiver m u.region u.faction n
    else m

-- a map has the campaign's receiver for each region and faction: its lowest-numbered unit with men there, or 0
abbrev pub AreReceivers : CampaignValue → ReceiverMap → Type 0
AreReceivers c m = (region faction : ℕ) → receiver_in m region faction ≡ receiver c region faction

-- the first number; the second where the first is 0, which stands for no unit
abbrev pub or_if_zero : ℕ → ℕ → ℕ
or_if_zero a b = if a == 0 then b else a
