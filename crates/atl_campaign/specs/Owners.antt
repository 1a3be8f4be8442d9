-- Where units are, and who owns the structures that they leave and enter. See docs/RULES.md, "Owners".
use Rattle.std.specs.Prelude.{◌==◌, ℕ, List, [], ◌∷◌, filter, not, Bool, false, Option, Some, None, if◌then◌else◌}
use Rattle.std.specs.FinMap.{get, remove}
use Rattle.atl_records.specs.declared.records.Structure.{Structure}
use Rattle.atl_records.specs.declared.records.Unit.{Unit}
use Rattle.atl_campaign.specs.Campaign.{CampaignValue, numbers_inside, unit_changed, with_owner}

-- the first of some numbers, or 0 where there is none
abbrev pub first_or_zero : List ℕ → ℕ
first_or_zero [] = 0
first_or_zero (n ∷ ns) = n

-- the first of some numbers that isn't `leaving`, or 0 where there is none
abbrev pub first_other : List ℕ → ℕ → ℕ
first_other ns leaving = first_or_zero (filter (λ n. not (n == leaving)) ns)

-- the next owner of structure s when its owner `leaving` leaves: the lowest-numbered other unit inside, or 0 (nobody)
-- where there is none
abbrev pub heir : CampaignValue → ℕ → ℕ → ℕ
heir c s leaving = first_other (numbers_inside s c.units) leaving

-- `owner_after` once structure s is looked up: its owner, or the next one (`heir`) if unit `leaving` owns it; 0 where s
-- isn't there (None)
abbrev pub owner_after_at : CampaignValue → ℕ → ℕ → Option Structure → ℕ
owner_after_at c s leaving None = 0
owner_after_at c s leaving (Some x) = if x.owner == leaving then heir c s leaving else x.owner

-- The owner of structure s once unit `leaving` has left it; 0 where there is no such structure. The owner stays, but if
-- `leaving` owns it, it is the lowest-numbered other unit inside, or 0 (nobody) without one.
abbrev pub owner_after : CampaignValue → ℕ → ℕ → ℕ
owner_after c s leaving = owner_after_at c s leaving (get c.structures s)

-- whether a structure is there, and its owner is n: a unit, or 0 for nobody
abbrev pub is_owned_by : Option Structure → ℕ → Bool
is_owned_by None n = false
is_owned_by (Some x) n = x.owner == n

-- the campaign with structure s, if it is there and its owner is `from`, given the owner `to`; 0 is nobody
abbrev pub after_handover : CampaignValue → ℕ → ℕ → ℕ → CampaignValue
after_handover c s from to = if is_owned_by (get c.structures s) from then with_owner c s to else c

-- the campaign with unit n put in region r and structure s (0: none), if there is such a unit; no owner changes
abbrev pub with_position : CampaignValue → ℕ → ℕ → ℕ → CampaignValue
with_position c n r s = unit_changed (λ u. record u { region = r; structure = s }) c n

-- `with_place` once unit n is looked up (the last argument; None: it isn't there, and nothing changes). n is put in
-- region r and structure s (0: in none). Where that changes its structure, the one that n leaves gets its next owner
-- (`heir`) if n owned it, and n owns s if s is there and has no owner.
abbrev pub with_place_at : CampaignValue → ℕ → ℕ → ℕ → Option Unit → CampaignValue
with_place_at c n r s None = c
with_place_at c n r s (Some u) =
    if u.structure == s then with_position c n r s
    else after_handover (after_handover (with_position c n r s) u.structure n (heir c u.structure n)) s 0 n

-- the campaign with unit n, if it is there, put in region r and structure s, or in no structure where s is 0. A
-- structure that n owned and leaves goes to the lowest-numbered other unit inside, or to nobody. Where n enters a
-- structure without an owner, n owns that.
unfoldable pub with_place : CampaignValue → ℕ → ℕ → ℕ → CampaignValue
with_place c n r s = with_place_at c n r s (get c.units n)

-- `without_unit` once unit n is looked up: n is removed, and the structure that it was inside gets its next owner if n
-- owned it; where n isn't there (None), nothing changes
abbrev pub without_unit_at : CampaignValue → ℕ → Option Unit → CampaignValue
without_unit_at c n None = c
without_unit_at c n (Some u) = after_handover (record c { units = remove c.units n }) u.structure n (heir c u.structure n)

-- the campaign without unit n; unchanged where n isn't there. The structure that n was inside, if n owned it, goes to
-- the lowest-numbered other unit inside, or to nobody.
unfoldable pub without_unit : CampaignValue → ℕ → CampaignValue
without_unit c n = without_unit_at c n (get c.units n)
