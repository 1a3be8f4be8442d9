-- For proofs alone: what is tested to decide the rules on owners, guards, and the names that factions joined under. A
-- unit guards if its guard flag is set and it has men.
use Rattle.std.specs.Prelude.{◌≡◌, ◌≢◌, ◌==◌, ◌&&◌, ℕ, Bool, true, List, [], ◌∷◌, ⊤, Option, Some, None, option_and_then, if◌then◌else◌}
use Rattle.std.specs.Option.{option_or}
use Rattle.std.specs.FinMap.{get}
use Rattle.atl_records.specs.declared.records.Faction.{Faction}
use Rattle.atl_records.specs.declared.records.Structure.{Structure}
use Rattle.atl_records.specs.declared.records.Unit.{Unit}
use Rattle.atl_campaign.specs.Campaign.{CampaignValue}
use Rattle.atl_campaign.specs.Good.{guards}
use Rattle.atl_world.specs.Every.{EachEntry}

-- structure n has no owner (0), or its owner is a unit of the campaign that is inside it
pub record HasOwnerInside (c : CampaignValue) (n : ℕ) (s : Structure) : Type 0 where
  pub owned : s.owner ≢ 0 → (u : Unit) × (get c.units s.owner ≡ Some u) × (u.structure ≡ n)

-- the faction of unit n, if the unit exists and guards its region, else None
abbrev pub guard_of : CampaignValue → ℕ → Option ℕ
guard_of c n = option_and_then (λ u. if guards u then Some u.faction else None) (get c.units n)

-- whether the factions of two units agree, None for a unit that doesn't guard: they are equal, or one of them is None
abbrev pub agree : Option ℕ → Option ℕ → Bool
agree None b = true
agree (Some x) None = true
agree (Some x) (Some y) = x == y

-- `one_holder faction holder ns`: whether the factions that `faction` gives for the listed units, where it gives one,
-- are all the same, and are `holder`, if that is Some
abbrev pub one_holder : (ℕ → Option ℕ) → Option ℕ → List ℕ → Bool
one_holder faction holder [] = true
one_holder faction holder (n ∷ ns) = agree (faction n) holder && one_holder faction (option_or holder (faction n)) ns

-- no two factions of the list joined under the same name
abbrev pub JoinedNamesDiffer : List (ℕ × Faction) → Type 0
JoinedNamesDiffer [] = ⊤
JoinedNamesDiffer (e ∷ es) = EachEntry (λ n f. e.1.joined_as ≢ f.joined_as) es × JoinedNamesDiffer es
