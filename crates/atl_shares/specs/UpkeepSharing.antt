-- How the units of one faction in one region share their upkeep: what each pays and how many starve.
-- Upkeep is what a unit's men cost in a month, the maintenance for each. See docs/RULES.md, "Upkeep".
use Rattle.std.specs.Prelude.{ℕ, nat_lt, ◌+◌, ◌-◌, ◌*◌, ◌/◌, ◌==◌, ◌&&◌, Bool, List, filter, map, min, ◌≤◌, ◌<◌}
use Rattle.std.specs.List.{AllPairs, sum_by}
use Rattle.atl_records.specs.Limits.{holding_limit, men_limit}
use Rattle.atl_shares.specs.declared.upkeep_sharing.UpkeepInput.{UpkeepInput}
use Rattle.atl_shares.specs.declared.upkeep_sharing.UpkeepResult.{UpkeepResult}
use Rattle.atl_shares.specs.InTurn.{amount_in_turn}

-- a unit has at most 999,999 men (`men_limit`) and at most 999,999,999 money (`holding_limit`)
pub record IsUpkeepInput (input : UpkeepInput) : Type 0 where
  pub men : input.men ≤ men_limit
  pub money : input.money ≤ holding_limit

-- the units are sorted by their numbers, each once
abbrev pub AreInOrder : List UpkeepInput → Type 0
AreInOrder inputs = AllPairs (λ p q. p.unit < q.unit) inputs

-- ---- a unit by itself

-- the money that a unit pays for its own men: the lesser of its money and what they cost at this maintenance for each
abbrev pub paid_by : ℕ → UpkeepInput → ℕ
paid_by maintenance input = min input.money (maintenance * input.men)

-- the money that a unit has left after it paid for its own men, at this maintenance for each
abbrev pub left_of : ℕ → UpkeepInput → ℕ
left_of maintenance input = input.money - paid_by maintenance input

-- the money that a unit is short of for its own men, at this maintenance for each
abbrev pub short_of : ℕ → UpkeepInput → ℕ
short_of maintenance input = maintenance * input.men - paid_by maintenance input

-- ---- the units of a faction in a region

-- whether a unit is of this faction and in this region
abbrev pub is_input_of : (region faction : ℕ) → UpkeepInput → Bool
is_input_of region faction input = (input.region == region) && (input.faction == faction)

-- the listed units of this faction in this region
abbrev pub peers_of : (region faction : ℕ) → List UpkeepInput → List UpkeepInput
peers_of region faction inputs = filter (is_input_of region faction) inputs

-- what units with money left give to those that are short, at this maintenance: the lesser of all left and all short
abbrev pub given_among : ℕ → (peers : List UpkeepInput) → ℕ
given_among maintenance peers =
    min (sum_by (left_of maintenance) peers) (sum_by (short_of maintenance) peers)

-- ---- a unit among them: `peers` are the units of its faction in its region, the unit among them

-- the units of its faction in its region with lower numbers than the unit's, which have their turn before it
abbrev pub peers_before : (peers : List UpkeepInput) → UpkeepInput → List UpkeepInput
peers_before peers input = filter (λ p. nat_lt p.unit input.unit) peers

-- the money that a unit gives in its turn, at this maintenance: all that it has left, until `given_among` is used up
abbrev pub given_by : ℕ → (peers : List UpkeepInput) → UpkeepInput → ℕ
given_by maintenance peers input =
    amount_in_turn (given_among maintenance peers) (sum_by (left_of maintenance) (peers_before peers input)) (left_of maintenance input)

-- the money that a unit gets in its turn, at this maintenance: all that it is short of, until `given_among` is used up
abbrev pub given_to : ℕ → (peers : List UpkeepInput) → UpkeepInput → ℕ
given_to maintenance peers input =
    amount_in_turn (given_among maintenance peers) (sum_by (short_of maintenance) (peers_before peers input)) (short_of maintenance input)

-- how many men starve if the money `short` is missing: `short` divided by `maintenance`, rounded up; none where
-- `maintenance` is 0
abbrev pub starved_of : (maintenance short : ℕ) → ℕ
starved_of maintenance short = (short + (maintenance - 1)) / maintenance

-- What upkeep takes from a unit, at this maintenance for each man, where `peers` are the units of its faction in its
-- region: what it pays for its own men and gives to others, and the men who starve, for whom money is missing still.
abbrev pub upkeep_result_among : ℕ → (peers : List UpkeepInput) → UpkeepInput → UpkeepResult
upkeep_result_among maintenance peers input = record {
  unit = input.unit;
  faction = input.faction;
  paid = paid_by maintenance input + given_by maintenance peers input;
  starved = starved_of maintenance (short_of maintenance input - given_to maintenance peers input);
}

-- what upkeep takes from each of some units, at this maintenance for each man; for each only the units of its faction
-- in its region count
abbrev pub upkeep_results_of : ℕ → List UpkeepInput → List UpkeepResult
upkeep_results_of maintenance inputs =
    map (λ p. upkeep_result_among maintenance (peers_of p.region p.faction inputs) p) inputs

-- ---- what a unit can spare

-- what upkeep takes from a unit is no more than its money, and no more than its men
pub record CanSpare (upkeep_result : UpkeepResult) (men money : ℕ) : Type 0 where
  pub paid : upkeep_result.paid ≤ money
  pub starved : upkeep_result.starved ≤ men

-- the law that upkeep takes no more from any unit than its money and its men, whatever the maintenance and the `peers`
abbrev pub EachCanSpare : Type 0
EachCanSpare =
    (maintenance : ℕ) (peers : List UpkeepInput) (input : UpkeepInput) →
    CanSpare (upkeep_result_among maintenance peers input) input.men input.money
