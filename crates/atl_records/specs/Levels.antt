-- Levels of skills, and what units weigh and carry. See docs/RULES.md, "Levels and loads".
use Rattle.std.specs.Prelude.{◌==◌, ◌+◌, ◌*◌, ℕ, zero, suc, Bool, Option, Some, None, nat_le, sum_by, if◌then◌else◌}
use Rattle.std.specs.List.{slice_get}
use Rattle.std.specs.Option.{option_map_or}
use Rattle.std.specs.FinMap.{entries}
use Rattle.atl_world.specs.Limits.{last_level}
use Rattle.atl_world.specs.Worlds.{WorldValue}
use Rattle.atl_records.specs.declared.levels.Measure.{Measure}
use Rattle.atl_records.specs.declared.levels.Measure.TheVariants.{Weight, Carry}
use Rattle.atl_records.specs.Holdings.{HoldingValue, amount_of}
use Rattle.atl_records.specs.Limits.{level_days}

-- the greatest number from 1 to n that passes a test, or 0 where none does
abbrev pub greatest : (ℕ → Bool) → ℕ → ℕ
greatest passes zero = 0
greatest passes (suc n) = if passes (suc n) then suc n else greatest passes n

-- `days_for level men`: the days of study that `men` men together need for a level, 15 * level * (level + 1) each
abbrev pub days_for : ℕ → ℕ → ℕ
days_for level men = level_days * level * (level + 1) * men

-- `level_of days men`: the greatest level from 0 to 5 for which the men's days of study together suffice; 0 without men
unfoldable pub level_of : ℕ → ℕ → ℕ
level_of days men = if men == 0 then 0 else greatest (λ level. nat_le (days_for level men) days) last_level

-- the level of a unit's men in a skill, by the days that they have studied it; 0 without men
abbrev pub level_in : HoldingValue → (skill : ℕ) → ℕ
level_in h skill = level_of (amount_of h.days skill) h.men

-- the level of a unit's men in a skill (`level_in`), 0 where no skill is named
abbrev pub level_in_any : HoldingValue → Option ℕ → ℕ
level_in_any h None = 0
level_in_any h (Some skill) = level_in h skill

-- what one piece of an item weighs, 0 for an item that the world does not have
abbrev pub weight_of : WorldValue → ℕ → ℕ
weight_of w item = option_map_or (λ x. x.weight) (slice_get w.items item) 0

-- the weight of goods that one piece of an item carries, 0 for an item that the world does not have
abbrev pub carry_of : WorldValue → ℕ → ℕ
carry_of w item = option_map_or (λ x. x.carry) (slice_get w.items item) 0

-- what one piece of an item weighs, or what it carries, as the measure says; 0 for an item that the world does not have
abbrev pub measure_of : Measure → WorldValue → ℕ → ℕ
measure_of Weight w item = weight_of w item
measure_of Carry w item = carry_of w item

-- the weight of a unit's goods, or what they carry, by the measure: amount times weight (or carry), over all its items
abbrev pub goods_measure : Measure → WorldValue → HoldingValue → ℕ
goods_measure m w h = sum_by (λ e. e.1 * measure_of m w e.0) (entries h.items)

-- the weight of a unit's goods: the sum of amount times weight over the items that it holds
abbrev pub goods_weight : WorldValue → HoldingValue → ℕ
goods_weight w h = sum_by (λ e. e.1 * weight_of w e.0) (entries h.items)

-- the weight that a unit's goods carry: the sum of amount times carry over the items that it holds
abbrev pub carried_by_goods : WorldValue → HoldingValue → ℕ
carried_by_goods w h = sum_by (λ e. e.1 * carry_of w e.0) (entries h.items)

-- the load of a unit: its men, at the rule man_weight each, and the weight of its goods; money weighs nothing
abbrev pub load_of : WorldValue → HoldingValue → ℕ
load_of w h = h.men * w.rules.man_weight + goods_weight w h

-- the weight that a unit can carry: what its men carry, at the rule man_carry each, and what its goods carry
abbrev pub carried_by : WorldValue → HoldingValue → ℕ
carried_by w h = h.men * w.rules.man_carry + carried_by_goods w h
