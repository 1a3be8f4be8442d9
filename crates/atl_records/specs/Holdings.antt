-- The value of a holding in contracts: name, men, money, guard flag, items and days. No amount of 0 is listed, but for
-- days of 0 that a stored row has.
use Rattle.std.specs.Prelude.{◌≡◌, ◌≤◌, ◌==◌, ◌&&◌, List, ℕ, Bool, not, refl, unwrap_or, Option, None, Some, if◌then◌else◌}
use Rattle.std.specs.Ordering.{nat_cmp}
use Rattle.std.specs.Coded.{Coded, code_by, coded×, coded_ℕ, coded_list, coded_bool}
use Rattle.std.specs.FinMap.{FinMap, code, get, insert, remove}
use Rattle.atl_records.specs.Limits.{men_limit, holding_limit}

-- what a unit has: name, men, money, guard flag, pieces of each item by its index, and days of each skill over all men
pub record HoldingValue : Type 0 where
  pub name : List ℕ
  pub men : ℕ
  pub money : ℕ
  pub guard : Bool
  pub items : FinMap nat_cmp ℕ
  pub days : FinMap nat_cmp ℕ

-- for proofs alone: a holding encoded as nested pairs of its fields, as the kit asks of a type that contracts see
abbrev pub holding_code : Coded HoldingValue
holding_code =
    code_by (List ℕ × (ℕ × (ℕ × (Bool × (FinMap nat_cmp ℕ × FinMap nat_cmp ℕ)))))
    (coded× (coded_list coded_ℕ) (coded× coded_ℕ (coded× coded_ℕ
    (coded× coded_bool (coded× (code coded_ℕ coded_ℕ) (code coded_ℕ coded_ℕ))))))
    (λ h. (h.name, (h.men, (h.money, (h.guard, (h.items, h.days))))))
    (λ p. record { name = p.0; men = p.1.0; money = p.1.1.0; guard = p.1.1.1.0; items = p.1.1.1.1.0; days = p.1.1.1.1.1 })
    (λ _. refl)

-- the amount under a number (pieces of an item, days of a skill), 0 where none is listed
abbrev pub amount_of : FinMap nat_cmp ℕ → ℕ → ℕ
amount_of items item = unwrap_or (get items item) 0

-- whether an option lists an amount: it is Some of the amount, which isn't 0, or None where the amount is 0
abbrev pub is_listed : Option ℕ → ℕ → Bool
is_listed None amount = amount == 0
is_listed (Some listed) amount = not (amount == 0) && listed == amount

-- `has_amount items item amount`: whether `items` have the amount `amount` under the number `item` (`is_listed`)
abbrev pub has_amount : FinMap nat_cmp ℕ → ℕ → ℕ → Bool
has_amount items item amount = is_listed (get items item) amount

-- `with_amount_of items item amount`: the amounts with that under the number `item` set to `amount`; 0 is not listed
abbrev pub with_amount_of : FinMap nat_cmp ℕ → ℕ → ℕ → FinMap nat_cmp ℕ
with_amount_of items item amount = if amount == 0 then remove items item else insert items item amount

-- each listed amount of an item is from 1 to holding_limit
abbrev pub AreAmounts : FinMap nat_cmp ℕ → Type 0
AreAmounts items = (item amount : ℕ) → get items item ≡ Some amount → (1 ≤ amount) × (amount ≤ holding_limit)

-- men, money and each item of a holding are within their limits, and no item is listed with 0
pub record IsHolding (h : HoldingValue) : Type 0 where
  pub men : h.men ≤ men_limit
  pub money : h.money ≤ holding_limit
  pub items : AreAmounts h.items
