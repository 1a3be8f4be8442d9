-- Laws of what all units hold of a thing: together it is within the bound of a phase.
use Rattle.std.proofs.Common.{◌≡◌, ℕ, ◌+◌, ◌*◌, ◌≤◌, List, [], ◌∷◌, length, sum_by, arith}
use Rattle.std.specs.FinMap.{entries, len-entries}
use Rattle.std.proofs.lemmas.List.Sums.{sum_by-cons}
use Rattle.std.proofs.Math.Nat.{suc-mul}
use Rattle.atl_world.specs.Worlds.{WorldValue}
use Rattle.atl_world.specs.Sums.{sum_over}
use Rattle.atl_records.specs.declared.books.Thing.{Thing}
use Rattle.atl_records.specs.declared.books.Thing.TheVariants.{Item, Money, People}
use Rattle.atl_records.specs.declared.records.Unit.{Unit}
use Rattle.atl_records.specs.Amounts.{unit_amount}
use Rattle.atl_world.specs.Every.{EachEntry}
use Rattle.atl_records.specs.Holdings.{HoldingValue, IsHolding}
use Rattle.atl_records.specs.Limits.{holding_limit, most_units}
use Rattle.atl_world.proofs.EveryLaws.{each-from_every}
use Rattle.atl_records.proofs.HoldingLaws.{amount_within}
use Rattle.atl_campaign.specs.Campaign.{CampaignValue}
use Rattle.atl_campaign.specs.Good.{IsSteady}
use Rattle.atl_phase.specs.Meaning.{most_moved}

-- if f of each pair's value in `es` is at most `most`, the sum of f over all pairs is at most their number times `most`
pub sum_within : {V : Type 0} (f : V → ℕ) (most : ℕ) (es : List (ℕ × V)) → EachEntry (λ n v. f v ≤ most) es
    → sum_by (λ e. f e.1) es ≤ length es * most
sum_within f most [] each = omega arith
sum_within {V} f most (e ∷ es) each =
    sum_step (sum_by (λ (d : ℕ × V). f d.1) (e ∷ es)) (f e.1) (sum_by (λ (d : ℕ × V). f d.1) es) (length (e ∷ es) * most) (length es * most) most (sum_by-cons (λ (d : ℕ × V). f d.1) e es) (suc-mul (length es) most) each.0 (sum_within f most es each.1)
  where
    sum_step : (s x y a b m : ℕ) → s ≡ x + y → a ≡ b + m → x ≤ m → y ≤ b → s ≤ a
    sum_step s x y a b m e f k l = omega (arith, e, f, k, l)

within_limit : (t : Thing) (h : HoldingValue) → IsHolding h → unit_amount t h ≤ holding_limit
within_limit Money h is = is.money
within_limit People h is = omega (arith, is.men)
within_limit (Item i) h is = amount_within h i is

-- in a steady campaign all units together hold less than 10^14 of each thing
pub all_held_within : (w : WorldValue) (c : CampaignValue) → IsSteady w c → (t : Thing)
    → sum_over (λ (u : Unit). unit_amount t u.holding) c.units ≤ most_moved
all_held_within w c steady t =
    sum_of_few_units (sum_over (λ (u : Unit). unit_amount t u.holding) c.units) (length (entries c.units))
    (sum_within (λ (u : Unit). unit_amount t u.holding) holding_limit (entries c.units) (each-from_every (λ n u. unit_amount t u.holding ≤ holding_limit) c.units (λ n u is. within_limit t u.holding (steady.numbers.units n u is).1)))
    (omega (arith, len-entries c.units, steady.numbers.few_units))
  where
    sum_of_few_units : (s n : ℕ) → s ≤ n * holding_limit → n ≤ most_units → s ≤ most_moved
    sum_of_few_units s n l m = omega (arith, l, m)
