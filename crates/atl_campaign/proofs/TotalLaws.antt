-- Laws of totals: amounts that are all 0 sum to 0; and a unit u, put under a number n that no unit has, adds to the total
-- of each thing t what it holds.
use Rattle.std.proofs.Common.{◌≡◌, ℕ, ◌+◌, List, [], ◌∷◌, None, sum_by, refl, ap, ◌∙◌, arith}
use Rattle.std.proofs.lemmas.List.Sums.{sum_by-cons}
use Rattle.std.specs.FinMap.{get}
use Rattle.atl_world.specs.Every.{EachEntry}
use Rattle.atl_world.specs.Sums.{sum_over}
use Rattle.atl_world.proofs.SumLaws.{sum_over-insert_new}
use Rattle.atl_records.specs.declared.books.Thing.{Thing}
use Rattle.atl_records.specs.declared.records.Region.{Region}
use Rattle.atl_records.specs.declared.records.Unit.{Unit}
use Rattle.atl_campaign.specs.Campaign.{CampaignValue, with_unit}
use Rattle.atl_records.specs.Amounts.{region_amount, unit_amount}
use Rattle.atl_campaign.specs.Totals.{total}

pub sum_of_zeros_is_zero : {V : Type 0} (f : V → ℕ) (es : List (ℕ × V)) → EachEntry (λ _ v. f v ≡ 0) es
    → sum_by (λ e. f e.1) es ≡ 0
sum_of_zeros_is_zero f [] each = refl
sum_of_zeros_is_zero {V} f (e ∷ es) each = let more = sum_by-cons (λ (e : ℕ × V). f e.1) e es in omega (arith, more, each.0, sum_of_zeros_is_zero f es each.1)

sum_is_regrouped : (a b n : ℕ) → (a + n) + b ≡ (a + b) + n
sum_is_regrouped a b n = omega arith

pub total-with_unit : (c : CampaignValue) (n : ℕ) (u : Unit) (t : Thing) → get c.units n ≡ None
    → total (with_unit c n u) t ≡ total c t + unit_amount t u.holding
unfolding total
total-with_unit c n u t fresh =
    ap (λ k. k + sum_over (λ (r : Region). region_amount t r) c.regions) (sum_over-insert_new (λ (v : Unit). unit_amount t v.holding) c.units n u fresh)
    ∙ sum_is_regrouped (sum_over (λ (v : Unit). unit_amount t v.holding) c.units) (sum_over (λ (r : Region). region_amount t r) c.regions) (unit_amount t u.holding)
