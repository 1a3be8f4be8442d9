-- Laws of the set of the units for which their own faction wrote one of some orders: what one order more adds to it.
use Rattle.std.proofs.Common.{◌≡◌, ℕ, ◌+◌, ◌<◌, ◌≤◌, ◌||◌, Bool, true, false, cond, List, [], ◌∷◌, ◌++◌, Option, Some, is_some, refl, sym, ap, ◌∙◌, arith}
use Rattle.std.specs.List.{flat_map}
use Rattle.std.specs.Ordering.{nat_cmp, eq_by_cmp}
use Rattle.std.specs.Cmp.{nat_cmp_total}
use Rattle.std.specs.FinMap.{empty, get, get-insert}
use Rattle.std.specs.FinSet as set
use Rattle.std.proofs.lemmas.Grind.{flat_map-append}
use Rattle.atl_campaign.specs.Campaign.{CampaignValue}
use Rattle.atl_phase.specs.PhaseOrders.{Task}
use Rattle.atl_phase.specs.OrderEffects.{is_of_faction}
use Rattle.atl_pots.specs.Puts.{with_entries}
use Rattle.atl_market.specs.Idle.{own_unit, own_writers, with_writer}
use Rattle.atl_market.proofs.WantLaws.{appended_entries}

-- a set that has fewer numbers than there is room for stays within the room when one number is added
pub fits_one_more : (s : set.FinSet nat_cmp) (n room : ℕ) → set.len s < room → set.len (set.insert s n) ≤ room
fits_one_more s n room h = let is = set.len-insert nat_cmp_total s n in by_test (set.contains s n) is
  where
    by_test : (b : Bool) → set.len (set.insert s n) ≡ cond b (set.len s) (set.len s + 1)
        → set.len (set.insert s n) ≤ room
    by_test true is = omega (arith, is, h)
    by_test false is = omega (arith, is, h)

is_some-cond : {A : Type 0} (b : Bool) (a : A) (o : Option A) → is_some (cond b (Some a) o) ≡ (b || is_some o)
is_some-cond true a o = refl
is_some-cond false a o = refl

-- `t` is the order that follows the orders `ts`
module _ (c : CampaignValue) (ts : List Task) (t : Task) where
  writers_more : (b : Bool) → is_of_faction t.faction (get c.units t.unit) ≡ b
      → own_writers c (ts ++ t ∷ []) ≡ with_entries (own_writers c ts) (cond b ((t.unit, t.faction) ∷ []) [])
  writers_more b is =
      ap (with_entries empty) (flat_map-append (own_unit c) ts (t ∷ []))
      ∙ appended_entries empty (flat_map (own_unit c) ts) (own_unit c t ++ [])
      ∙ appended_entries (own_writers c ts) (own_unit c t) []
      ∙ ap (λ b. with_entries (own_writers c ts) (cond b ((t.unit, t.faction) ∷ []) [])) is

  -- the set `s` has just the units for which their own faction wrote one of the orders `ts` (`each`)
  module _ (s : set.FinSet nat_cmp) (each : (unit : ℕ) → set.contains s unit ≡ is_some (get (own_writers c ts) unit)) where
    -- once the unit of `t` is put into `s`, if its own faction wrote `t` (`with_writer`), the set has just the units
    -- for which their own faction wrote one of `ts` or `t`
    pub one_more : (unit : ℕ)
        → set.contains (with_writer c t.unit t.faction s) unit ≡ is_some (get (own_writers c (ts ++ t ∷ [])) unit)
    one_more unit = by_test (is_of_faction t.faction (get c.units t.unit)) refl
      where
        by_test : (b : Bool) → is_of_faction t.faction (get c.units t.unit) ≡ b
            → set.contains (cond b (set.insert s t.unit) s) unit ≡ is_some (get (own_writers c (ts ++ t ∷ [])) unit)
        by_test true own =
            set.contains-insert nat_cmp_total s t.unit unit ∙ ap (λ b. eq_by_cmp nat_cmp unit t.unit || b) (each unit)
            ∙ sym (ap (λ m. is_some (get m unit)) (writers_more true own) ∙ ap is_some (get-insert nat_cmp_total (own_writers c ts) t.unit t.faction unit)
            ∙ is_some-cond (eq_by_cmp nat_cmp unit t.unit) t.faction (get (own_writers c ts) unit))
        by_test false other = each unit ∙ sym (ap (λ m. is_some (get m unit)) (writers_more false other))

  -- after the unit of one order more (`with_writer`) the set has at most one number more
  pub few_more : (s : set.FinSet nat_cmp) (n : ℕ) → set.len s ≤ n → set.len (with_writer c t.unit t.faction s) ≤ n + 1
  few_more s n few = by_test (is_of_faction t.faction (get c.units t.unit))
    where
      by_test : (b : Bool) → set.len (cond b (set.insert s t.unit) s) ≤ n + 1
      by_test true = fits_one_more s t.unit (n + 1) (omega (arith, few))
      by_test false = omega (arith, few)
