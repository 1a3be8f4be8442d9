-- Laws of the map of values by their own numbers: how many values it has, and what holds of each. `vs` is the list of
-- the values; of those with the same number the map has the first.
use Rattle.std.proofs.Common.{◌≡◌, ◌≤◌, ℕ, zero, suc, ◌==◌, Bool, true, false, cond, List, [], ◌∷◌, length, Option, Some, refl, subst, sym, ap, ◌∙◌, arith}
use Rattle.std.specs.Cmp.{nat_cmp_total, unsigned_tied}
use Rattle.std.specs.FinMap.{FinMap, empty, get, len, get-empty, get-insert, len-empty}
use Rattle.std.specs.Ordering.{nat_cmp}
use Rattle.atl_tables.specs.EachIndex.{EachIndex}
use Rattle.atl_world.specs.Sums.{by_number}
use Rattle.atl_world.proofs.GeneralLaws.{is_equal, insert_adds_at_most_one}

pub len_none : {V : Type 0} (m : FinMap nat_cmp V) → m ≡ empty → len m ≡ 0
len_none {V} m e = ap len e ∙ len-empty nat_cmp V

-- `number` gives the number under which a value is put
module _ {V : Type 0} (number : V → ℕ) where
  pub map_is_no_longer_than_list : (vs : List V) → len (by_number number vs) ≤ length vs
  map_is_no_longer_than_list [] = omega (arith, len-empty nat_cmp V)
  map_is_no_longer_than_list (v ∷ vs) =
      omega (arith, insert_adds_at_most_one (by_number number vs) (number v) v, map_is_no_longer_than_list vs)

  -- P is a property of a value under its number
  module _ (P : ℕ → V → Type 0) where
    -- for `property_holds_in_map`, where o is what the map had under n before, and b says whether n is the number of u
    property_holds_after_put : (b : Bool) (n : ℕ) (u v : V) (o : Option V) → (n == number u) ≡ b → P (number u) u
        → (o ≡ Some v → P n v) → cond b (Some u) o ≡ Some v → P n v
    property_holds_after_put true n u v o e here rest h =
        let same : u ≡ v = cc in
        subst (P n) same (subst (λ k. P k u) (sym (is_equal n (number u) e)) here)
    property_holds_after_put false n u v o e here rest h = rest h

    -- if P holds of each listed value under its own number, it holds of each number of the map with its value
    pub property_holds_in_map : (vs : List V) → EachIndex (λ i v. P (number v) v) vs → (n : ℕ) (v : V)
        → get (by_number number vs) n ≡ Some v → P n v
    property_holds_in_map [] all n v h = let e = get-empty {X = V} nat_cmp n in absurd (cc)
    property_holds_in_map (u ∷ vs) all n v h =
        property_holds_after_put (n == number u) n u v (get (by_number number vs) n) refl (all zero u refl) (property_holds_in_map vs (λ i x e. all (suc i) x e) n v)
        (sym (get-insert nat_cmp_total (by_number number vs) (number u) u n ∙ ap (λ b. cond b (Some u) (get (by_number number vs) n)) (unsigned_tied n (number u))) ∙ h)
