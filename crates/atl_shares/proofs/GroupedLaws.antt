-- The law of a value that is set in a map of maps, whose inner maps are called groups.
use Rattle.std.proofs.Common.{◌≡◌, ◌==◌, ◌&&◌, ℕ, Bool, true, false, cond, Some, refl, ap, ◌∙◌}
use Rattle.std.specs.Prelude.{unwrap_or}
use Rattle.std.specs.Ordering.{nat_cmp}
use Rattle.std.specs.Cmp.{nat_cmp_total}
use Rattle.std.specs.FinMap.{FinMap, empty, get, get-insert, insert}
use Rattle.atl_world.specs.Groups.{group_of}
use Rattle.atl_world.proofs.GeneralLaws.{is_equal, key_equality_is_symmetric}

-- `m` has a group by number, and a group has a value by number. Value `a` is set under number `f` of group `r`.
module _ {V : Type 0} (m : FinMap nat_cmp (FinMap nat_cmp V)) (r f : ℕ) (a : V) where
  -- Once `a` is set under number `f` of group `r`, a look-up of number `g` in group `s` finds `a` if `g` is `f` and
  -- `s` is `r`, and else what it found before.
  pub get-grouped : (s g : ℕ)
      → get (group_of (insert m r (insert (group_of m r) f a)) s) g
      ≡ cond ((r == s) && (f == g)) (Some a) (get (group_of m s) g)
  get-grouped s g =
      ap (λ o. get (unwrap_or o empty) g) (get-insert nat_cmp_total m r (insert (group_of m r) f a) s ∙ ap (λ b. cond b (Some (insert (group_of m r) f a)) (get m s)) (key_equality_is_symmetric s r))
      ∙ by_group (r == s) refl
    where
      by_group : (b : Bool) → (r == s) ≡ b
          → get (unwrap_or (cond b (Some (insert (group_of m r) f a)) (get m s)) empty) g ≡ cond (b && (f == g)) (Some a) (get (group_of m s) g)
      by_group true is =
          get-insert nat_cmp_total (group_of m r) f a g
          ∙ ap (λ b. cond b (Some a) (get (group_of m r) g)) (key_equality_is_symmetric g f)
          ∙ ap (λ k. cond (f == g) (Some a) (get (group_of m k) g)) (is_equal r s is)
      by_group false is = refl
