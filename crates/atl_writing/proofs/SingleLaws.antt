-- Laws on writing single marked amounts, of items, skills or stocks: writing each of them writes all of them.
-- `old` is the state before the first of them, `mid` before the one that a law is on, and `new` after it.
-- An owner is a unit or a region. `finds` chooses rows of the table by a test of the numbers of owner and thing
-- (`FindsByNumbers`). `Wanted` are the rows that the table has to have. Each step is in a database with the ten tables.
-- `now` are the things, or the owners, left to write at `mid`, `rest` those at `new`, and `all` those at `old`.
use Rattle.std.proofs.Common.{◌≡◌, ◌&&◌, ◌||◌, ℕ, Bool, true, false, cond, List, [], ◌∷◌, map, is_some, unwrap_or, Some, Less, Equal, Greater, refl, sym, ap, ◌∙◌, inl, inr, true≢false}
use Rattle.std.specs.List.{list_any}
use Rattle.std.specs.Ordering.{nat_cmp, is_eq, is_lt, eq_by_cmp}
use Rattle.std.specs.FinMap.{FinMap, get, empty, entries, find, is_sorted, get-empty, get-entries}
use Rattle.std.specs.FinMap.Entries.{below_all}
use Rattle.std.proofs.lemmas.Bool.{cases_Bool, and_parts}
use Rattle.std.proofs.Math.Bool.{and-false, or-false, and-or_distrib_left}
use Rattle.sqlite.specs.Effect.{Database}
use Rattle.sqlite.specs.Order.{Row}
use Rattle.sqlite.specs.State.{State}
use Rattle.sqlite.specs.Table.{Table}
use Rattle.atl_campaign.specs.Marks.{MarkedThings}
use Rattle.atl_descriptions.specs.Sets.{Set}
use Rattle.atl_sql.specs.Inside.{DoesInside, HasTables}
use Rattle.atl_writing.specs.Marked.{has_thing}
use Rattle.atl_writing.specs.Rewriting.{FindsByNumbers, Rewrites, equals_number, is_among, is_owner_and_thing, is_owner_and_listed}
use Rattle.atl_writing.proofs.EntryLaws.{in_order}
use Rattle.atl_writing.proofs.RewriteLaws.{Remaining, one_less_remaining, all_rewritten}
use Rattle.atl_world.proofs.GeneralLaws.{same_key}

-- ---- the entries of a map

listed_key : {V : Type 0} (es : List (ℕ × V)) (t : ℕ) → is_among (map (λ e. e.0) es) t ≡ is_some (find nat_cmp t es)
listed_key [] t = refl
listed_key (e ∷ es) t =
    elim (eq_by_cmp nat_cmp t e.0) as
    (λ b. (b || is_among (map (λ x. x.0) es) t) ≡ is_some (cond b (Some e.1) (find nat_cmp t es)))
    [ true ↦ refl | false ↦ listed_key es t ]

differs : (k n : ℕ) → is_lt (nat_cmp k n) ≡ true → equals_number n k ≡ false
differs k n less = elim (nat_cmp k n) as (λ o. is_lt o ≡ true → is_eq o ≡ false) [
  | Less ↦ λ _. refl
  | Equal ↦ λ never. absurd (true≢false (sym never))
  | Greater ↦ λ _. refl
] less

module _ {V : Type 0} where
  -- whether a pair of numbers is an owner's number and the number of one of the owner's listed things
  abbrev pub is_key : ℕ → List (ℕ × V) → ℕ → ℕ → Bool
  is_key owner es n t = equals_number owner n && is_among (map (λ e. e.0) es) t

  -- whether a pair of numbers is that of a listed owner, and of a thing in the map that is listed under this owner
  abbrev pub is_listed : List (ℕ × FinMap nat_cmp V) → ℕ → ℕ → Bool
  is_listed es n t = list_any (λ e. is_owner_and_listed e.0 e.1 n t) es

  not_listed : (es : List (ℕ × FinMap nat_cmp V)) (n t : ℕ) → below_all nat_cmp n es ≡ true → is_listed es n t ≡ false
  not_listed [] n t below = refl
  not_listed (e ∷ es) n t below =
      ap (λ b. b && is_some (get e.1 t) || is_listed es n t) (differs n e.0 (and_parts _ _ below).0)
      ∙ not_listed es n t (and_parts _ _ below).1

  listed_thing : (es : List (ℕ × FinMap nat_cmp V)) (n t : ℕ) → is_sorted nat_cmp es ≡ true
      → is_listed es n t ≡ is_some (get (unwrap_or (find nat_cmp n es) empty) t)
  listed_thing [] n t sorted = sym (ap is_some (get-empty {X = V} nat_cmp t))
  listed_thing (e ∷ es) n t sorted = elim (cases_Bool (eq_by_cmp nat_cmp n e.0)) [
    | inl here ↦
        ap (λ b. b && is_some (get e.1 t) || is_listed es n t) here
        ∙ ap (λ b. is_some (get e.1 t) || b) (ap (λ k. is_listed es k t) (same_key n e.0 here) ∙ not_listed es e.0 t (and_parts _ _ sorted).0)
        ∙ or-false (is_some (get e.1 t))
        ∙ ap (λ b. is_some (get (unwrap_or (cond b (Some e.1) (find nat_cmp n es)) empty) t)) (sym here)
    | inr other ↦ ap (λ b. b && is_some (get e.1 t) || is_listed es n t) other ∙ listed_thing es n t (and_parts _ _ sorted).1 ∙ ap (λ b. is_some (get (unwrap_or (cond b (Some e.1) (find nat_cmp n es)) empty) t)) (sym other)
  ]

-- ---- one amount after another, and one owner after another

module _ (table : Table) (Wanted : Set) (finds : (ℕ → ℕ → Bool) → Row → Bool) where
  -- the amounts that `rest` chooses are left to rewrite: once they are rewritten, all that `all` chooses are
  -- (`Remaining`)
  abbrev pub RemainingSingles : (ℕ → ℕ → Bool) → (ℕ → ℕ → Bool) → Database → Database → Type 0
  RemainingSingles rest all = Remaining table Wanted (λ r. finds rest r) (λ r. finds all r)

  -- the rows that `finds` finds by this test of their numbers become those of `Wanted`; all others stay (`Rewrites`)
  abbrev RewritesFound : (ℕ → ℕ → Bool) → Database → Database → Type 0
  RewritesFound found = Rewrites table (λ r. finds found r) Wanted

  module _ (by_numbers : FindsByNumbers finds) where
    finds_same : (f g : ℕ → ℕ → Bool) → ((n t : ℕ) → f n t ≡ g n t) → (r : Row) → finds f r ≡ finds g r
    finds_same f g same r = ap (λ (h : ℕ → ℕ → Bool). finds h r) (λ i n t. same n t i)

    finds_none : (f : ℕ → ℕ → Bool) → ((n t : ℕ) → f n t ≡ false) → (r : Row) → finds f r ≡ false
    finds_none f never r = finds_same f (λ n t. false) never r ∙ by_numbers.none r

    one_less_amount : (step rest next all : ℕ → ℕ → Bool) → ((n t : ℕ) → rest n t ≡ (step n t || next n t))
        → (old mid new : State)
        → DoesInside HasTables (RemainingSingles rest all) old mid → DoesInside HasTables (RewritesFound step) mid new
        → DoesInside HasTables (RemainingSingles next all) old new
    one_less_amount step rest next all parts =
        one_less_remaining table Wanted (λ r. finds step r) (λ r. finds rest r) (λ r. finds next r) (λ r. finds all r)
        (λ r. finds_same rest (λ n t. step n t || next n t) parts r ∙ by_numbers.either step next r)

    none_remaining : (rest all goal : ℕ → ℕ → Bool) → ((n t : ℕ) → rest n t ≡ false) → ((n t : ℕ) → all n t ≡ goal n t)
        → (old new : State)
        → DoesInside HasTables (RemainingSingles rest all) old new → DoesInside HasTables (RewritesFound goal) old new
    none_remaining rest all goal none same =
        all_rewritten table Wanted (λ r. finds rest r) (λ r. finds all r) (λ r. finds goal r) (finds_none rest none)
        (finds_same all goal same)

    module _ {V : Type 0} where
      -- after the amount of `x`, the next thing of an owner, is rewritten, only those of the things after it are left
      -- to rewrite
      pub one_less_single : (owner : ℕ) (x : ℕ × V) (now rest all : List (ℕ × V)) → now ≡ x ∷ rest
          → (old mid new : State)
          → DoesInside HasTables (RemainingSingles (is_key owner now) (is_key owner all)) old mid
          → DoesInside HasTables (RewritesFound (is_owner_and_thing owner x.0)) mid new
          → DoesInside HasTables (RemainingSingles (is_key owner rest) (is_key owner all)) old new
      one_less_single owner x now rest all is =
          one_less_amount (is_owner_and_thing owner x.0) (is_key owner now) (is_key owner rest) (is_key owner all)
          (λ n t. ap (λ es. is_key owner es n t) is ∙ and-or_distrib_left (equals_number owner n) (equals_number x.0 t) (is_among (map (λ e. e.0) rest) t))

      -- when no thing of an owner is left to rewrite, the amounts of all its things, those of the map `numbers`, are
      -- rewritten
      pub singles_rewritten : (owner : ℕ) (numbers : FinMap nat_cmp V) (rest all : List (ℕ × V)) → rest ≡ []
          → all ≡ entries numbers → (old new : State)
          → DoesInside HasTables (RemainingSingles (is_key owner rest) (is_key owner all)) old new
          → DoesInside HasTables (RewritesFound (is_owner_and_listed owner numbers)) old new
      singles_rewritten owner numbers rest all none is =
          none_remaining (is_key owner rest) (is_key owner all) (is_owner_and_listed owner numbers)
          (λ n t. ap (λ es. is_key owner es n t) none ∙ and-false (equals_number owner n))
          (λ n t. ap (λ es. is_key owner es n t) is ∙ ap (λ b. equals_number owner n && b) (listed_key (entries numbers) t ∙ ap is_some (sym (get-entries numbers t))))

      -- after the amounts of `x`, the next owner with its things, are rewritten, only those of the owners after it are
      -- left to rewrite
      pub one_less_owner : (x : ℕ × FinMap nat_cmp V) (now rest all : List (ℕ × FinMap nat_cmp V)) → now ≡ x ∷ rest
          → (old mid new : State)
          → DoesInside HasTables (RemainingSingles (is_listed now) (is_listed all)) old mid
          → DoesInside HasTables (RewritesFound (is_owner_and_listed x.0 x.1)) mid new
          → DoesInside HasTables (RemainingSingles (is_listed rest) (is_listed all)) old new
      one_less_owner x now rest all is =
          one_less_amount (is_owner_and_listed x.0 x.1) (is_listed now) (is_listed rest) (is_listed all)
          (λ n t. ap (λ es. is_listed es n t) is)

    -- when no owner is left to rewrite, all single marked amounts, those in `things`, are rewritten
    pub owners_rewritten : (things : MarkedThings) (rest all : List (ℕ × FinMap nat_cmp (Unit {0}))) → rest ≡ []
        → all ≡ entries things → (old new : State)
        → DoesInside HasTables (RemainingSingles (is_listed rest) (is_listed all)) old new
        → DoesInside HasTables (RewritesFound (has_thing things)) old new
    owners_rewritten things rest all none is = none_remaining (is_listed rest) (is_listed all) (has_thing things)
        (λ n t. ap (λ es. is_listed es n t) none)
        (λ n t. ap (λ es. is_listed es n t) is ∙ listed_thing (entries things) n t (in_order things) ∙ ap (λ o. is_some (get (unwrap_or o empty) t)) (sym (get-entries things n)))
