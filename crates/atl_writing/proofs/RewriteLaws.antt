-- Laws on rewriting the rows of a table that pass a test, one step after another, in a database with the ten tables.
-- To rewrite is to put the wanted rows (`Wanted`) that pass the test in place of the old ones. `old` is the database,
-- or the state, before the first step, `mid` before the step that a law is on, and `new` after it.
use Rattle.std.proofs.Common.{◌≡◌, ◌≢◌, ◌⊎◌, ◌↔◌, ◌||◌, ℕ, pos, Bool, true, false, List, [], ◌∷◌, take, Some, None, refl, sym, ap, ◌∙◌, subst, inl, inr, true≢false}
use Rattle.std.specs.Ordering.{nat_cmp}
use Rattle.std.specs.Cmp.{nat_cmp_total}
use Rattle.std.specs.FinMap.{FinMap, get}
use Rattle.std.specs.FinSet.{FinSet, contains, from_list, contains-from_list}
use Rattle.std.proofs.lemmas.Bool.{false_from_ne_true}
use Rattle.std.proofs.lemmas.Option.{same_Some, none-some}
use Rattle.sqlite.specs.Effect.{Database}
use Rattle.sqlite.specs.Order.{Row}
use Rattle.sqlite.specs.State.{State}
use Rattle.sqlite.specs.Table.{Table}
use Rattle.sqlite_rules.specs.Lists.{Has}
use Rattle.sqlite_value.specs.declared.value.Value.TheVariants.{Int}
use Rattle.atl_descriptions.specs.Sets.{Set, rows_in}
use Rattle.atl_descriptions.specs.Tables.{all_tables}
use Rattle.atl_sql.specs.Shown.{int}
use Rattle.atl_writing.specs.Rows.{RowsOf}
use Rattle.atl_sql.specs.Inside.{DoesInside, HasTables, Puts, Drops}
use Rattle.atl_writing.specs.Marked.{first_column_passes, begins_marked}
use Rattle.atl_writing.specs.Changing.{IfElse}
use Rattle.atl_writing.specs.Rewriting.{Rewrites, RewritesNumber, equals_number, is_among}
use Rattle.atl_sql.proofs.CarryLaws.{carries_then, carries_none}
use Rattle.atl_writing.proofs.EntryLaws.{same_number}
use Rattle.atl_writing.proofs.WholeLaws.{inside_weaker}
use Rattle.atl_world.proofs.GeneralLaws.{same_key, key_itself}

-- ---- one step after another

chosen_step : (p q : Bool) (W M N : Type 0) → N ↔ IfElse p W M → IfElse q W N ↔ IfElse (p || q) W M
chosen_step true true W M N same = (λ h. h, λ h. h)
chosen_step false true W M N same = (λ h. h, λ h. h)
chosen_step true false W M N same = same
chosen_step false false W M N same = same

-- The rows that `rest` chooses are left to rewrite: once they are rewritten, all rows that `all` chooses are.
-- The other tables are unchanged.
pub record Remaining (table : Table) (Wanted : Set) (rest all : Row → Bool) (old now : Database) : Type 0 where
  pub rows : (r : Row)
      → IfElse (rest r) (Wanted r) (Has (rows_in table now.trees) r)
      ↔ IfElse (all r) (Wanted r) (Has (rows_in table old.trees) r)
  pub others : (t : Table) → Has all_tables t → t.tree ≢ table.tree → now.trees t.tree ≡ old.trees t.tree

module _ (table : Table) (Wanted : Set) where
  -- before the first step all rows that `all` chooses are left to rewrite, if `rest` chooses the same rows
  pub all_remaining : (rest all : Row → Bool) → ((r : Row) → rest r ≡ all r) → (s : State)
      → DoesInside HasTables (Remaining table Wanted rest all) s s
  all_remaining rest all same s = (
    refl,
    λ has. record {
      does = record {
        rows = λ r. let there = Has (rows_in table s.now.trees) r in subst (λ b. IfElse (rest r) (Wanted r) there ↔ IfElse b (Wanted r) there) (same r) (λ h. h, λ h. h);
        others = λ t listed other. refl;
      };
      tables = has;
      carries = carries_none s.now;
    },
  )

  -- where `rest` is "`step` or `next`": once the rows that `step` chooses are rewritten, only those that `next` chooses
  -- are left to rewrite
  pub one_less_remaining : (step rest next all : Row → Bool) → ((r : Row) → rest r ≡ (step r || next r))
      → (old mid new : State)
      → DoesInside HasTables (Remaining table Wanted rest all) old mid
      → DoesInside HasTables (Rewrites table step Wanted) mid new
      → DoesInside HasTables (Remaining table Wanted next all) old new
  one_less_remaining step rest next all parts old mid new so_far more = (
    more.0 ∙ so_far.0,
    λ has.
        let was = so_far.1 has in
        let now = more.1 was.tables in
        record {
          does = record {
            rows = λ r.
                let before = Has (rows_in table mid.now.trees) r in
                let goal = IfElse (all r) (Wanted r) (Has (rows_in table old.now.trees) r) in
                let so = subst (λ b. IfElse b (Wanted r) before ↔ goal) (parts r) (was.does.rows r) in
                let one = chosen_step (step r) (next r) (Wanted r) before (Has (rows_in table new.now.trees) r) (now.does.rows r) in
                (λ h. so.0 (one.0 h), λ h. one.1 (so.1 h));
            others = λ t listed other. now.does.others t listed other ∙ was.does.others t listed other;
          };
          tables = now.tables;
          carries = carries_then old.now mid.now new.now was.carries now.carries;
        },
  )

  -- when no row is left to rewrite, the rows that `goal` chooses, those of `all`, are rewritten
  pub all_rewritten : (rest all goal : Row → Bool) → ((r : Row) → rest r ≡ false) → ((r : Row) → all r ≡ goal r)
      → (old new : State)
      → DoesInside HasTables (Remaining table Wanted rest all) old new
      → DoesInside HasTables (Rewrites table goal Wanted) old new
  all_rewritten rest all goal none is old new did = (
    did.0,
    λ has.
        let made = did.1 has in
        record {
          does = record {
            rows = λ r.
                let now = Has (rows_in table new.now.trees) r in
                let was = Has (rows_in table old.now.trees) r in
                subst (λ b. now ↔ IfElse b (Wanted r) was) (is r) (subst (λ b. IfElse b (Wanted r) now ↔ IfElse (all r) (Wanted r) was) (none r) (made.does.rows r));
            others = made.does.others;
          };
          tables = made.tables;
          carries = made.carries;
        },
  )

  -- after the rows that `p` chooses and then those that `q` chooses are rewritten, all that either chooses are
  pub both_rewritten : (p q : Row → Bool) (old mid new : Database) → Rewrites table p Wanted old mid
      → Rewrites table q Wanted mid new → Rewrites table (λ r. p r || q r) Wanted old new
  both_rewritten p q old mid new one two = record {
    rows = λ r.
        let both = chosen_step (p r) (q r) (Wanted r) (Has (rows_in table old.trees) r) (Has (rows_in table mid.trees) r) (one.rows r) in
        (λ h. both.0 ((two.rows r).0 h), λ h. (two.rows r).1 (both.1 h));
    others = λ t listed other. two.others t listed other ∙ one.others t listed other;
  }

  -- if the test `step` chooses no row, to do nothing rewrites the rows that it chooses
  pub none_chosen : (step : Row → Bool) → ((r : Row) → step r ≡ false) → (s : State)
      → DoesInside HasTables (Rewrites table step Wanted) s s
  none_chosen step none s = all_rewritten step step step none (λ r. refl) s s (all_remaining step step (λ r. refl) s)

-- ---- a row that begins with a number

begins_either : (f g : ℕ → Bool) (r : Row)
    → first_column_passes (λ n. f n || g n) r ≡ (first_column_passes f r || first_column_passes g r)
begins_either f g (Int (pos n) ∷ row) = refl
begins_either f g row = refl

begins_none : (r : Row) → first_column_passes (λ n. false) r ≡ false
begins_none (Int (pos n) ∷ row) = refl
begins_none row = refl

-- a row that passes the test for the number `n` begins with `n`
pub begins_key : (n : ℕ) (r : Row) → first_column_passes (equals_number n) r ≡ true → take 1 r ≡ int n ∷ []
begins_key n (Int (pos k) ∷ row) is = ap (λ k. int k ∷ []) (same_key k n is)
begins_key n row is = absurd (true≢false (sym is))

-- a row that begins with the number `n` passes the test for `n`
pub key_begins : (n : ℕ) (r : Row) → take 1 r ≡ int n ∷ [] → first_column_passes (equals_number n) r ≡ true
key_begins n [] key = absurd cc
key_begins n (v ∷ row) key =
    let value : v ≡ int n = cc in
    ap (λ x. first_column_passes (equals_number n) (x ∷ row)) value ∙ key_itself n

next_number : (n : ℕ) (ns : List ℕ) (r : Row)
    → first_column_passes (is_among (n ∷ ns)) r
    ≡ (first_column_passes (equals_number n) r || first_column_passes (is_among ns) r)
next_number n ns r = begins_either (equals_number n) (is_among ns) r

no_number : (ns : List ℕ) → ns ≡ [] → (r : Row) → first_column_passes (is_among ns) r ≡ false
no_number ns none r = ap (λ l. first_column_passes (is_among l) r) none ∙ begins_none r

listed_numbers_are_of_set : (marks : FinSet nat_cmp) (ns : List ℕ) → from_list ns ≡ marks → (r : Row)
    → first_column_passes (is_among ns) r ≡ begins_marked marks r
listed_numbers_are_of_set marks ns all r =
    ap (λ (f : ℕ → Bool). first_column_passes f r)
    (λ i n. (sym (contains-from_list nat_cmp_total ns n) ∙ ap (λ s. contains s n) all) i)

-- ---- the rows of all numbers of a set, one after another

-- In a step `now` are the numbers that are left before it, `rest` those that are left after it, and `all` those with
-- which the rewriting began.
module _ (table : Table) (Wanted : Set) where
  -- Of the numbers `all`, `rest` are left to rewrite: once their rows are rewritten, the rows of all are (`Remaining`).
  abbrev pub RemainingNumbers : List ℕ → List ℕ → Database → Database → Type 0
  RemainingNumbers rest all =
      Remaining table Wanted (λ r. first_column_passes (is_among rest) r) (λ r. first_column_passes (is_among all) r)

  -- after the rows of `n`, the next number, are rewritten, only those of the numbers after it are left to rewrite
  pub one_less_number : (n : ℕ) (now rest all : List ℕ) → now ≡ n ∷ rest → (old mid new : State)
      → DoesInside HasTables (RemainingNumbers now all) old mid
      → DoesInside HasTables (Rewrites table (first_column_passes (equals_number n)) Wanted) mid new
      → DoesInside HasTables (RemainingNumbers rest all) old new
  one_less_number n now rest all is =
      one_less_remaining table Wanted (λ r. first_column_passes (equals_number n) r)
      (λ r. first_column_passes (is_among now) r) (λ r. first_column_passes (is_among rest) r)
      (λ r. first_column_passes (is_among all) r)
      (λ r. ap (λ ns. first_column_passes (is_among ns) r) is ∙ next_number n rest r)

  -- when no number is left to rewrite, the rows of all marked numbers are rewritten, if these are the numbers `all`
  pub numbers_rewritten : (marks : FinSet nat_cmp) (rest all : List ℕ) → rest ≡ [] → from_list all ≡ marks
      → (old new : State)
      → DoesInside HasTables (RemainingNumbers rest all) old new
      → DoesInside HasTables (Rewrites table (begins_marked marks) Wanted) old new
  numbers_rewritten marks rest all none is =
      all_rewritten table Wanted (λ r. first_column_passes (is_among rest) r)
      (λ r. first_column_passes (is_among all) r) (λ r. begins_marked marks r) (no_number rest none)
      (listed_numbers_are_of_set marks all is)

-- ---- new rows that replace those with a key

-- A test `p` that finds exactly the rows of a key, and new rows that are exactly the wanted rows of the key.
module _ (p : Row → Bool) (Key New Wanted : Set) (found : (r : Row) → p r ≡ true → Key r) (finds : (r : Row) → Key r → p r ≡ true) (news : (r : Row) → New r → Key r × Wanted r) (olds : (r : Row) → p r ≡ true → Wanted r → New r) where
  in_place : (Were : Type 0) (r : Row) → (New r ⊎ (Were × ¬ Key r)) ↔ IfElse (p r) (Wanted r) Were
  in_place Were r = (ahead, back (p r) refl)
    where
      ahead : New r ⊎ (Were × ¬ Key r) → IfElse (p r) (Wanted r) Were
      ahead (inl new) = let is = news r new in subst (λ b. IfElse b (Wanted r) Were) (sym (finds r is.0)) is.1
      ahead (inr kept) =
          subst (λ b. IfElse b (Wanted r) Were) (sym (false_from_ne_true (p r) (λ is. kept.1 (found r is)))) kept.0

      back : (b : Bool) → p r ≡ b → IfElse b (Wanted r) Were → New r ⊎ (Were × ¬ Key r)
      back true is wanted = inl (olds r is wanted)
      back false is was = inr (was, λ key. true≢false (sym (finds r key) ∙ is))

  -- replacing the rows of a key by the wanted rows of the key, with all other tables as they were, rewrites the rows
  -- that the test finds, and no others
  pub rewrites_key : (table : Table) (old new : Database)
      → ((r : Row) → Has (rows_in table new.trees) r ↔ (New r ⊎ (Has (rows_in table old.trees) r × ¬ Key r)))
      → ((t : Table) → Has all_tables t → t.tree ≢ table.tree → new.trees t.tree ≡ old.trees t.tree)
      → Rewrites table p Wanted old new
  rewrites_key table old new rows others =
      record { rows = λ r. let so = in_place (Has (rows_in table old.trees) r) r in (λ h. so.0 ((rows r).0 h), λ h. (rows r).1 (so.1 h)); others = others }

-- a row that is in a table after a deletion was kept: of the two cases, that it is new and that it was kept, the first
-- is impossible
pub kept_only : {P : Type 0} → ⊥ ⊎ P → P
kept_only (inl never) = absurd never
kept_only (inr kept) = kept

-- ---- a row that is put or deleted

-- `line` makes the row of a number and its value, which begins with the number (`numbered`); `values` are the values by
-- number, and `n` is a number
module _ {V : Type 0} (table : Table) (line : ℕ → V → Row) (numbered : (n : ℕ) (v : V) → take 1 (line n v) ≡ int n ∷ []) (values : FinMap nat_cmp V) (n : ℕ) where
  wanted_at : (r : Row) → first_column_passes (equals_number n) r ≡ true → RowsOf line values r
      → (v : V) × (get values n ≡ Some v) × (r ≡ line n v)
  wanted_at r is of =
      let number : of.0 ≡ n = same_number of.0 n (sym (numbered of.0 of.1) ∙ ap (take 1) (sym of.3) ∙ begins_key n r is) in
      (of.1, ap (get values) (sym number) ∙ of.2, of.3 ∙ ap (λ k. line k of.1) number)

  put_rewrites : (old new : Database) (v : V) → get values n ≡ Some v → Puts table 1 (line n v) old new
      → RewritesNumber table line values n old new
  put_rewrites old new v there did =
      rewrites_key (first_column_passes (equals_number n)) (λ r. take 1 r ≡ take 1 (line n v)) (λ r. r ≡ line n v)
      (RowsOf line values)
      (λ r is. begins_key n r is ∙ sym (numbered n v))
      (λ r key. key_begins n r (key ∙ numbered n v))
      (λ r same. (ap (take 1) same, (n, v, there, same)))
      (λ r is of. let w = wanted_at r is of in w.2 ∙ ap (line n) (same_Some w.0 v (sym w.1 ∙ there)))
      table old new did.rows did.others

  drop_rewrites : (old new : Database) → get values n ≡ None → Drops table 1 (int n ∷ []) old new
      → RewritesNumber table line values n old new
  drop_rewrites old new none did =
      rewrites_key (first_column_passes (equals_number n)) (λ r. take 1 r ≡ int n ∷ []) (λ r. ⊥) (RowsOf line values)
      (begins_key n) (key_begins n) (λ r never. absurd never)
      (λ r is of. let w = wanted_at r is of in none-some w.0 (sym none ∙ w.1))
      table old new (λ r. let so = did.rows r in (λ h. inr (so.0 h), λ h. so.1 (kept_only h))) did.others

  -- to put the row of a number that has a value rewrites the row of the number
  pub put_done : (v : V) → get values n ≡ Some v → (old new : State)
      → DoesInside HasTables (Puts table 1 (line n v)) old new
      → DoesInside HasTables (RewritesNumber table line values n) old new
  put_done v there old new did =
      inside_weaker HasTables (Puts table 1 (line n v)) (RewritesNumber table line values n) old new
      (λ has puts. put_rewrites old.now new.now v there puts) did

  -- to delete the row of a number that has no value rewrites the row of the number
  pub drop_done : get values n ≡ None → (old new : State) → DoesInside HasTables (Drops table 1 (int n ∷ [])) old new
      → DoesInside HasTables (RewritesNumber table line values n) old new
  drop_done none old new did =
      inside_weaker HasTables (Drops table 1 (int n ∷ [])) (RewritesNumber table line values n) old new
      (λ has drops. drop_rewrites old.now new.now none drops) did
