-- Laws on putting the rows of a list, one by one, into a table: putting some, and then the others, puts them all.
-- Each is said of a database with the ten tables (`HasTables`), and keeps all other tables (`DoesInside`).
-- The key of the table is its first `key` columns. Of the list `all`, the rows `xs` are put next, and `rest` later.
-- `old`, `mid` and `new` are the database or the state at first, before `xs` is put, and after.
use Rattle.std.proofs.Common.{◌≡◌, ◌≢◌, ◌↔◌, ◌++◌, ℕ, List, [], ◌∷◌, refl, sym, ◌∙◌, subst, inl, inr}
use Rattle.sqlite.specs.Order.{Row}
use Rattle.sqlite.specs.Table.{Table}
use Rattle.sqlite.specs.Effect.{Database}
use Rattle.sqlite.specs.State.{State}
use Rattle.sqlite_rules.specs.Lists.{Has}
use Rattle.atl_descriptions.specs.Sets.{Set, rows_in, put, puts}
use Rattle.atl_descriptions.specs.Tables.{all_tables}
use Rattle.atl_sql.specs.Inside.{DoesInside, HasTables, Puts, PutsRows}
use Rattle.atl_sql.proofs.CarryLaws.{carries_then, carries_none}

-- some rows of the list `all` are put: once the rows `rest` are put too, all rows of the list are; the other tables of
-- a campaign are unchanged
pub record IsPartlyPut (table : Table) (key : ℕ) (rest all : List Row) (old now : Database) : Type 0 where
  pub rows : (r : Row)
      → puts key rest (Has (rows_in table now.trees)) r ↔ puts key all (Has (rows_in table old.trees)) r
  pub others : (t : Table) → Has all_tables t → t.tree ≢ table.tree → now.trees t.tree ≡ old.trees t.tree

puts_same : (key : ℕ) (news : List Row) (S T : Set) → ((r : Row) → S r ↔ T r) → (r : Row)
    → puts key news S r ↔ puts key news T r
puts_same key [] S T same r = same r
puts_same key (new ∷ news) S T same r = puts_same key news (put key new S) (put key new T) (λ x. (
  λ h. elim h [ inl is ↦ inl is | inr was ↦ inr ((same x).0 was.0, was.1) ],
  λ h. elim h [ inl is ↦ inl is | inr was ↦ inr ((same x).1 was.0, was.1) ],
)) r

puts_append : (key : ℕ) (xs ys : List Row) (S : Set) (r : Row) → puts key (xs ++ ys) S r → puts key ys (puts key xs S) r
puts_append key [] ys S r h = h
puts_append key (x ∷ xs) ys S r h = puts_append key xs ys (put key x S) r h

append_puts : (key : ℕ) (xs ys : List Row) (S : Set) (r : Row) → puts key ys (puts key xs S) r → puts key (xs ++ ys) S r
append_puts key [] ys S r h = h
append_puts key (x ∷ xs) ys S r h = append_puts key xs ys (put key x S) r h

-- the key of the table is its first `key` columns
module _ (table : Table) (key : ℕ) where
  towards_rows : (xs rest all : List Row) (old mid new : Database) → IsPartlyPut table key (xs ++ rest) all old mid
      → PutsRows table key xs mid new → IsPartlyPut table key rest all old new
  towards_rows xs rest all old mid new so_far more = record {
    rows = λ r.
        let same = puts_same key rest (Has (rows_in table new.trees)) (puts key xs (Has (rows_in table mid.trees))) more.rows r in (
          λ h. (so_far.rows r).0 (append_puts key xs rest _ r (same.0 h)),
          λ h. same.1 (puts_append key xs rest _ r ((so_far.rows r).1 h)),
        );
    others = λ t listed other. more.others t listed other ∙ so_far.others t listed other;
  }

  puts_one : (x : Row) (old new : Database) → Puts table key x old new → PutsRows table key (x ∷ []) old new
  puts_one x old new one = record { rows = one.rows; others = one.others }

  -- if the rows `xs` and then `rest` are still to put (`IsPartlyPut`), and those of `xs` are put, only `rest` is left
  pub inside_rows : (xs rest all : List Row) (old mid new : State)
      → DoesInside HasTables (IsPartlyPut table key (xs ++ rest) all) old mid
      → DoesInside HasTables (PutsRows table key xs) mid new
      → DoesInside HasTables (IsPartlyPut table key rest all) old new
  inside_rows xs rest all old mid new so_far more = (
    more.0 ∙ so_far.0,
    λ has.
        let was = so_far.1 has in
        let now = more.1 was.tables in
        record { does = towards_rows xs rest all old.now mid.now new.now was.does now.does; tables = now.tables; carries = carries_then old.now mid.now new.now was.carries now.carries },
  )

  -- at first all rows are still to put, and nothing has changed (`IsPartlyPut`)
  pub none_yet : (rest all : List Row) → rest ≡ all → (s : State)
      → DoesInside HasTables (IsPartlyPut table key rest all) s s
  none_yet rest all same s = (
    refl,
    λ has. record {
      does = record { rows = λ r. subst (λ rows. puts key rest (Has (rows_in table s.now.trees)) r ↔ puts key rows (Has (rows_in table s.now.trees)) r) same (λ h. h, λ h. h); others = λ t listed other. refl };
      tables = has;
      carries = carries_none s.now;
    },
  )

  -- once no row is left to put, all rows of the list `all` are put (`PutsRows`)
  pub all_put : (rest all : List Row) → rest ≡ [] → (old new : State)
      → DoesInside HasTables (IsPartlyPut table key rest all) old new
      → DoesInside HasTables (PutsRows table key all) old new
  all_put rest all none old new did = (
    did.0,
    λ has.
        let made = did.1 has in
        record {
          does = record { rows = λ r. subst (λ rows. puts key rows (Has (rows_in table new.now.trees)) r ↔ puts key all (Has (rows_in table old.now.trees)) r) none (made.does.rows r); others = made.does.others };
          tables = made.tables;
          carries = made.carries;
        },
  )

  pub none_put : (rows : List Row) → rows ≡ [] → (s : State) → DoesInside HasTables (PutsRows table key rows) s s
  none_put rows none s = all_put rows rows none s s (none_yet rows rows refl s)

  pub one_put : (row : Row) (rows : List Row) → rows ≡ row ∷ [] → (old new : State)
      → DoesInside HasTables (Puts table key row) old new → DoesInside HasTables (PutsRows table key rows) old new
  one_put row rows is old new did =
      (did.0, λ has. let made = did.1 has in record { does = subst (λ list. PutsRows table key list old.now new.now) (sym is) (puts_one row old.now new.now made.does); tables = made.tables; carries = made.carries })

  -- putting the rows `xs`, from `a` to `b`, and then the rows `ys`, from `b` to `c`, puts the rows of both lists
  pub inside_both : (xs ys : List Row) (a b c : State) → DoesInside HasTables (PutsRows table key xs) a b
      → DoesInside HasTables (PutsRows table key ys) b c → DoesInside HasTables (PutsRows table key (xs ++ ys)) a c
  inside_both xs ys a b c one two = (
    two.0 ∙ one.0,
    λ has.
        let was = one.1 has in
        let now = two.1 was.tables in
        record {
          does = record {
            rows = λ r.
                let same = puts_same key ys (Has (rows_in table b.now.trees)) (puts key xs (Has (rows_in table a.now.trees))) was.does.rows r in (
                  λ there. append_puts key xs ys _ r (same.0 ((now.does.rows r).0 there)),
                  λ h. (now.does.rows r).1 (same.1 (puts_append key xs ys _ r h)),
                );
            others = λ t listed other. now.does.others t listed other ∙ was.does.others t listed other;
          };
          tables = now.tables;
          carries = carries_then a.now b.now c.now was.carries now.carries;
        },
  )
