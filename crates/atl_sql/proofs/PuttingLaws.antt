-- Laws on writing the rows of a list step by step: the steps together write the whole list, or end with an error.
-- `all` are the rows of the list, and `rest` those that are still to put. `old` or `a` is the connection before the
-- first step, and `b` and `c`, or `now`, are the connection after later steps. `r` is the result of the steps: what the
-- last one returned, or the error of the one that failed. `g` is the kind of store.
use Rattle.std.proofs.Common.{◌≡◌, ◌++◌, ℕ, List, [], ◌∷◌, Result, Ok, Err, refl, sym, subst, inl}
use Rattle.std.specs.Borrow.{MutBor}
use Rattle.sqlite_trees.specs.declared.store.Store.{Ghosts}
use Rattle.sqlite.specs.declared.error.Error.{Error}
use Rattle.sqlite.specs.Held.{Held}
use Rattle.sqlite.specs.Order.{Row}
use Rattle.sqlite.specs.State.{State}
use Rattle.sqlite.specs.Table.{Table}
use Rattle.sqlite_rules.specs.Lists.{Has}
use Rattle.sqlite_rules.proofs.ListLemmas.{has_left, has_right}
use Rattle.atl_sql.specs.Inside.{DoesInside, HasTables}
use Rattle.atl_descriptions.specs.Statements.{upsert, RowStatements}
use Rattle.atl_sql.specs.Writes.{Writes, WritesRow, WritesRows}
use Rattle.atl_sql.proofs.PutsLaws.{IsPartlyPut, inside_rows, inside_both, none_yet, none_put, one_put, all_put}
use Rattle.atl_sql.proofs.WriteLaws.{HandsOn, HasDone, begins, goes_on, stops, stops_second, two_steps, weaker, writes_among_more, among_each}

-- on a clean disk, upserts of rows of the list `all` put some of them without an error; rows `rest` are still to put
pub record HasPutSome {S : Type 0} (g : Ghosts S) (table : Table) (key : ℕ) (rest all : List Row) (old now : MutBor (Held S)) : Type 0 where
  pub so_far : HasDone g (RowStatements (upsert table key) (Has all)) (DoesInside HasTables (IsPartlyPut table key rest all)) old now
  pub left : (row : Row) → Has rest row → Has all row

-- the key of the table is its first `key` columns
module _ {S : Type 0} (g : Ghosts S) (table : Table) (key : ℕ) where
  -- ---- lists of rows and their parts

  pub same_written : (xs ys : List Row) {A : Type 0} {r : Result A Error} {a b : MutBor (Held S)} → xs ≡ ys
      → WritesRows g table key xs r a b → WritesRows g table key ys r a b
  same_written xs ys {r = r} {a = a} {b = b} same done =
      subst (λ (rows : List Row). WritesRows g table key rows r a b) same done

  pub none_written : (rows : List Row) {A : Type 0} {x : A} {a : MutBor (Held S)} → rows ≡ []
      → WritesRows g table key rows (Ok x) a a
  none_written rows none = begins g (none_put table key rows none)

  pub one_written : (row : Row) (rows : List Row) {A : Type 0} {r : Result A Error} {a b : MutBor (Held S)}
      → rows ≡ row ∷ [] → WritesRow g table key row r a b → WritesRows g table key rows r a b
  one_written row rows is done =
      writes_among_more g (λ sql params only. (only.0, subst (λ (l : List Row). Has l params) (sym is) (inl only.1))) (weaker g (one_put table key row rows is) done)

  -- the rows `xs` are put, and then the rows `ys`
  module _ (xs ys : List Row) where
    first_part : {Does : State → State → Type 0} {A : Type 0} {r : Result A Error} {a b : MutBor (Held S)}
        → Writes g (RowStatements (upsert table key) (Has xs)) Does r a b
        → Writes g (RowStatements (upsert table key) (Has (xs ++ ys))) Does r a b
    first_part done = among_each g (upsert table key) (Has xs) (λ row there. (refl, has_left xs ys row there)) done

    -- writing the rows `xs` without an error, and then the rows `ys`, writes both lists, with the result of the second
    pub both_written : {A X : Type 0} {x : X} {r : Result A Error} {a b c : MutBor (Held S)}
        → WritesRows g table key xs (Ok x) a b → WritesRows g table key ys r b c
        → WritesRows g table key (xs ++ ys) r a c
    both_written one two =
        two_steps g (inside_both table key xs ys) (first_part one)
        (among_each g (upsert table key) (Has ys) (λ row there. (refl, has_right xs ys row there)) two)

    -- if putting the rows `xs` ends with an error, which is handed on as the result `r`, so does putting both lists
    pub first_failed : {A X : Type 0} {e : Error} {r : Result A Error} {a b : MutBor (Held S)}
        → WritesRows {A = X} g table key xs (Err e) a b → HandsOn e r → WritesRows g table key (xs ++ ys) r a b
    first_failed one failed = stops g (first_part one) failed

  -- ---- in a loop

  -- before the first step all rows of the list are still to put
  pub putting_begins : (rest all : List Row) {a : MutBor (Held S)} → rest ≡ all → HasPutSome g table key rest all a a
  putting_begins rest all same =
      record { so_far = begins g (none_yet table key rest all same); left = λ row there. subst (λ (l : List Row). Has l row) same there }

  -- of the rows `all` those of `was` are still to put: first those of `xs`, and then those of `rest`
  module _ (xs rest was all : List Row) (is : was ≡ xs ++ rest) where
    next_part : {old now : MutBor (Held S)} {Does : State → State → Type 0} {A : Type 0} {r : Result A Error} {a b : MutBor (Held S)}
        → HasPutSome g table key was all old now → Writes g (RowStatements (upsert table key) (Has xs)) Does r a b
        → Writes g (RowStatements (upsert table key) (Has all)) Does r a b
    next_part so_far more =
        among_each g (upsert table key) (Has xs)
        (λ row there. (refl, so_far.left row (subst (λ (l : List Row). Has l row) (sym is) (has_left xs rest row there))))
        more

    -- putting the next rows, those of `xs`, without an error leaves only the rows `rest` to put (`HasPutSome`)
    pub putting_more : {u : Unit {0}} {a b c : MutBor (Held S)} → HasPutSome g table key was all a b
        → WritesRows g table key xs (Ok u) b c → HasPutSome g table key rest all a c
    putting_more so_far more = record {
      so_far = goes_on g (λ old mid new did next. inside_rows table key xs rest all old mid new (subst (λ (l : List Row). DoesInside HasTables (IsPartlyPut table key l all) old mid) is did) next) so_far.so_far (next_part so_far more);
      left = λ row there. so_far.left row (subst (λ (l : List Row). Has l row) (sym is) (has_right xs rest row there));
    }

    -- if some rows are put, and putting `xs` then ends with an error, handed on as the result `r`, so does putting all
    pub putting_failed : {Does : State → State → Type 0} {A X : Type 0} {e : Error} {r : Result A Error} {a b c : MutBor (Held S)}
        → HasPutSome g table key was all a b → WritesRows {A = X} g table key xs (Err e) b c → HandsOn e r
        → Writes g (RowStatements (upsert table key) (Has all)) Does r a c
    putting_failed so_far more failed = stops_second g so_far.so_far (next_part so_far more) failed

  -- once no row is left to put, all rows of the list are written, without an error
  pub putting_ends : (rest all : List Row) {a b : MutBor (Held S)} → rest ≡ [] → HasPutSome g table key rest all a b
      → WritesRows {A = Unit {0}} g table key all (Ok (tt {0})) a b
  putting_ends rest all none so_far = weaker g (all_put table key rest all none) so_far.so_far
