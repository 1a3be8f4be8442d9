-- Laws on making the tables one after another, until all ten are there and empty.
-- `before` and `after` are the schemas before and after a CREATE TABLE. `a`, `b` and `c` are states one after another,
-- and `count` is how many of the ten tables are made, the first ones. A tree holds the rows of one table.
use Rattle.std.proofs.Common.{◌≡◌, ◌++◌, ◌∷◌, ◌+◌, ◌<◌, ◌≤◌, ℕ, List, [], IsTrue, true, length, map, take, refl, sym, ap, ◌∙◌, subst, inl, inr, lit<, arith}
use Rattle.std.specs.List.{sum_by}
use Rattle.std.proofs.lemmas.List.{take_all}
use Rattle.sqlite.specs.Effect.{IsDatabase}
use Rattle.sqlite.specs.Schema.{Schema}
use Rattle.sqlite.specs.Table.{Table}
use Rattle.sqlite.specs.State.{State}
use Rattle.sqlite_rules.specs.Lists.{Has}
use Rattle.sqlite_rules.proofs.ListLemmas.{has_either}
use Rattle.atl_descriptions.specs.Sets.{AreKeyedByRowid, visible_row}
use Rattle.atl_sql.proofs.Made.{CreatesTable, AreBare, Extends}
use Rattle.atl_descriptions.specs.Tables.{all_indexes, all_tables, no_tables, table_count}
use Rattle.atl_sql.specs.Inside.{DoesInside, IsBlank}
use Rattle.atl_sql.specs.Making.{AreEmpty}

-- a CREATE TABLE inside a transaction that adds `table` as the last one (`CreatesTable`) makes of a database of the
-- schema `before`, without rows, one of the schema `after`, without rows (`Extends`)
pub extends : (before after : Schema) (table : Table) (old new : State) → IsTrue old.in_transaction
    → new.in_transaction ≡ true → after.tables ≡ before.tables ++ table ∷ []
    → (old.now.schema ≡ before → CreatesTable before after table.tree old.now new.now) → Extends before after old new
extends before after table old new inside mode more makes = (
  mode ∙ sym inside,
  λ bare.
      let made = makes bare.schema_is in (
        record {
          schema_is = made.schema_is;
          empty = λ t listed. elim (has_either before.tables (table ∷ []) t (subst (λ l. Has l t) more listed)) [
            | inl was ↦ made.others t was ∙ bare.empty t was
            | inr (inl same) ↦ ap (λ (u : Table). new.now.trees u.tree) same ∙ made.empty
            | inr (inr none) ↦ absurd none
          ];
        },
        made.sound,
      ),
)

-- ---- the first tables

-- the schema of the tables of this list, the first ones of the ten, and of the indexes of their keys
abbrev pub with_tables : List Table → Schema
with_tables tables =
    record { tables = tables; indexes = take (sum_by (λ t. length t.uniques) tables) all_indexes; views = [] }

-- the schema of the first `count` of the ten tables, of all if `count` is more, and of the indexes of their keys
abbrev pub schema_of_first : ℕ → Schema
schema_of_first count = with_tables (take count all_tables)

-- In a database without tables the first `count` tables are made, all empty. Its trees list them (`IsDatabase`), unless
-- `count` is 0. The connection is in a transaction afterwards exactly if it was before.
abbrev pub MakesFirst : ℕ → State → State → Type 0
MakesFirst count old new =
    (new.in_transaction ≡ old.in_transaction) ×
    (AreBare no_tables old.now → AreBare (schema_of_first count) new.now × (0 < count → IsDatabase new.now))

pub makes_none : (s : State) → MakesFirst 0 s s
makes_none s = (refl, λ bare. (bare, λ some. absurd (omega (arith, some))))

-- if the first `count` tables are made, and then the next one, one table more is made
pub makes_more : (count : ℕ) (a b c : State) → MakesFirst count a b
    → Extends (schema_of_first count) (schema_of_first (count + 1)) b c → MakesFirst (count + 1) a c
makes_more count a b c first next =
    (next.0 ∙ first.0, λ bare. let made = next.1 (first.1 bare).0 in (made.0, λ some. made.1))

-- ---- all ten tables

no_rows : AreKeyedByRowid []
no_rows = record { apart = tt; ints = tt }

-- making the first `count` tables in a blank database makes all ten, each empty, if `count` is ten or more
pub makes_all : (count : ℕ) → table_count ≤ count → (a b : State) → MakesFirst count a b
    → DoesInside IsBlank AreEmpty a b
makes_all count enough a b all = (
  all.0,
  λ blank.
      let made = all.1 (record { schema_is = blank; empty = λ t listed. absurd listed }) in
      let bare : AreBare (with_tables all_tables) b.now = subst (λ (l : List Table). AreBare (with_tables l) b.now) (take_all count all_tables enough) made.0 in
      let some : 0 < table_count = lit< tt in
      record {
        does = λ t listed. ap (map (visible_row t)) (bare.empty t listed);
        tables = record {
          begins = record { tables = []; indexes = []; made_of = bare.schema_is; free = tt; plain = λ i none. absurd none };
          sound = record {
            keyed = λ t listed. subst AreKeyedByRowid (sym (bare.empty t listed)) no_rows;
            listed = made.1 (omega (arith, some, enough));
          };
        };
        carries = record {
          tables = λ t there. absurd (subst (λ (s : Schema). Has s.tables t) blank there);
          indexes = λ i there. absurd (subst (λ (s : Schema). Has s.indexes i) blank there);
          others = λ t there free. absurd (subst (λ (s : Schema). Has s.tables t) blank there);
        };
      },
)
