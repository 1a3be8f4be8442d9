-- Laws on a write of one of a campaign's tables: the other tables, the indexes and the schema stay (`Carries`).
-- A tree, given by its number, holds the rows of one table; `olds` and `news` are the rows that a write takes out of it
-- and puts in. `tables` and `indexes` are those that the schema has after the campaign's own.
use Rattle.std.proofs.Common.{◌≡◌, ◌≢◌, ℕ, false, List, [], ◌∷◌, ◌++◌, Option, refl, sym, ◌∙◌, subst, inl, inr}
use Rattle.std.specs.List.{AllByRecursion, flat_map, filter_map, list_any}
use Rattle.sqlite_value.specs.Order.{Row}
use Rattle.sqlite_schema.specs.declared.schema.Table.{Table}
use Rattle.sqlite_schema.specs.declared.schema.Index.{Index}
use Rattle.sqlite_schema.specs.declared.schema.Schema.{Schema}
use Rattle.sqlite_schema.specs.declared.schema.Reference.{Reference}
use Rattle.sqlite_schema.specs.declared.schema.Keys.TheVariants.{Enforced}
use Rattle.sqlite_rules.specs.Lists.{Has}
use Rattle.sqlite_rules.proofs.ListLemmas.{has_left}
use Rattle.sqlite_rules.specs.Keys.{shares}
use Rattle.sqlite_schema.specs.Rules.{guards}
use Rattle.sqlite_rules.specs.Action.{works, Work, work_for}
use Rattle.sqlite.specs.Effect.{Database}
use Rattle.atl_descriptions.specs.Sets.{Set}
use Rattle.atl_sql.proofs.Made.{Makes}
use Rattle.atl_descriptions.specs.Tables.{all_tables, all_tables_and_others, all_trees, IsSoundDatabase}
use Rattle.atl_sql.specs.Inside.{HasTables, Carries, Alters, DoesAndKeeps}
use Rattle.atl_sql.proofs.ListLaws.{has_map}

-- ---- tables without a foreign key refer to nothing

none_refer : (tables : List Table) (f : Table → Reference → Option Work)
    → AllByRecursion (λ t. t.references ≡ []) tables
    → flat_map (λ child. filter_map (f child) child.references) tables ≡ []
none_refer [] f free = refl
none_refer (t ∷ tables) f free = rw (free.0) (none_refer tables f free.1)

-- if none of the tables after the ten has a foreign key, a write of the rows `news` in place of `olds` in a tree leaves
-- no foreign key to check (`works`)
pub write_checks_no_reference : (tables : List Table) (indexes : List Index) (tree : ℕ)
    → AllByRecursion (λ t. t.references ≡ []) tables → (olds news : List Row)
    → works (all_tables_and_others tables indexes) Enforced 0 tree olds news ≡ []
write_checks_no_reference tables indexes tree free olds news =
    none_refer tables (work_for (all_tables_and_others tables indexes) Enforced 0 tree olds news) free

-- if the indexes make nothing unique in table t, rows `new` and `r` share no unique value, whatever key is the `target`
pub none_share : (t : Table) (target : Option (List ℕ)) (new r : Row) (indexes : List Index)
    → ((i : Index) → Has indexes i → guards i t ≡ false) → list_any (shares target t new r) indexes ≡ false
none_share t target new r [] plain = refl
none_share t target new r (i ∷ indexes) plain =
    rw (plain i (inl refl)) (none_share t target new r indexes (λ j there. plain j (inr there)))

-- ---- one of the tables is one of all that are there

pub among_all : (tables : List Table) (t : Table) → Has all_tables t → Has (all_tables ++ tables) t
among_all tables t there = has_left all_tables tables t there

-- if a database has a campaign's tables (`has`), its trees are sound under the schema of these and then its others
pub sound_under : (db : Database) (has : HasTables db)
    → IsSoundDatabase (all_tables_and_others has.begins.tables has.begins.indexes) db.trees
sound_under db has = subst (λ s. IsSoundDatabase s db.trees) has.begins.made_of has.sound

-- t is one of the ten tables, which a write changes; `old`, the database before it, has all ten, and `new` is it after
module _ (t : Table) (old new : Database) (has : HasTables old) (ours : Has all_tables t) where
  -- the schema of `old`: the ten tables with their indexes, and then its other tables and indexes
  abbrev schema : Schema
  schema = all_tables_and_others has.begins.tables has.begins.indexes

  abbrev OthersStay : Type 0
  OthersStay = (u : Table) → Has schema.tables u → u.tree ≢ t.tree → new.trees u.tree ≡ old.trees u.tree

  -- if `new` has the schema of `old`, and trees that are sound under this, `new` has the ten tables (`HasTables`)
  pub stays_there : new.schema ≡ schema → IsSoundDatabase schema new.trees → HasTables new
  stays_there is sound = record {
    begins = record { tables = has.begins.tables; indexes = has.begins.indexes; made_of = is; free = has.begins.free; plain = has.begins.plain };
    sound = subst (λ s. IsSoundDatabase s new.trees) (sym is) sound;
  }

  -- if the schema stays, and what its tables but t hold, no table or index is gone, and other tables stay (`Carries`)
  pub carried : new.schema ≡ schema → OthersStay → Carries old new
  carried is others =
      let same : new.schema ≡ old.schema = is ∙ sym has.begins.made_of in
      record {
        tables = λ u there. subst (λ (s : Schema). Has s.tables u) (sym same) there;
        indexes = λ i there. subst (λ (s : Schema). Has s.indexes i) (sym same) there;
        others = λ u there free. others u (subst (λ (s : Schema). Has s.tables u) has.begins.made_of there) (λ same. free (subst (Has all_trees) (sym same) (has_map (λ (x : Table). x.tree) all_tables t ours)));
      }

  -- a write that makes the rows of t the set S (`Makes`) leaves a campaign's other tables as they were (`Alters`)
  pub altered : (S : Set) → Makes schema t old new S → Alters t S old new
  altered S makes =
      record { rows = makes.rows; others = λ u listed apart. makes.others u (among_all has.begins.tables u listed) apart }

  -- if `Does` follows from the rows of `t` being `S` and a campaign's other tables staying (`Alters`), a write that
  -- makes the rows `S` (`Makes`) has done `Does` (`DoesAndKeeps`)
  pub done_with : (Does : Database → Database → Type 0) (S : Set) → (Alters t S old new → Does old new)
      → Makes schema t old new S → DoesAndKeeps Does old new
  done_with Does S is makes =
      record { does = is (altered S makes); tables = stays_there makes.schema_is makes.sound; carries = carried makes.schema_is makes.others }

pub carries_none : (a : Database) → Carries a a
carries_none a = record { tables = λ t there. there; indexes = λ i there. there; others = λ t there free. refl }

pub carries_then : (a b c : Database) → Carries a b → Carries b c → Carries a c
carries_then a b c one two = record {
  tables = λ t there. two.tables t (one.tables t there);
  indexes = λ i there. two.indexes i (one.indexes i there);
  others = λ t there free. two.others t (one.tables t there) free ∙ one.others t there free;
}
