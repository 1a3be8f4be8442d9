-- Laws on changes to the tables of a campaign's parts: a change of some tables leaves the others as they are.
-- `Becomes` says of a part what the rows of its table become: the first list is those before, the second those after.
-- `ps` and `qs` are lists of parts: the tables of `ps` change from `old` to `mid`, and those of `qs` from `mid` to
-- `new`. Where only one step is spoken of, the database is `a` or `old` before it, and `b` or `new` after it.
use Rattle.std.proofs.Common.{◌≡◌, ◌&&◌, ◌++◌, Bool, true, List, [], ◌∷◌, map, refl, sym, ap, ◌∙◌, subst, inl, inr}
use Rattle.std.proofs.lemmas.Bool.{and_parts}
use Rattle.sqlite.specs.Effect.{Database}
use Rattle.sqlite.specs.Order.{Row}
use Rattle.sqlite.specs.Table.{Table}
use Rattle.sqlite_rules.proofs.ListLemmas.{has_either, has_left, has_right}
use Rattle.atl_descriptions.specs.Sets.{Set, HasExactly, rows_in, visible_row}
use Rattle.atl_descriptions.specs.Tables.{Part, table_of}
use Rattle.atl_sql.specs.Inside.{Alters, Changes, InTurn}
use Rattle.atl_sql.proofs.PartLaws.{tree_of, same_part, listed, are_apart, not_both}

-- a table whose tree is as it was has the rows that it had
pub same_rows : (t : Table) (a b : Database) → b.trees t.tree ≡ a.trees t.tree → rows_in t b.trees ≡ rows_in t a.trees
same_rows t a b same = ap (map (visible_row t)) same

-- a table whose tree is as it was has exactly the rows of the set that it had before
pub stays_is : (t : Table) (S : Set) (a b : Database) → b.trees t.tree ≡ a.trees t.tree
    → HasExactly (rows_in t a.trees) S → HasExactly (rows_in t b.trees) S
stays_is t S a b same is = subst (λ rows. HasExactly rows S) (sym (same_rows t a b same)) is

-- ---- one table, and one after another

module _ (Becomes : Part → List Row → List Row → Type 0) where
  -- giving a table the rows of the set `S` changes its part alone (`Changes`), if `Becomes` holds once it has them
  pub one_changed : (part : Part) (S : Set) (old new : Database) → Alters (table_of part) S old new
      → (HasExactly (rows_in (table_of part) new.trees) S → Becomes part (rows_in (table_of part) old.trees) (rows_in (table_of part) new.trees))
      → Changes Becomes (part ∷ []) old new
  one_changed part S old new did becomes = record {
    done = λ p there. elim there [ inl same ↦ subst (λ q. Becomes q (rows_in (table_of q) old.trees) (rows_in (table_of q) new.trees)) (sym same) (becomes did.rows) | inr none ↦ absurd none ];
    others = λ p free. did.others (table_of p) (listed p) (λ same. free (inl (same_part p part same)));
  }

  -- after some parts change and then others, all of them are changed, if no part is in both lists
  pub both_changed : (ps qs : List Part) → are_apart ps qs ≡ true → (old mid new : Database)
      → Changes Becomes ps old mid → Changes Becomes qs mid new → Changes Becomes (ps ++ qs) old new
  both_changed ps qs apart old mid new first second = record {
    done = λ p there. elim (has_either ps qs p there) [
      | inl early ↦ subst (λ rows. Becomes p (rows_in (table_of p) old.trees) rows) (sym (same_rows (table_of p) mid new (second.others p (not_both ps qs apart p early)))) (first.done p early)
      | inr late ↦ subst (λ rows. Becomes p rows (rows_in (table_of p) new.trees)) (same_rows (table_of p) old mid (first.others p (λ early. not_both ps qs apart p early late))) (second.done p late)
    ];
    others = λ p free. second.others p (λ late. free (has_right ps qs p late)) ∙ first.others p (λ early. free (has_left ps qs p early));
  }

-- ---- each of some parts, one after another

-- what is done for one part (`Does`) is done in turn for the list of this part alone
pub in_turn_one : (Does : Part → Database → Database → Type 0) (part : Part) (old new : Database) → Does part old new
    → InTurn Does (part ∷ []) old new
in_turn_one Does part old new did = (new, did, refl)

-- what is done in turn (`Does`) for the parts `ps`, and then for `qs`, is done in turn for `ps` followed by `qs`
pub in_turn_then : (Does : Part → Database → Database → Type 0) (ps qs : List Part) (old mid new : Database)
    → InTurn Does ps old mid → InTurn Does qs mid new → InTurn Does (ps ++ qs) old new
in_turn_then Does [] qs old mid new none rest = subst (λ db. InTurn Does qs db new) none rest
in_turn_then Does (p ∷ ps) qs old mid new first rest =
    (first.0, first.1, in_turn_then Does ps qs first.0 mid new first.2 rest)

-- whether no part is in the list twice
abbrev pub are_distinct : List Part → Bool
are_distinct [] = true
are_distinct (part ∷ parts) = are_apart (part ∷ []) parts && are_distinct parts

-- what rows become, part by part; it may depend on an `x`, such as the campaign row
module _ {X : Type 0} (Becomes : X → Part → List Row → List Row → Type 0) where
  -- the rows of one part become what `Becomes x` says, whatever `x` is; all other tables stay
  abbrev pub Turn : Part → Database → Database → Type 0
  Turn part old new = (x : X) → Changes (Becomes x) (part ∷ []) old new

  -- if the rows of each part become in turn what `Becomes` says for every `x`, and no part is listed twice, those of
  -- all become it (`Changes`)
  pub in_turn_changed : (parts : List Part) → are_distinct parts ≡ true → (old new : Database)
      → InTurn Turn parts old new → (x : X) → Changes (Becomes x) parts old new
  in_turn_changed [] apart old new none x =
      record { done = λ part there. absurd there; others = λ part free. ap (λ (db : Database). db.trees (tree_of part)) none }
  in_turn_changed (p ∷ ps) apart old new first x =
      let both = and_parts (are_apart (p ∷ []) ps) (are_distinct ps) apart in
      both_changed (Becomes x) (p ∷ []) ps both.0 old first.0 new (first.1 x) (in_turn_changed ps both.1 first.0 new first.2 x)
