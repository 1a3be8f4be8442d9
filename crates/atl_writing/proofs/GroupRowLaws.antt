-- Laws on tables whose rows belong to a numbered unit or region: filling them, and rewriting the rows of one number.
-- The wanted rows (`Wanted`) are those that `lines` gives for all units, or all regions, which are `values` by number;
-- they come in groups, one for each number (`AreGroups`). The key of a row is its first `more + 1` columns.
-- `old` is the state, or the list of the table's rows, before a write, and `new` or `rows` after it; `mid` is the state
-- after rows are deleted and before others are put. Each step is in a database with the ten tables.
use Rattle.std.proofs.Common.{◌≡◌, ◌≢◌, ◌⊎◌, ◌↔◌, ℕ, suc, true, List, [], ◌∷◌, take, Some, None, refl, sym, ap, ◌∙◌, subst, inl, inr}
use Rattle.std.specs.Ordering.{nat_cmp}
use Rattle.std.specs.FinMap.{FinMap, entries, get, is_sorted}
use Rattle.std.proofs.lemmas.Bool.{and_parts}
use Rattle.std.proofs.lemmas.Option.{same_Some, none-some}
use Rattle.sqlite.specs.Effect.{Database}
use Rattle.sqlite.specs.Order.{Row}
use Rattle.sqlite.specs.State.{State}
use Rattle.sqlite.specs.Table.{Table}
use Rattle.sqlite_rules.specs.Lists.{Has}
use Rattle.atl_campaign.specs.Campaign.{CampaignValue}
use Rattle.atl_descriptions.specs.Sets.{Set, HasExactly, puts, rows_in}
use Rattle.atl_descriptions.specs.Tables.{Part, key_width_of, table_of}
use Rattle.atl_sql.specs.Shown.{int}
use Rattle.atl_writing.specs.GroupedRows.{DifferInKey, AreGroups, groups_of}
use Rattle.atl_writing.specs.Rows.{rows_for}
use Rattle.atl_descriptions.specs.Statements.{upsert}
use Rattle.atl_writing.specs.OwnStatements.{OfRow, puts_row}
use Rattle.atl_sql.specs.Inside.{DoesInside, HasTables, DoesBoth, Drops, PutsRows}
use Rattle.atl_writing.specs.Marked.{first_column_passes}
use Rattle.atl_writing.specs.Rewriting.{RewritesGroup, equals_number}
use Rattle.atl_writing.proofs.EntryLaws.{apart_append, empty_table_has_put_rows, puts_has, below_has, less_apart, got_entry, entry_got, in_order, same_number, flat_has, has_flat}
use Rattle.atl_writing.proofs.RewriteLaws.{begins_key, key_begins, kept_only, rewrites_key}
use Rattle.atl_writing.proofs.WholeLaws.{inside_then, inside_weaker}

first_of : (more : ℕ) (a b : Row) → take (suc more) a ≡ take (suc more) b → take 1 a ≡ take 1 b
first_of more a b same = sym (first a) ∙ ap (take 1) same ∙ first b
  where
    first : (r : Row) → take 1 (take (suc more) r) ≡ take 1 r
    first [] = refl
    first (v ∷ row) = refl

module _ {V : Type 0} (lines : ℕ → V → List Row) (more : ℕ) (values : FinMap nat_cmp V) (Wanted : Set) (are : AreGroups lines (suc more) values Wanted) where
  -- ---- put into an empty table

  all_apart : (es : List (ℕ × V)) → is_sorted nat_cmp es ≡ true → DifferInKey (suc more) (groups_of lines es)
  all_apart [] sorted = tt
  all_apart (e ∷ es) sorted =
      apart_append (suc more) (lines e.0 e.1) (groups_of lines es) (are.apart e.0 e.1) (all_apart es (and_parts _ _ sorted).1)
      (λ x y early late same.
      let found = flat_has (λ (v : ℕ × V). lines v.0 v.1) es y late in
      let number = same_number e.0 found.0.0 (sym (are.numbered e.0 e.1 x early) ∙ first_of more x y same ∙ are.numbered found.0.0 found.0.1 y found.2) in
      less_apart e.0 found.0.0 (below_has e.0 es found.0 (and_parts _ _ sorted).0 found.1) number)

  -- each row that `lines` gives for a number and value of the map is wanted
  pub groups_rows : (es : List (ℕ × V)) → es ≡ entries values → (r : Row) → Has (groups_of lines es) r → Wanted r
  groups_rows es same r there =
      let found = flat_has (λ (v : ℕ × V). lines v.0 v.1) es r there in
      are.wanted found.0.0 found.0.1 (entry_got values found.0.0 found.0.1 (subst (λ (l : List (ℕ × V)). Has l found.0) same found.1)) r found.2

  -- an empty table filled with the rows that `lines` gives for all numbers and values has exactly the wanted rows
  pub groups_filled : (rows old : List Row) → old ≡ []
      → HasExactly rows (puts (suc more) (groups_of lines (entries values)) (Has old)) → HasExactly rows Wanted
  groups_filled rows old none made r =
      let is = empty_table_has_put_rows (suc more) rows (groups_of lines (entries values)) old none (all_apart (entries values) (in_order values)) made r in (
        λ there. groups_rows (entries values) refl r (is.0 there),
        λ of. let line = are.lined r of in is.1 (has_flat (λ (v : ℕ × V). lines v.0 v.1) (entries values) (line.0, line.1) r (got_entry values line.0 line.1 line.2) line.3),
      )

  -- ---- the rows of one number deleted and put anew

  module _ (table : Table) (n : ℕ) where
    lined_at : (r : Row) → first_column_passes (equals_number n) r ≡ true → Wanted r
        → (v : V) × (get values n ≡ Some v) × Has (lines n v) r
    lined_at r is of =
        let line = are.lined r of in
        let number : line.0 ≡ n = same_number line.0 n (sym (are.numbered line.0 line.1 r line.3) ∙ begins_key n r is) in
        (line.1, ap (get values) (sym number) ∙ line.2, subst (λ k. Has (lines k line.1) r) number line.3)

    lines_rewrite : (old mid new : Database) → Drops table 1 (int n ∷ []) old mid → (v : V) → get values n ≡ Some v
        → PutsRows table (suc more) (lines n v) mid new → RewritesGroup table Wanted n old new
    lines_rewrite old mid new dropped v there did =
        rewrites_key (first_column_passes (equals_number n)) (λ r. take 1 r ≡ int n ∷ []) (Has (lines n v)) Wanted
        (begins_key n) (key_begins n)
        (λ r here. (are.numbered n v r here, are.wanted n v there r here))
        (λ r is of. let line = lined_at r is of in subst (λ u. Has (lines n u) r) (same_Some line.0 v (sym line.1 ∙ there)) line.2)
        table old new rows (λ t listed other. did.others t listed other ∙ dropped.others t listed other)
      where
        rows : (r : Row)
            → Has (rows_in table new.trees) r
            ↔ (Has (lines n v) r ⊎ (Has (rows_in table old.trees) r × (take 1 r ≢ int n ∷ [])))
        rows r =
            let all = puts_has (suc more) (lines n v) (Has (rows_in table mid.trees)) (are.apart n v) (λ s was x here same. ((dropped.rows s).0 was).1 (first_of more s x same ∙ are.numbered n v x here)) r in (
              λ h. elim (all.0 ((did.rows r).0 h)) [ inl here ↦ inl here | inr was ↦ inr ((dropped.rows r).0 was) ],
              λ h. (did.rows r).1 (all.1 (elim h [ inl here ↦ inl here | inr kept ↦ inr ((dropped.rows r).1 kept) ])),
            )

    bare_rewrite : (old new : Database) → Drops table 1 (int n ∷ []) old new → get values n ≡ None
        → RewritesGroup table Wanted n old new
    bare_rewrite old new dropped none =
        rewrites_key (first_column_passes (equals_number n)) (λ r. take 1 r ≡ int n ∷ []) (λ r. ⊥) Wanted (begins_key n)
        (key_begins n) (λ r never. absurd never)
        (λ r is of. let line = lined_at r is of in none-some line.0 (sym none ∙ line.1))
        table old new (λ r. let so = dropped.rows r in (λ h. inr (so.0 h), λ h. so.1 (kept_only h))) dropped.others

    -- if a value has the number `n`, deleting the rows of `n` and then putting those of the value rewrites the rows of
    -- `n`
    pub lines_done : (v : V) → get values n ≡ Some v → (old mid new : State)
        → DoesInside HasTables (Drops table 1 (int n ∷ [])) old mid
        → DoesInside HasTables (PutsRows table (suc more) (lines n v)) mid new
        → DoesInside HasTables (RewritesGroup table Wanted n) old new
    lines_done v there old mid new one two =
        let drops = Drops table 1 (int n ∷ []) in
        let puts = PutsRows table (suc more) (lines n v) in
        inside_weaker HasTables (DoesBoth drops puts) (RewritesGroup table Wanted n) old new (λ has did. lines_rewrite old.now did.0 new.now did.1 v there did.2) (inside_then HasTables drops puts old mid new one two)

    -- If no value has the number `n`, no wanted row begins with `n`. So it is enough to delete the rows that begin with
    -- `n`: then the rows of `n` are just the wanted ones, that is none, and all other rows and tables stay
    -- (`RewritesGroup`).
    pub bare_done : get values n ≡ None → (old new : State) → DoesInside HasTables (Drops table 1 (int n ∷ [])) old new
        → DoesInside HasTables (RewritesGroup table Wanted n) old new
    bare_done none old new did =
        inside_weaker HasTables (Drops table 1 (int n ∷ [])) (RewritesGroup table Wanted n) old new
        (λ has drops. bare_rewrite old.now new.now drops none) did

-- To put a wanted row is a statement of the campaign's rows (`OfRow`). Premises: the part's keys have `more + 1`
-- columns, and each wanted row is one of the part's, whatever the campaign row `own` is.
pub puts_wanted : (part : Part) (more : ℕ) → key_width_of part ≡ suc more → (Wanted : CampaignValue → Row → Type 0)
    → ((own : Row) (c : CampaignValue) (r : Row) → Wanted c r → rows_for own c part r) → (c : CampaignValue) (r : Row)
    → Wanted c r
    → OfRow c (upsert (table_of part) (suc more)) r
puts_wanted part more key Wanted are c r is =
    subst (λ k. OfRow c (upsert (table_of part) k) r) key (puts_row part (λ own. are own c r is))
