-- Laws on parts with one row for each number: their statements, and how their tables are filled and rewritten.
-- A part is filled if its table, where that was empty, gets exactly the campaign's rows (`FillsPart`). It is rewritten
-- if its marked rows become the campaign's (`RewritesPart`). `old` is the database before that, and `new` after it;
-- `own` stands for any campaign row.
use Rattle.std.proofs.Common.{◌≡◌, ℕ, Bool, true, false, List, [], ◌∷◌, None, take, refl, sym, ap, ◌∙◌, subst}
use Rattle.std.specs.Prelude.{◌↔◌}
use Rattle.std.specs.Ordering.{nat_cmp}
use Rattle.std.specs.FinMap.{FinMap, entries, get}
use Rattle.std.specs.FinSet.{FinSet}
use Rattle.sqlite.specs.Effect.{Database}
use Rattle.sqlite.specs.Order.{Row}
use Rattle.sqlite_rules.specs.Lists.{Has}
use Rattle.atl_campaign.specs.Campaign.{CampaignValue, MarkedCampaign}
use Rattle.atl_campaign.specs.Marks.{Marks}
use Rattle.atl_descriptions.specs.Sets.{Set, HasExactly, rows_in}
use Rattle.atl_descriptions.specs.Tables.{Part, Own, Goods, Books, Markets, IsNumberedPart, key_width_of, table_of}
use Rattle.atl_sql.specs.Shown.{int}
use Rattle.atl_writing.specs.Rows.{RowsOf, rows_in_order, rows_for}
use Rattle.atl_descriptions.specs.Statements.{deletion, upsert}
use Rattle.atl_writing.specs.OwnStatements.{OfRow, OfChange, puts_row, drops_row}
use Rattle.atl_sql.specs.Inside.{PutsRows}
use Rattle.atl_writing.specs.Filling.{FillsPart}
use Rattle.atl_writing.specs.Changing.{IfElse, rows_after_rewrite}
use Rattle.atl_writing.specs.Marked.{begins_marked, is_marked}
use Rattle.atl_writing.specs.Rewriting.{Becomes, RewritesMarked, RewritesPart}
use Rattle.atl_writing.proofs.EntryLaws.{same_number}
use Rattle.atl_writing.proofs.FillLaws.{numbered_filled}
use Rattle.atl_writing.proofs.TurnLaws.{one_changed}

-- the key of a part that has one row for each number is one column
pub key_one : (part : Part) → IsNumberedPart part → key_width_of part ≡ 1
key_one Own is = absurd is
key_one Goods is = absurd is
key_one Books is = absurd is
key_one Markets is = absurd is
key_one part is = refl

chosen_as : (b : Bool) (P Q W : Type 0) → (P ↔ Q) → IfElse b P W ↔ IfElse b Q W
chosen_as true P Q W same = same
chosen_as false P Q W same = (λ h. h, λ h. h)

rewritten_as : (one other : Row → Bool) (P Q : Set) → ((r : Row) → one r ≡ other r) → ((r : Row) → P r ↔ Q r)
    → (after before : List Row) → HasExactly after (rows_after_rewrite one P (Has before))
    → HasExactly after (rows_after_rewrite other Q (Has before))
rewritten_as one other P Q same are after before is r =
    let turned = subst (λ b. IfElse (one r) (P r) (Has before r) ↔ IfElse b (Q r) (Has before r)) (same r) (chosen_as (one r) (P r) (Q r) (Has before r) (are r)) in
    (λ there. turned.0 ((is r).0 there), λ h. (is r).1 (turned.1 h))

-- ---- a part with one row for each number

-- the rows of the part are those that `line` makes of the numbers and `values` that the campaign has
module _ {V : Type 0} (part : Part) (line : ℕ → V → Row) (values : CampaignValue → FinMap nat_cmp V) (are : (own : Row) (c : CampaignValue) (r : Row) → rows_for own c part r ↔ RowsOf line (values c) r) where
  -- to put the row of a value of the campaign is a statement of the campaign's rows (`OfRow`), if the key is one column
  pub puts_line : key_width_of part ≡ 1 → (c : CampaignValue) (r : Row) → RowsOf line (values c) r
      → OfRow c (upsert (table_of part) 1) r
  puts_line key c r is =
      subst (λ k. OfRow c (upsert (table_of part) k) r) key (puts_row part (λ own. (are own c r).1 is))

  module _ (numbered : (n : ℕ) (v : V) → take 1 (line n v) ≡ int n ∷ []) where
    -- if the key is one column, and rows begin with their numbers, to delete the row of a number that the campaign
    -- lacks is a statement of a change (`OfChange`)
    pub drops_none : key_width_of part ≡ 1 → (c : CampaignValue) (n : ℕ) → get (values c) n ≡ None
        → OfChange c (deletion (table_of part) 1) (int n ∷ [])
    drops_none key c n none = subst (λ k. OfChange c (deletion (table_of part) k) (int n ∷ [])) key (drops_row part (
      sym key,
      λ own row is same.
          let of = (are own c row).0 is in
          let number : of.0 ≡ n = same_number of.0 n (sym (numbered of.0 of.1) ∙ ap (take 1) (sym of.3) ∙ ap (λ k. take k row) (sym key) ∙ same) in
          absurd (let there = sym of.2 ∙ ap (get (values c)) number ∙ none in cc),
    ))

    -- putting the rows of all numbers with their values, each beginning with its number, fills the part (`FillsPart`)
    pub kept_filled : (c : CampaignValue) (es : List (ℕ × V)) → es ≡ entries (values c) → (old new : Database)
        → PutsRows (table_of part) 1 (rows_in_order line es) old new → FillsPart c part old new
    kept_filled c =
        numbered_filled c part line numbered (values c)
        (λ own rows is r. (λ there. (are own c r).1 ((is r).0 there), λ of. (is r).1 ((are own c r).0 of)))

  -- rewriting the rows of all marked numbers rewrites the part (`RewritesPart`), if its rows are marked by number
  -- (`marks`)
  pub kept_rewritten : (marks : Marks → FinSet nat_cmp)
      → ((m : Marks) (r : Row) → is_marked m part r ≡ begins_marked (marks m) r)
      → (c : MarkedCampaign) (old new : Database)
      → RewritesMarked (table_of part) line (values c.value) (marks c.marks) old new → RewritesPart c part old new
  kept_rewritten marks marked c old new did own = one_changed (Becomes c own) part _ old new did (rewritten_as (begins_marked (marks c.marks)) (is_marked c.marks part) (RowsOf line (values c.value)) (rows_for own c.value part)
      (λ r. sym (marked c.marks r)) (λ r. let both = are own c.value r in (both.1, both.0)) (rows_in (table_of part) new.trees) (rows_in (table_of part) old.trees))
