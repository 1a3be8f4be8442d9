-- Laws on the two steps of an upgrade, and on both: the table `market` is added, and the campaign row is changed.
use Rattle.std.proofs.Common.{◌≡◌, ◌≢◌, ℕ, List, [], ◌∷◌, drop, map, take, refl, sym, ap, ◌∙◌, subst, inl, inr}
use Rattle.std.specs.Ordering.{nat_cmp}
use Rattle.std.specs.FinMap.{FinMap, get, get-empty}
use Rattle.sqlite.specs.Effect.{Database}
use Rattle.sqlite.specs.Order.{Row}
use Rattle.sqlite.specs.Schema.{Schema}
use Rattle.sqlite.specs.State.{State}
use Rattle.sqlite.specs.Table.{Table}
use Rattle.sqlite_rules.specs.Lists.{Has}
use Rattle.sqlite_rules.proofs.ListLemmas.{has_either, has_left}
use Rattle.atl_world.specs.declared.format.Format.TheVariants.{First}
use Rattle.atl_campaign.specs.Campaign.{CampaignValue}
use Rattle.atl_campaign.specs.Good.{HasNoStocks}
use Rattle.atl_sql.specs.Inside.{DoesInside, HasTables, Carries, DoesBoth, Puts}
use Rattle.atl_writing.specs.Rows.{campaign_row_of, rows_for, row_of_campaign, Holds, HoldsIn, MarketRowsOf}
use Rattle.atl_descriptions.specs.Sets.{HasExactly, AreKeyedByRowid, rows_in, put, visible_row}
use Rattle.atl_sql.specs.Shown.{campaign_row, campaign_row_in}
use Rattle.atl_descriptions.specs.Tables.{Part, Own, Markets, campaign_table, market_table, all_tables, all_indexes, creation_of, first_tables, parts_in, table_of}
use Rattle.atl_writing.specs.UpgradeSteps.{AddsMarkets, IsFirstFormat, WritesUpgrade}
use Rattle.atl_sql.specs.PutsCampaignRow.{UpgradesCampaignRow}
use Rattle.atl_sql.specs.Writes.{RunsStatement}
use Rattle.atl_sql.proofs.CreateTexts.{is_made, makes_table}
use Rattle.atl_sql.proofs.ListLaws.{has_map}
use Rattle.atl_sql.proofs.Made.{CreatesTable}
use Rattle.atl_sql.proofs.PartLaws.{all_among, listed, same_part}
use Rattle.atl_writing.proofs.WholeLaws.{inside_then, inside_weaker}

abbrev old_schema : Schema
old_schema = first_tables 9 3

abbrev new_schema : Schema
new_schema = first_tables 10 4

-- ---- the table of markets

no_rows : AreKeyedByRowid []
no_rows = record { apart = tt; ints = tt }

-- the table `market` is made after just the tables of the first format
module _ (old new : Database) (is : IsFirstFormat old) (made : CreatesTable old_schema new_schema market_table.tree old new) where
  has_all : HasTables new
  has_all = record {
    begins = record { tables = []; indexes = []; made_of = made.schema_is; free = tt; plain = λ i none. absurd none };
    sound = record {
      keyed = λ t there. elim (has_either old_schema.tables (market_table ∷ []) t there) [
        | inl was ↦ subst AreKeyedByRowid (sym (made.others t was)) (is.keyed t was)
        | inr (inl same) ↦ subst (λ (u : Table). AreKeyedByRowid (new.trees u.tree)) (sym same) (subst AreKeyedByRowid (sym made.empty) no_rows)
        | inr (inr none) ↦ absurd none
      ];
      listed = made.sound;
    };
  }

  carries_all : Carries old new
  carries_all = record {
    tables = λ t there. subst (λ (s : Schema). Has s.tables t) (sym made.schema_is) (has_left old_schema.tables (market_table ∷ []) t (subst (λ (s : Schema). Has s.tables t) is.just there));
    indexes = λ i there. subst (λ (s : Schema). Has s.indexes i) (sym made.schema_is) (has_left old_schema.indexes (drop 3 all_indexes) i (subst (λ (s : Schema). Has s.indexes i) is.just there));
    others = λ t there free.
        let was = subst (λ (s : Schema). Has s.tables t) is.just there in
        absurd (free (has_map (λ (u : Table). u.tree) all_tables t (has_left old_schema.tables (market_table ∷ []) t was)));
  }

-- the statement that makes the table `market` adds it, empty, to a database of the first format, whose tables stay
pub adds_markets : (old new : State) → RunsStatement (creation_of Markets) [] old new
    → DoesInside IsFirstFormat AddsMarkets old new
adds_markets old new ran = (
  ran.2.1.mode ∙ sym ran.0,
  λ is.
      let made = makes_table old_schema new_schema market_table (creation_of Markets) (is_made Markets) old new ran.1 is.just ran.2.0 in
      record {
        does = record { empty = made.empty; others = λ t there. made.others t there };
        tables = has_all old.now new.now is made;
        carries = carries_all old.now new.now is made;
      },
)

-- ---- the whole

in_first : (part : Part) → part ≢ Markets → Has (parts_in First) part
in_first part other =
    elim (all_among (Markets ∷ parts_in First) refl part) [ inl same ↦ absurd (other same) | inr there ↦ there ]

no_stocks : (c : CampaignValue) → HasNoStocks c → (r : Row) → ¬ MarketRowsOf c.regions r
no_stocks c bare r of =
    let e = sym (get-empty {X = ℕ} nat_cmp of.3) ∙ ap (λ (m : FinMap nat_cmp ℕ). get m of.3) (sym (bare of.0 of.1 of.2)) ∙ of.5 in
    absurd cc

-- putting a row with the key of a table's only row leaves just the new row in the table
own_row : (rows old : List Row) (was row : Row) → take 1 was ≡ take 1 row → HasExactly old (λ r. r ≡ was)
    → HasExactly rows (put 1 row (Has old)) → HasExactly rows (λ r. r ≡ row)
own_row rows old was row key one made r = (
  λ there. elim ((made r).0 there) [ inl same ↦ same | inr (there, other) ↦ absurd (other (ap (take 1) ((one r).0 there) ∙ key)) ],
  λ same. (made r).1 (inl same),
)

-- The table `market` is added from `old` to `mid`; then, to `new`, the campaign row gets the second format and the
-- world text `text`. Before, the tables held the campaign in the first format, with the text `before`, and nothing was
-- in stock (`bare`).
module _ (text : List ℕ) (c : CampaignValue) (old mid new : Database) (first : AddsMarkets old mid) (second : UpgradesCampaignRow (campaign_row_of c) text mid new) (before : List ℕ) (held : HoldsIn First old.trees before c) (bare : HasNoStocks c) where
  rows_between : (part : Part) → Has (parts_in First) part
      → HasExactly (rows_in (table_of part) mid.trees) (rows_for (campaign_row_in First (campaign_row_of c) before) c part)
  rows_between part there =
      subst (λ rows. HasExactly rows (rows_for (campaign_row_in First (campaign_row_of c) before) c part))
      (sym (ap (map (visible_row (table_of part))) (first.others (table_of part) (has_map table_of (parts_in First) part there))))
      (held.rows part there)

  row_put : Puts campaign_table 1 (campaign_row (campaign_row_of c) text) mid new
  row_put = second before (rows_between Own (inl refl))

  other_tables_stay : (part : Part) → part ≢ Own → rows_in (table_of part) new.trees ≡ rows_in (table_of part) mid.trees
  other_tables_stay part other =
      ap (map (visible_row (table_of part)))
      (row_put.others (table_of part) (listed part) (λ same. other (same_part part Own same)))

  rows_stay : (part : Part) → part ≢ Own → Has (parts_in First) part
      → HasExactly (rows_in (table_of part) new.trees) (rows_for (campaign_row_in First (campaign_row_of c) before) c part)
  rows_stay part other there =
      subst (λ rows. HasExactly rows (rows_for (campaign_row_in First (campaign_row_of c) before) c part))
      (sym (other_tables_stay part other)) (rows_between part there)

  -- after the campaign row is changed, the tables of the second format hold the campaign, which has nothing in stock
  pub upgrade_held : Holds new.trees text c
  upgrade_held = record { rows = rows }
    where
      rows : (part : Part) → HasExactly (rows_in (table_of part) new.trees) (rows_for (row_of_campaign text c) c part)
      rows Own =
          own_row _ _ (campaign_row_in First (campaign_row_of c) before) (row_of_campaign text c) refl
          (rows_between Own (inl refl)) row_put.rows
      rows Markets =
          λ r.
          (λ there. absurd (subst (λ l. Has l r) (other_tables_stay Markets (λ e. absurd cc) ∙ ap (map (visible_row market_table)) first.empty) there), λ of. absurd (no_stocks c bare r of))
      rows part = rows_stay part (λ e. absurd cc) (in_first part (λ e. absurd cc))

-- In a database of the first format two steps write the upgrade. From `start` to `mid` the table `market` is added;
-- from `mid` to `end` the campaign row gets the second format and the world text `text`. If the tables held the
-- campaign `c` without stocks, they then hold it in the second format, with this text (`WritesUpgrade`).
pub upgrade_done : (text : List ℕ) (c : CampaignValue) (start mid end : State)
    → DoesInside IsFirstFormat AddsMarkets start mid
    → DoesInside HasTables (UpgradesCampaignRow (campaign_row_of c) text) mid end
    → DoesInside IsFirstFormat (WritesUpgrade text c) start end
upgrade_done text c start mid end first second =
    inside_weaker IsFirstFormat (DoesBoth AddsMarkets (UpgradesCampaignRow (campaign_row_of c) text)) (WritesUpgrade text c) start end
    (λ is did before held bare. upgrade_held text c start.now did.0 end.now did.1 did.2 before held bare)
    (inside_then IsFirstFormat AddsMarkets (UpgradesCampaignRow (campaign_row_of c) text) start mid end first second)
