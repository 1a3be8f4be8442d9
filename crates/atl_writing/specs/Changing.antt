-- What writing a campaign's changes does: rows with a marked key become the campaign's, and every other row stays.
-- `old` is the database before the write, and `new` after it. As a parameter, `is_marked` says of a row whether its key
-- is marked. The wanted rows (`Wanted`) are those that the campaign has.
use Rattle.std.specs.Prelude.{◌≡◌, ◌↔◌, ℕ, Bool, true, false, List}
use Rattle.sqlite.specs.Effect.{Database}
use Rattle.sqlite.specs.Order.{Row}
use Rattle.sqlite_trees.specs.Tree.{Trees}
use Rattle.sqlite.specs.Table.{Table}
use Rattle.sqlite_rules.specs.Lists.{Has}
use Rattle.atl_campaign.specs.Campaign.{CampaignValue, MarkedCampaign}
use Rattle.atl_descriptions.specs.Sets.{Set, HasExactly, rows_in}
use Rattle.atl_descriptions.specs.Tables.{Part, campaign_table, table_of}
use Rattle.atl_sql.specs.Shown.{CampaignRowValue, campaign_row}
use Rattle.atl_writing.specs.Marked.{is_marked}
use Rattle.atl_writing.specs.Rows.{campaign_row_of, row_of_campaign, rows_for}

-- one of two propositions by a flag, such as whether a row is marked: `Wanted` if it is true, else `Were`
abbrev pub IfElse : Bool → Type 0 → Type 0 → Type 0
IfElse true Wanted Were = Wanted
IfElse false Wanted Were = Were

-- a table's rows after a rewrite: the wanted rows whose key is marked, and the old rows whose key isn't
abbrev pub rows_after_rewrite : (Row → Bool) → Set → Set → Set
rows_after_rewrite is_marked Wanted Were r = IfElse (is_marked r) (Wanted r) (Were r)

-- a table is rewritten: its rows with a marked key are now the wanted ones, and its other rows are as they were
abbrev pub AreRewritten : Table → (Row → Bool) → Set → Database → Database → Type 0
AreRewritten table is_marked Wanted old new =
    HasExactly (rows_in table new.trees) (rows_after_rewrite is_marked Wanted (Has (rows_in table old.trees)))

-- what the campaign row says after a write: if it is marked (true) what the campaign says, else what it said before
abbrev pub campaign_row_after : Bool → CampaignValue → CampaignRowValue → CampaignRowValue
campaign_row_after true c before = campaign_row_of c
campaign_row_after false c before = before

-- the campaign row, of the second format, once changes of the campaign `c` are written: if it is marked it says what
-- `c` says, else what it said `before`; the world text stays `text`
abbrev pub own_after : MarkedCampaign → CampaignRowValue → List ℕ → Row
own_after c before text = campaign_row (campaign_row_after c.marks.row c.value before) text

-- In each table the rows with a marked key become those that the campaign has, and all others stay (`AreRewritten`).
-- The campaign row said `before`, which it still says unless it is marked; it keeps this world text.
pub record WritesMarked (c : MarkedCampaign) (before : CampaignRowValue) (text : List ℕ) (old new : Database) : Type 0 where
  pub rows : (part : Part)
      → AreRewritten (table_of part) (is_marked c.marks part) (rows_for (own_after c before text) c.value part) old new

-- All that is marked is written (`WritesMarked`), if the table `campaign` held one row, of the second format, whatever
-- else that row said.
abbrev pub WritesChanges : MarkedCampaign → Database → Database → Type 0
WritesChanges c old new =
    (before : CampaignRowValue) (text : List ℕ)
    → HasExactly (rows_in campaign_table old.trees) (λ r. r ≡ campaign_row before text)
    → WritesMarked c before text old new

-- ---- tables that hold what is not marked of a campaign

-- of the rows with a key that isn't marked, the table has exactly the wanted ones; under marked keys it may have any
abbrev pub HasUnmarked : Table → (Row → Bool) → Set → Trees → Type 0
HasUnmarked table is_marked Wanted trees = (r : Row) → is_marked r ≡ false → Has (rows_in table trees) r ↔ Wanted r

-- The tables hold what is not marked of a campaign: the rows of all that is not marked are exactly the campaign's.
-- The campaign row has this world text and, unless it is marked, says what the campaign says.
-- In such tables `write_marked` writes the rest, and then they hold the campaign.
pub record HoldsUnmarked (trees : Trees) (text : List ℕ) (c : MarkedCampaign) : Type 0 where
  pub before : CampaignRowValue
  -- the table `campaign` has one row, which says `before` and has this world text
  pub campaign : HasExactly (rows_in campaign_table trees) (λ r. r ≡ campaign_row before text)
  pub head : campaign_row_after c.marks.row c.value before ≡ campaign_row_of c.value
  pub rest : (part : Part)
      → HasUnmarked (table_of part) (is_marked c.marks part) (rows_for (row_of_campaign text c.value) c.value part) trees
