-- For proofs and for private functions: what the steps of writing a campaign's changes do to the ten tables.
-- `old` is the database before the step, and `new` after it. `line` makes the row of a number and its value; `values`
-- are the campaign's values by number, and `marks` the marked numbers.
use Rattle.std.specs.Prelude.{◌≡◌, ◌+◌, ◌*◌, ◌&&◌, ◌||◌, ℕ, Bool, false, List, [], ◌∷◌, is_some}
use Rattle.std.specs.List.{list_any}
use Rattle.std.specs.Ordering.{nat_cmp, eq_by_cmp}
use Rattle.std.specs.FinSet.{FinSet, contains}
use Rattle.std.specs.FinMap.{FinMap, get}
use Rattle.sqlite.specs.Effect.{Database}
use Rattle.sqlite.specs.Order.{Row}
use Rattle.sqlite.specs.Table.{Table}
use Rattle.sqlite_rules.specs.Lists.{Has}
use Rattle.atl_records.specs.Limits.{entry_count}
use Rattle.atl_campaign.specs.Campaign.{CampaignValue, MarkedCampaign}
use Rattle.atl_campaign.specs.Marks.{Marks, MarkedThings}
use Rattle.atl_sql.specs.declared.rows.has.ThingKind.{ThingKind}
use Rattle.atl_sql.specs.declared.rows.has.ThingKind.TheVariants.{Item, Skill}
use Rattle.atl_descriptions.specs.Sets.{Set, HasExactly, rows_in}
use Rattle.atl_sql.specs.Inside.{Alters, Changes}
use Rattle.atl_descriptions.specs.Tables.{Part, campaign_table, has_table, books_table, market_table}
use Rattle.atl_sql.specs.Shown.{CampaignRowValue, campaign_row}
use Rattle.atl_writing.specs.Rows.{RowsOf, HasRowsOf, BooksRowsOf, MarketRowsOf, rows_for}
use Rattle.atl_writing.specs.Marked.{first_column_passes, entry_and_thing_pass, unit_and_thing_pass, region_and_item_pass, begins_marked, goods_marked, stocks_marked, amount_marked, is_marked}
use Rattle.atl_writing.specs.Changing.{rows_after_rewrite, own_after}

-- in one table the rows that pass the test `is_chosen` become the rows of the set `Wanted` that pass it; all other rows
-- and tables stay
abbrev pub Rewrites : Table → (Row → Bool) → Set → Database → Database → Type 0
Rewrites table is_chosen Wanted old new =
    Alters table (rows_after_rewrite is_chosen Wanted (Has (rows_in table old.trees))) old new

-- ---- which rows a step rewrites

-- whether the second number is equal to the first, `n`
abbrev pub equals_number : ℕ → ℕ → Bool
equals_number n k = eq_by_cmp nat_cmp k n

-- whether a number is in a list of numbers
abbrev pub is_among : List ℕ → ℕ → Bool
is_among ns k = list_any (eq_by_cmp nat_cmp k) ns

-- whether a row of `books` is of an amount whose number is in `marks`, whose entry passes the test `entries` by its
-- index, and whose thing passes the test `things` by its number
abbrev pub is_of_marked_amount : FinSet nat_cmp → (ℕ → Bool) → (ℕ → Bool) → Row → Bool
is_of_marked_amount marks entries things r =
    entry_and_thing_pass (λ entry thing. entries entry && (things thing && contains marks (entry_count * thing + entry))) r

-- whether two numbers, of an owner (a unit or a region) and of a thing, are `owner` and `thing`
abbrev pub is_owner_and_thing : (owner thing : ℕ) → ℕ → ℕ → Bool
is_owner_and_thing owner thing n t = equals_number owner n && equals_number thing t

-- whether two numbers, of an owner (a unit or a region) and of a thing, are `owner` and a number in the map `things`
abbrev pub is_owner_and_listed : {V : Type 0} → (owner : ℕ) → FinMap nat_cmp V → ℕ → ℕ → Bool
is_owner_and_listed owner things n t = equals_number owner n && is_some (get things t)

-- `finds` chooses rows by a test of two of their numbers: the test "`f` or `g`" chooses exactly the rows that `f` or
-- `g` chooses, and a test that is always false chooses no row.
pub record FindsByNumbers (finds : (ℕ → ℕ → Bool) → Row → Bool) : Type 0 where
  pub either : (f g : ℕ → ℕ → Bool) (r : Row) → finds (λ n t. f n t || g n t) r ≡ (finds f r || finds g r)
  pub none : (r : Row) → finds (λ n t. false) r ≡ false

-- the row of the number `n` becomes that of the campaign, or is deleted if the campaign has no row of the number; all
-- other rows and tables stay
abbrev pub RewritesNumber : {V : Type 0} → Table → (ℕ → V → Row) → FinMap nat_cmp V → ℕ → Database → Database → Type 0
RewritesNumber table line values n old new = Rewrites table (first_column_passes (equals_number n)) (RowsOf line values) old new

-- the row of each marked number becomes that of the campaign, or is deleted if the campaign has no row of the number;
-- all other rows and tables stay
abbrev pub RewritesMarked : {V : Type 0} → Table → (ℕ → V → Row) → FinMap nat_cmp V → FinSet nat_cmp
    → Database → Database → Type 0
RewritesMarked table line values marks old new = Rewrites table (begins_marked marks) (RowsOf line values) old new

-- in one table the rows of one unit or region, whose key begins with its number `n`, become those of the set `Wanted`
-- that begin with `n`; all other rows and tables stay
abbrev pub RewritesGroup : Table → Set → ℕ → Database → Database → Type 0
RewritesGroup table Wanted n old new = Rewrites table (first_column_passes (equals_number n)) Wanted old new

-- in one table the rows whose key begins with a number of `marks`, of a unit or a region, become those of the set
-- `Wanted` that begin so; all other rows and tables stay
abbrev pub RewritesGroups : Table → Set → FinSet nat_cmp → Database → Database → Type 0
RewritesGroups table Wanted marks old new = Rewrites table (begins_marked marks) Wanted old new

-- the rows of `market` of the regions and items that `stocks` chooses become those that the campaign has; all other
-- rows and tables stay
abbrev pub RewritesChosenStocks : CampaignValue → (ℕ → ℕ → Bool) → Database → Database → Type 0
RewritesChosenStocks c stocks old new = Rewrites market_table (region_and_item_pass stocks) (MarketRowsOf c.regions) old new

-- all marked rows of `market` become those that the campaign has; all other rows and tables stay
abbrev pub RewritesStocks : MarkedCampaign → Database → Database → Type 0
RewritesStocks c old new = Rewrites market_table (stocks_marked c.marks) (MarketRowsOf c.value.regions) old new

-- the rows of the table `has` of this kind, and of the units and things that `things` chooses, become those of the
-- campaign; all other rows and tables stay
abbrev pub RewritesThings : CampaignValue → ThingKind → (ℕ → ℕ → Bool) → Database → Database → Type 0
RewritesThings c sort things old new = Rewrites has_table (unit_and_thing_pass sort things) (HasRowsOf c.units) old new

-- the items, or the skills, that are marked one by one: their numbers, by the unit's number
abbrev pub marked_things : Marks → ThingKind → MarkedThings
marked_things marks Item = marks.items
marked_things marks Skill = marks.skills

-- all marked rows of the table `has` become those that the campaign has; all other rows and tables stay
abbrev pub RewritesGoods : MarkedCampaign → Database → Database → Type 0
RewritesGoods c old new = Rewrites has_table (goods_marked c.marks) (HasRowsOf c.value.units) old new

-- the rows of `books` of the marked amounts, whose entry passes the test `entries` by its index and whose thing passes
-- `things` by its number, become the campaign's; all other rows and tables stay
abbrev pub RewritesAmounts : MarkedCampaign → (ℕ → Bool) → (ℕ → Bool) → Database → Database → Type 0
RewritesAmounts c entries things old new =
    Rewrites books_table (is_of_marked_amount c.marks.books entries things) (BooksRowsOf c.value.books) old new

-- all marked rows of `books` become those that the campaign has; all other rows and tables stay
abbrev pub RewritesBooks : MarkedCampaign → Database → Database → Type 0
RewritesBooks c old new = Rewrites books_table (amount_marked c.marks.books) (BooksRowsOf c.value.books) old new

-- If `campaign` held one row, of the second format, it then says what the campaign says if it is marked, else what it
-- said before. The world text of the row stays, and every other table is as it was.
abbrev pub RewritesCampaignRow : MarkedCampaign → Database → Database → Type 0
RewritesCampaignRow c old new =
    (before : CampaignRowValue) (text : List ℕ)
    → HasExactly (rows_in campaign_table old.trees) (λ r. r ≡ campaign_row before text)
    → Alters campaign_table (λ r. r ≡ own_after c before text) old new

-- ---- one table after another

-- The part's marked rows become those of the campaign, whose campaign row is `own`; the part's other rows stay.
-- `before` and `after` are all rows of the part's table.
abbrev pub Becomes : MarkedCampaign → Row → Part → List Row → List Row → Type 0
Becomes c own part before after =
    HasExactly after (rows_after_rewrite (is_marked c.marks part) (rows_for own c.value part) (Has before))

-- The marked rows of the listed parts become those of the campaign; all other rows stay.
-- This is said of any campaign row, `own`, so it is meant for lists without the part of that row.
abbrev pub RewritesParts : MarkedCampaign → List Part → Database → Database → Type 0
RewritesParts c parts old new = (own : Row) → Changes (Becomes c own) parts old new

-- the marked rows of one part, meant to be other than the campaign row, become those of the campaign; all other rows
-- stay
abbrev pub RewritesPart : MarkedCampaign → Part → Database → Database → Type 0
RewritesPart c part = RewritesParts c (part ∷ [])

-- If `campaign` held one row, of the second format, the marked rows of the listed parts become those of the campaign;
-- all other rows stay. The campaign row may be among the parts (`own_after`): it keeps its world text.
abbrev pub RewritesWithOwn : MarkedCampaign → List Part → Database → Database → Type 0
RewritesWithOwn c parts old new =
    (before : CampaignRowValue) (text : List ℕ)
    → HasExactly (rows_in campaign_table old.trees) (λ r. r ≡ campaign_row before text)
    → Changes (Becomes c (own_after c before text)) parts old new
