-- Which database is of the first format; what the transaction of an upgrade does, and its first step.
-- `old` is the database before this transaction, or before a step of it, and `new` after it.
use Rattle.std.specs.Prelude.{◌≡◌, [], List, ℕ, map}
use Rattle.sqlite.specs.Effect.{Database}
use Rattle.sqlite.specs.Table.{Table}
use Rattle.sqlite_catalog.specs.Listing.{IsSound}
use Rattle.sqlite_rules.specs.Lists.{Has}
use Rattle.atl_world.specs.declared.format.Format.TheVariants.{First}
use Rattle.atl_campaign.specs.Campaign.{CampaignValue}
use Rattle.atl_campaign.specs.Good.{HasNoStocks}
use Rattle.atl_writing.specs.Rows.{Holds, HoldsIn}
use Rattle.atl_descriptions.specs.Sets.{AreKeyedByRowid}
use Rattle.atl_descriptions.specs.Tables.{IsFirstFormatOnly, market_table, parts_in, table_of}

-- The database has exactly the tables and indexes of the first format, and its trees list and obey the schema.
-- In each of these tables the rowids are integers, no two alike.
pub record IsFirstFormat (db : Database) : Type 0 where
  pub just : IsFirstFormatOnly db.schema
  pub keyed : (table : Table) → Has (map table_of (parts_in First)) table → AreKeyedByRowid (db.trees table.tree)
  pub listed : IsSound db.schema db.trees

-- the table `market` has no row, and each table of the first format is as it was
pub record AddsMarkets (old new : Database) : Type 0 where
  pub empty : new.trees market_table.tree ≡ []
  pub others : (table : Table) → Has (map table_of (parts_in First)) table → new.trees table.tree ≡ old.trees table.tree

-- If the tables held this campaign, without stocks, in the first format, whatever the world text, they hold it in the
-- second, with this text. This is what the transaction of an upgrade does.
abbrev pub WritesUpgrade : List ℕ → CampaignValue → Database → Database → Type 0
WritesUpgrade text c old new = (before : List ℕ) → HoldsIn First old.trees before c → HasNoStocks c → Holds new.trees text c
