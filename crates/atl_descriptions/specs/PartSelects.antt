-- With which SELECT each part of a campaign is read, and the rows that it shows.
use Rattle.std.specs.Prelude.{◌++◌, ℕ, List, [], ◌∷◌, codes, map}
use Rattle.sqlite_trees.specs.Tree.{Trees, rowid}
use Rattle.sqlite.specs.Order.{Row}
use Rattle.sqlite.specs.Table.{Table}
use Rattle.atl_world.specs.declared.format.Format.{Format}
use Rattle.atl_world.specs.declared.format.Format.TheVariants.{First, Second}
use Rattle.atl_descriptions.specs.Sets.{rows_in, visible_row}
use Rattle.atl_descriptions.specs.Statements.{column_names, selection, selection_with_ids}
use Rattle.atl_descriptions.specs.Tables.{Part, Goods, Books, Markets, has_table, books_table, market_table, table_of}

-- the rows of a table without an INTEGER PRIMARY KEY, each with its rowid as a last column
abbrev pub rows_with_ids_in : Table → Trees → List Row
rows_with_ids_in table db = map (λ r. visible_row table r ++ rowid r ∷ []) (db table.tree)

-- how a part is read: the first format that has it, the columns' names, the text of the SELECT, and the rows it shows
pub record PartSelect : Type 0 where
  pub since : Format
  pub names : List (List ℕ)
  pub select : List ℕ
  -- the rows that the SELECT shows, computed from the trees, maybe in another order
  pub in_table : Trees → List Row

-- how to read all columns of table `t`, whose key is its first `key` columns; `since` is the first format that has it
abbrev pub select_all_columns : Format → Table → ℕ → PartSelect
select_all_columns since t key = record { since = since; names = column_names t; select = selection t key; in_table = rows_in t }

-- how to read all columns of table `t`, whose key is its first `key` columns, and each row's rowid as a last column;
-- `since` is the first format that has it
abbrev pub select_all_columns_with_ids : Format → Table → ℕ → PartSelect
select_all_columns_with_ids since t key =
    record {
      since = since;
      names = column_names t ++ codes "rowid" ∷ [];
      select = selection_with_ids t key;
      in_table = rows_with_ids_in t;
    }

-- how each part is read, in the order of its key: goods, books and stocks with their rowids, all others without; stocks
-- are in the second format alone, the others in both
abbrev pub select_of_part : Part → PartSelect
select_of_part Goods = select_all_columns_with_ids First has_table 3
select_of_part Books = select_all_columns_with_ids First books_table 2
select_of_part Markets = select_all_columns_with_ids Second market_table 2
select_of_part part = select_all_columns First (table_of part) 1
