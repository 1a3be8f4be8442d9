-- Laws on the statements of each table whose key is the row's number: what they mean and do.
-- `part` is the part of a campaign whose table it is, `n` is a row's number, and `values` are the row's other values.
use Rattle.std.proofs.Common.{◌≡◌, ℕ, [], ◌∷◌, length, drop, nat_eq, unwrap_or, position, refl}
use Rattle.sqlite_tied.specs.Compute.{everything}
use Rattle.sqlite.specs.Listing.{understood}
use Rattle.sqlite.specs.Order.{Row}
use Rattle.atl_descriptions.specs.Tables.{Part, Own, Goods, Books, Markets, IsNumberedPart, key_width_of, table_of, all_parts}
use Rattle.atl_sql.specs.Shown.{int}
use Rattle.atl_columns.specs.Fields.{Fits}
use Rattle.atl_sql.proofs.NumberedLaws.{IsNumberedTable, puts_numbered, drops_numbered}
use Rattle.atl_sql.proofs.PartLaws.{listed, tree_of}
use Rattle.atl_sql.proofs.StatementLaws.{PutsRow, DropsKey}

-- the index of a part's table among the ten tables
abbrev pub place_in : Part → ℕ
place_in part = unwrap_or (position (λ p. nat_eq (tree_of p) (tree_of part)) all_parts) 0

abbrev width_of : Part → ℕ
width_of part = length (drop 1 (table_of part).columns)

-- a part whose key is the row's number has a table whose rows are put and deleted by this number (`IsNumberedTable`)
part_is_numbered : (part : Part) → IsNumberedPart part → IsNumberedTable (table_of part) (place_in part) (width_of part)
unfolding understood everything
part_is_numbered Own is = absurd is
part_is_numbered Goods is = absurd is
part_is_numbered Books is = absurd is
part_is_numbered Markets is = absurd is
part_is_numbered part is = record {
  ours = listed part;
  position = λ more. refl;
  plain = λ db. refl;
  puts = λ more indexes. refl;
  puts_plain = λ more indexes. (refl, refl);
  drops = λ more indexes. refl;
  drops_plain = λ more indexes. (refl, refl);
  no_index_shares = λ new x. refl;
}

-- the upsert of the part's table puts a row whose values after its number are of their columns' types (`Fits`)
pub puts_part : (part : Part) → IsNumberedPart part → (n : ℕ) (values : Row)
    → Fits (drop 1 (table_of part).columns) values → PutsRow (table_of part) 1 (int n ∷ values)
puts_part Own is = absurd is
puts_part Goods is = absurd is
puts_part Books is = absurd is
puts_part Markets is = absurd is
puts_part part is = puts_numbered (table_of part).tree _ _ _ _ (place_in part) (part_is_numbered part is)

-- the DELETE of the part's table by a number deletes the row of this number
pub drops_part : (part : Part) → IsNumberedPart part → (n : ℕ) → DropsKey (table_of part) 1 (int n ∷ [])
drops_part Own is = absurd is
drops_part Goods is = absurd is
drops_part Books is = absurd is
drops_part Markets is = absurd is
drops_part part is = drops_numbered (table_of part).tree _ _ _ _ (place_in part) (part_is_numbered part is)

pub key_is_one : (part : Part) → IsNumberedPart part → key_width_of part ≡ 1
key_is_one Own is = absurd is
key_is_one Goods is = absurd is
key_is_one Books is = absurd is
key_is_one Markets is = absurd is
key_is_one part is = refl
