-- Which rows can be written, and the campaign row that is handed in to be written.
use Rattle.std.specs.Prelude.{◌&&◌, ℕ, zero, suc, pos, negsuc, Bool, true, false, List, [], ◌∷◌}
use Rattle.sqlite.specs.declared.types.Value.{Value}
use Rattle.sqlite.specs.declared.types.Value.TheVariants.{Null, Int, Real, Text, Blob}
use Rattle.sqlite.specs.Order.{Row}
use Rattle.sqlite_schema.specs.declared.schema.Column.{Column}
use Rattle.sqlite_schema.specs.declared.schema.Kind.{Kind}
use Rattle.sqlite_schema.specs.declared.schema.Kind.TheVariants as kinds
use Rattle.atl_sql.specs.declared.rows.campaign.CampaignRow.{CampaignRow}
use Rattle.atl_sql.specs.declared.rows.has.ThingKind.{ThingKind}
use Rattle.atl_sql.specs.declared.rows.has.ThingKind.TheVariants.{Item, Skill}
use Rattle.atl_sql.specs.Shown.{CampaignRowValue}

-- whether a value is a whole number from 0, as the numbers of a key are
abbrev pub is_natural : Value → Bool
is_natural Null = false
is_natural (Int (pos n)) = true
is_natural (Int (negsuc n)) = false
is_natural (Real x) = false
is_natural (Text t) = false
is_natural (Blob b) = false

-- whether a value is of a column's type: INTEGER, TEXT or BLOB. NULL is of none, and for any other type it is false.
abbrev pub is_of_kind : Kind → Value → Bool
is_of_kind kinds.Integer (Int n) = true
is_of_kind kinds.Text (Text t) = true
is_of_kind kinds.Blob (Blob b) = true
is_of_kind _ _ = false

-- Whether a row can be written to these columns, of which the first `key` are the key. It has one value for each
-- column: those of the key are whole numbers from 0, and each other one is of its column's type.
abbrev pub can_be_written : List Column → (key : ℕ) → Row → Bool
can_be_written [] key [] = true
can_be_written [] key (v ∷ vs) = false
can_be_written (c ∷ cs) key [] = false
can_be_written (c ∷ cs) zero (v ∷ vs) = is_of_kind c.kind v && can_be_written cs zero vs
can_be_written (c ∷ cs) (suc key) (v ∷ vs) = is_natural v && can_be_written cs key vs

-- whether these values are a key of so many columns: whole numbers from 0
abbrev pub is_key_of : (key : ℕ) → Row → Bool
is_key_of zero [] = true
is_key_of zero (v ∷ vs) = false
is_key_of (suc key) [] = false
is_key_of (suc key) (v ∷ vs) = is_natural v && is_key_of key vs

-- the month, the next numbers and the pass text of a campaign row that is handed in to be written
abbrev pub head_shown : CampaignRow → CampaignRowValue
head_shown row =
    record {
      month = row.month;
      next_faction = row.next_faction;
      next_unit = row.next_unit;
      next_structure = row.next_structure;
      pass = row.pass.now;
    }

-- the number of a kind of goods in the column `sort` of the table `has`: 0 for an item, 1 for a skill
abbrev pub sort_number : ThingKind → ℕ
sort_number Item = 0
sort_number Skill = 1
