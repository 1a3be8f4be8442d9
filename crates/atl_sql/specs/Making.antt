-- What making the tables leaves, and whether there is a table `campaign`.
use Rattle.std.specs.Prelude.{◌≡◌, Bool, [], nat_eq, codes}
use Rattle.std.specs.List.{list_any}
use Rattle.std.specs.Cmp.Lexicographic.{pointwise}
use Rattle.sqlite.specs.Schema.{Schema}
use Rattle.sqlite.specs.Table.{Table}
use Rattle.sqlite.specs.Effect.{Database}
use Rattle.sqlite_rules.specs.Lists.{Has}
use Rattle.atl_descriptions.specs.Sets.{rows_in}
use Rattle.atl_descriptions.specs.Tables.{all_tables}

-- in the database `new` none of the ten tables has a row, whatever there was in `old` before
abbrev pub AreEmpty : Database → Database → Type 0
AreEmpty old new = (t : Table) → Has all_tables t → rows_in t new.trees ≡ []

-- whether the schema has a table named just `campaign`, in lower case
abbrev pub has_campaign : Schema → Bool
has_campaign schema = list_any (λ t. pointwise nat_eq t.name (codes "campaign")) schema.tables
