-- The world text that the tables of a campaign hold.
use Rattle.std.specs.Prelude.{ℕ, List, [], ◌∷◌}
use Rattle.sqlite.specs.declared.types.Value.{Value}
use Rattle.sqlite.specs.declared.types.Value.TheVariants.{Null, Int, Real, Text, Blob}
use Rattle.sqlite.specs.Order.{Row, column}
use Rattle.sqlite.specs.State.{State}
use Rattle.atl_descriptions.specs.Sets.{rows_in}
use Rattle.atl_descriptions.specs.Tables.{campaign_table}

-- the bytes of a value that is a text, and nothing for any other value
abbrev pub text_of : Value → List ℕ
text_of (Text t) = t
text_of Null = []
text_of (Int n) = []
text_of (Real x) = []
text_of (Blob b) = []

-- the world text in rows of `campaign`: the eighth column of the first row; nothing if no row or no text is there
abbrev pub world_text_in_rows : List Row → List ℕ
world_text_in_rows [] = []
world_text_in_rows (r ∷ rows) = text_of (column r 7)

-- the world text in the table `campaign` of a connection
abbrev pub world_text : State → List ℕ
world_text s = world_text_in_rows (rows_in campaign_table s.now.trees)
