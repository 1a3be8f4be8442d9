-- The bodies of replies to commands that were carried out, and such a reply. See docs/FORMATS.md, "HTTP".
use Rattle.std.specs.Prelude.{ℕ, List, [], ◌∷◌, codes, None}
use Rattle.std.specs.Fmt.{decimal}
use Rattle.atl_world.specs.Texts.{◌▸◌}
use Rattle.atl_lines.specs.declared.fault.FaultyLine.{FaultyLine}
use Rattle.atl_lines.specs.Faulting.{fault_number}
use Rattle.atl_parsing.specs.Replies.{Reply}

-- the body for a join: {"faction":F,"unit":U}, with the numbers of the faction and of its unit
unfoldable pub joined_body : (faction unit : ℕ) → List ℕ
joined_body faction unit = codes "{\"faction\":" ▸ decimal faction ▸ codes ",\"unit\":" ▸ decimal unit ▸ codes "}"

-- a faulty line as [L,K]: the line's number in the mailing and the number of its fault
unfoldable pub pair : FaultyLine → List ℕ
pair faulty = codes "[" ▸ decimal faulty.line ▸ codes "," ▸ decimal (fault_number faulty.fault) ▸ codes "]"

-- the faulty lines after the first as pairs [L,K], each with a comma in front
abbrev pub more_pairs : List FaultyLine → List ℕ
more_pairs [] = []
more_pairs (faulty ∷ more) = (codes "," ▸ pair faulty) ▸ more_pairs more

-- all faulty lines as pairs [L,K], with commas between them
abbrev pub pairs : List FaultyLine → List ℕ
pairs [] = []
pairs (faulty ∷ more) = pair faulty ▸ more_pairs more

-- the body for a mailing: {"faults":[..],"orders":N}, with its faulty lines (`pairs`) and the number of its orders
unfoldable pub mailed_body : (orders : ℕ) → List FaultyLine → List ℕ
mailed_body orders faults = codes "{\"faults\":[" ▸ pairs faults ▸ codes "],\"orders\":" ▸ decimal orders ▸ codes "}"

-- the body for a closed month: {"month":M}
unfoldable pub month_body : (month : ℕ) → List ℕ
month_body month = codes "{\"month\":" ▸ decimal month ▸ codes "}"

-- the reply of status 200 with this content type and this body, without a line `Allow`
abbrev pub success : (kind body : List ℕ) → Reply
success kind body = record { status = 200; allow = None; kind = kind; body = body }
