-- What is left of rows once a campaign is read from them.
use Rattle.std.specs.Prelude.{[]}
use Rattle.atl_rows.specs.declared.parts.Parts.{Parts}

-- rows without those of mail and reports, whose texts are moved into the campaign
abbrev pub without_texts : Parts → Parts
without_texts p = record p { mail = []; reports = [] }

-- what is left of rows once a campaign is read from them: no mail and no reports, and no units, whose names are moved
abbrev pub without_moved : Parts → Parts
without_moved p = record (without_texts p) { units = [] }
