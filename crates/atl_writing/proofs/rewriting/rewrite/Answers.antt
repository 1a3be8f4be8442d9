use Rattle.std.proofs.Common.{refl, sym}
use Rattle.atl_descriptions.specs.Tables.{table_of}
use Rattle.atl_writing.specs.OwnStatements.{changes_row}
use Rattle.atl_writing.proofs.KeptLaws.{key_one, puts_line, drops_none}
use Rattle.atl_writing.proofs.RewriteLaws.{put_done, drop_done}
use Rattle.atl_sql.proofs.WriteLaws.{weaker, among_only}
use Rattle.atl_writing.proofs.rewriting.rewrite.Goals as goal

pub returns-in-Some : goal.returns-in-Some
returns-in-Some g c =
    let campaign = c.args.campaign.now.value in
    let value = c.in-Some.value.now in
    let got = sym c.in-Some.ensures in
    let key = key_one g.V.NumberedRow.part g.V.NumberedRow.is_numbered in
    weaker g.S.Store (put_done (table_of g.V.NumberedRow.part) g.V.NumberedRow.line g.V.NumberedRow.numbered (g.V.NumberedRow.values campaign) c.args.number value got)
    (among_only g.S.Store _ _ (changes_row (puts_line g.V.NumberedRow.part g.V.NumberedRow.line g.V.NumberedRow.values g.V.NumberedRow.are_rows key campaign _ (c.args.number, value, got, refl))) c.put.ensures)

pub returns-in-None : goal.returns-in-None
returns-in-None g c =
    let campaign = c.args.campaign.now.value in
    let none = sym c.in-None.ensures in
    let key = key_one g.V.NumberedRow.part g.V.NumberedRow.is_numbered in
    weaker g.S.Store (drop_done (table_of g.V.NumberedRow.part) g.V.NumberedRow.line g.V.NumberedRow.numbered (g.V.NumberedRow.values campaign) c.args.number none)
    (among_only g.S.Store _ _ (drops_none g.V.NumberedRow.part g.V.NumberedRow.line g.V.NumberedRow.values g.V.NumberedRow.are_rows g.V.NumberedRow.numbered key campaign c.args.number none) c.take_out.ensures)
