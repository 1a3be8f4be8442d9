use Rattle.atl_descriptions.specs.Tables.{Books}
use Rattle.atl_writing.specs.Filling.{FillsPart}
use Rattle.atl_writing.specs.OwnStatements.{puts_row}
use Rattle.atl_writing.proofs.FillLaws.{books_fill}
use Rattle.atl_writing.proofs.LedgerLaws.{things_rows}
use Rattle.atl_writing.proofs.TurnLaws.{in_turn_one}
use Rattle.atl_writing.proofs.WholeLaws.{done_as}
use Rattle.atl_sql.proofs.WriteLaws.{among_each}
use Rattle.atl_writing.proofs.write_parts.LedgerWrittenPart.fill.Goals as goal

pub returns : goal.returns
returns g c =
    let campaign = c.args.campaign.now.value in
    done_as g.S.Store (λ old new did. in_turn_one (FillsPart campaign) Books old new (books_fill campaign c.put_all_books.ensures.books old new did)) (among_each g.S.Store _ _ (λ row there. puts_row Books (λ own. things_rows campaign _ row there)) c.put_all_books.ensures.rows)
