use Rattle.std.proofs.Common.{sym, ◌∙◌}
use Rattle.atl_records.specs.Books.{entry_index, thing_index}
use Rattle.atl_descriptions.specs.Tables.{books_table}
use Rattle.atl_writing.specs.Rows.{BooksRowsOf}
use Rattle.atl_writing.specs.Rewriting.{equals_number, is_of_marked_amount}
use Rattle.atl_writing.proofs.ArriveLaws.{amount_changes}
use Rattle.atl_writing.proofs.BooksRewriteLaws.{amount_is_rewritten_inside, unmarked_none}
use Rattle.atl_writing.proofs.RewriteLaws.{none_chosen}
use Rattle.atl_sql.proofs.WriteLaws.{begins, weaker, writes_among_more}
use Rattle.atl_writing.proofs.ledger.rewrite_amount.Goals as goal

pub returns-then-is_amount_marked : goal.returns-then-is_amount_marked
returns-then-is_amount_marked g c =
    weaker g.S.Store
    (amount_is_rewritten_inside c.args.campaign.now c.args.entry c.args.thing (sym c.is_amount_marked.ensures ∙ c.if-is_amount_marked.true))
    (writes_among_more g.S.Store (amount_changes c.args.campaign.now.value c.args.entry c.args.thing) c.write_amount.ensures)

pub returns : goal.returns
returns g c =
    let campaign = c.args.campaign.now in
    begins g.S.Store (none_chosen books_table (BooksRowsOf campaign.value.books) (λ r. is_of_marked_amount campaign.marks.books (equals_number (entry_index c.args.entry)) (equals_number (thing_index c.args.thing)) r)
    (unmarked_none campaign c.args.entry c.args.thing (sym c.is_amount_marked.ensures ∙ c.if-is_amount_marked.false)))
