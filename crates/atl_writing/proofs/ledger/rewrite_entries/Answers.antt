use Rattle.std.proofs.Common.{◌+◌, drop, refl, arith}
use Rattle.std.proofs.lemmas.List.{drop_more, at_drop_all}
use Rattle.atl_records.specs.Books.{thing_index}
use Rattle.atl_descriptions.specs.Tables.{books_table}
use Rattle.atl_writing.specs.Rewriting.{equals_number}
use Rattle.atl_writing.proofs.BooksRewriteLaws.{one_less_entry, entries_rewritten}
use Rattle.atl_writing.proofs.RewriteLaws.{all_remaining}
use Rattle.atl_sql.proofs.WriteLaws.{begins, goes_on, stops_second, weaker}
use Rattle.atl_writing.proofs.ledger.rewrite_entries.Goals as goal

pub loop-entry-init : goal.loop-entry-init
loop-entry-init g c = begins g.S.Store (all_remaining books_table _ _ _ (λ r. refl))

pub loop-entry-preserved : goal.loop-entry-preserved
loop-entry-preserved g c =
    let i = c.loop-entry.entry-index in
    let entries = c.args.entries.now in
    goes_on g.S.Store (one_less_entry c.args.campaign.now (equals_number (thing_index c.args.thing)) _ (drop i entries) (drop (i + 1) entries) entries (drop_more entries i _ (omega (arith, c.loop-entry-test.true)))) c.loop-entry.invariant c.in_ok-rewrite_amount.ensures

pub returns-in_err-rewrite_amount : goal.returns-in_err-rewrite_amount
returns-in_err-rewrite_amount g c =
    stops_second g.S.Store c.loop-entry.invariant c.in_err-rewrite_amount.ensures c.from_residual.ensures

pub returns : goal.returns
returns g c =
    let entries = c.args.entries.now in
    weaker g.S.Store (entries_rewritten c.args.campaign.now (equals_number (thing_index c.args.thing)) (drop c.loop-entry.entry-index entries) entries (at_drop_all (λ es. es) entries c.loop-entry.entry-index c.loop-entry-test.false)) c.loop-entry.invariant
