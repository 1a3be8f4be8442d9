use Rattle.std.proofs.Common.{◌+◌, drop, refl, ap, arith}
use Rattle.std.proofs.lemmas.List.{drop_more, at_drop_all}
use Rattle.atl_descriptions.specs.Tables.{books_table}
use Rattle.atl_writing.specs.GroupedRows.{entries_lines}
use Rattle.atl_sql.proofs.PuttingLaws.{putting_begins, putting_more, putting_failed, putting_ends}
use Rattle.atl_writing.proofs.ledger.put_entries.Goals as goal

pub loop-entry-init : goal.loop-entry-init
loop-entry-init g c = putting_begins g.S.Store books_table 2 _ _ refl

pub loop-entry-preserved : goal.loop-entry-preserved
loop-entry-preserved g c =
    let i = c.loop-entry.entry-index in
    let entries = c.args.entries.now in
    let lines = entries_lines c.args.campaign.now.value c.args.thing in
    putting_more g.S.Store books_table 2 _ (lines (drop (i + 1) entries)) _ _ (ap lines (drop_more entries i _ (omega (arith, c.loop-entry-test.true)))) c.loop-entry.invariant c.in_ok-put_amount.ensures

pub returns-in_err-put_amount : goal.returns-in_err-put_amount
returns-in_err-put_amount g c =
    let i = c.loop-entry.entry-index in
    let entries = c.args.entries.now in
    let lines = entries_lines c.args.campaign.now.value c.args.thing in
    putting_failed g.S.Store books_table 2 _ (lines (drop (i + 1) entries)) _ _ (ap lines (drop_more entries i _ (omega (arith, c.loop-entry-test.true)))) c.loop-entry.invariant c.in_err-put_amount.ensures c.from_residual.ensures

pub returns : goal.returns
returns g c =
    putting_ends g.S.Store books_table 2 _ _
    (at_drop_all (entries_lines c.args.campaign.now.value c.args.thing) c.args.entries.now c.loop-entry.entry-index c.loop-entry-test.false)
    c.loop-entry.invariant
