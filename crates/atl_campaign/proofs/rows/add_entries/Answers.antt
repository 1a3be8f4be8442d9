use Rattle.std.proofs.Common.{◌+◌, drop, arith}
use Rattle.std.proofs.lemmas.List.{drop_more}
use Rattle.atl_campaign.proofs.RowLaws.{entry_added}
use Rattle.atl_campaign.proofs.rows.add_entries.Goals as goal

pub loop-entry-preserved : goal.loop-entry-preserved
loop-entry-preserved c =
    let i = c.loop-entry.entry-index in
    let entries = c.args.entries.now in
    entry_added c.args.books.now c.args.things _ (drop i entries) (drop (i + 1) entries) _ _ _ (drop_more entries i _ (omega (arith, c.loop-entry-test.true))) c.in_ok-add_entry.ensures c.loop-entry.invariant
