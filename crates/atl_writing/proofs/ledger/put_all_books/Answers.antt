use Rattle.std.proofs.Common.{◌≡◌, ◌+◌, ◌-◌, suc, ap, subst, arith}
use Rattle.std.specs.List.{range_with_len}
use Rattle.atl_records.specs.Books.{AreBooks, all_entries, thing_at}
use Rattle.atl_descriptions.specs.Tables.{books_table}
use Rattle.atl_writing.specs.GroupedRows.{entries_lines, things_lines}
use Rattle.atl_sql.proofs.PuttingLaws.{same_written, putting_begins, putting_more, putting_failed, putting_ends}
use Rattle.atl_writing.proofs.ledger.put_all_books.Goals as goal

pub loop-number-init : goal.loop-number-init
loop-number-init g c =
    let whole : c.args.campaign.now.value.books.things - 0 ≡ c.args.campaign.now.value.books.things = omega arith in
    putting_begins g.S.Store books_table 2 _ _ (ap (λ n. things_lines c.args.campaign.now.value (range_with_len 0 n)) whole)

pub loop-number-preserved : goal.loop-number-preserved
loop-number-preserved g c =
    let campaign = c.args.campaign.now.value in
    let i = c.loop-number.number in
    let count = campaign.books.things in
    let left : count - i ≡ suc (count - (i + 1)) = omega (arith, c.loop-number-test.true, c.things-number-end.ensures.count) in
    putting_more g.S.Store books_table 2 (entries_lines campaign (thing_at i) all_entries) (things_lines campaign (range_with_len (i + 1) (count - (i + 1)))) _ _ (ap (λ n. things_lines campaign (range_with_len i n)) left) c.loop-number.invariant
    (same_written g.S.Store books_table 2 _ _ (ap (λ thing. entries_lines campaign thing all_entries) c.of_number.ensures) c.in_ok-put_entries.ensures)

pub returns-in_err-put_entries-clause-rows : goal.returns-in_err-put_entries-clause-rows
returns-in_err-put_entries-clause-rows g c =
    let campaign = c.args.campaign.now.value in
    let i = c.loop-number.number in
    let count = campaign.books.things in
    let left : count - i ≡ suc (count - (i + 1)) = omega (arith, c.loop-number-test.true, c.things-number-end.ensures.count) in
    putting_failed g.S.Store books_table 2 (entries_lines campaign (thing_at i) all_entries) (things_lines campaign (range_with_len (i + 1) (count - (i + 1)))) _ _ (ap (λ n. things_lines campaign (range_with_len i n)) left) c.loop-number.invariant
    (same_written g.S.Store books_table 2 _ _ (ap (λ thing. entries_lines campaign thing all_entries) c.of_number.ensures) c.in_err-put_entries.ensures) c.from_residual.ensures

pub returns-in_err-put_entries-clause-books : goal.returns-in_err-put_entries-clause-books
returns-in_err-put_entries-clause-books g c =
    subst (λ n. AreBooks n c.args.campaign.now.value.books) c.things-number-end.ensures.count
    c.things-number-end.ensures.books

pub returns-clause-rows : goal.returns-clause-rows
returns-clause-rows g c =
    let none : c.args.campaign.now.value.books.things - c.loop-number.number ≡ 0 = omega (arith, c.loop-number-test.false, c.things-number-end.ensures.count) in
    putting_ends g.S.Store books_table 2 _ _ (ap (λ n. things_lines c.args.campaign.now.value (range_with_len c.loop-number.number n)) none) c.loop-number.invariant

pub returns-clause-books : goal.returns-clause-books
returns-clause-books g c =
    subst (λ n. AreBooks n c.args.campaign.now.value.books) c.things-number-end.ensures.count
    c.things-number-end.ensures.books
