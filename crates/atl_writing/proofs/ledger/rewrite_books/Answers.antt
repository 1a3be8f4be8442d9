use Rattle.std.proofs.Common.{◌≡◌, ◌+◌, ◌-◌, suc, map, ap, subst, ◌∙◌, arith}
use Rattle.std.specs.List.{range_with_len}
use Rattle.atl_records.specs.Books.{all_entries, entry_index, thing_index}
use Rattle.atl_campaign.specs.Marks.{AreOfThings}
use Rattle.atl_records.proofs.AccountLaws.{index_of_thing_at}
use Rattle.atl_descriptions.specs.Tables.{books_table}
use Rattle.atl_sql.specs.Inside.{DoesInside, HasTables}
use Rattle.atl_writing.specs.Rewriting.{RewritesAmounts, equals_number, is_among, is_of_marked_amount}
use Rattle.atl_writing.proofs.BooksRewriteLaws.{one_less_thing, things_rewritten}
use Rattle.atl_writing.proofs.RewriteLaws.{all_remaining}
use Rattle.atl_sql.proofs.WriteLaws.{begins, goes_on, stops_second, weaker}
use Rattle.atl_writing.proofs.ledger.rewrite_books.Goals as goal

pub loop-number-init : goal.loop-number-init
loop-number-init g c =
    let count = c.args.campaign.now.value.books.things in
    let whole : count - 0 ≡ count = omega arith in
    begins g.S.Store (all_remaining books_table _ _ _ (λ r. ap (λ n. is_of_marked_amount c.args.campaign.now.marks.books (is_among (map entry_index all_entries)) (is_among (range_with_len 0 n)) r) whole))

pub loop-number-preserved : goal.loop-number-preserved
loop-number-preserved g c =
    let campaign = c.args.campaign.now in
    let i = c.loop-number.number in
    let count = campaign.value.books.things in
    let left : count - i ≡ suc (count - (i + 1)) = omega (arith, c.loop-number-test.true, c.things-number-end.ensures.count) in
    let index : thing_index c.of_number.result ≡ i = ap thing_index c.of_number.ensures ∙ index_of_thing_at i in
    goes_on g.S.Store (λ old mid new so_far more. one_less_thing campaign i (range_with_len i (count - i)) (range_with_len (i + 1) (count - (i + 1))) (range_with_len 0 count) (ap (range_with_len i) left) old mid new so_far
    (subst (λ t. DoesInside HasTables (RewritesAmounts campaign (is_among (map entry_index all_entries)) (equals_number t)) mid new) index more))
    c.loop-number.invariant c.in_ok-rewrite_entries.ensures

pub returns-in_err-rewrite_entries : goal.returns-in_err-rewrite_entries
returns-in_err-rewrite_entries g c =
    stops_second g.S.Store c.loop-number.invariant c.in_err-rewrite_entries.ensures c.from_residual.ensures

pub returns : goal.returns
returns g c =
    let campaign = c.args.campaign.now in
    let count = campaign.value.books.things in
    let none : count - c.loop-number.number ≡ 0 = omega (arith, c.loop-number-test.false, c.things-number-end.ensures.count) in
    weaker g.S.Store (things_rewritten campaign (range_with_len c.loop-number.number (count - c.loop-number.number)) count (subst (λ n. AreOfThings n campaign.marks.books) c.things-number-end.ensures.count c.things-number-end.ensures.marks) (ap (range_with_len c.loop-number.number) none)) c.loop-number.invariant
