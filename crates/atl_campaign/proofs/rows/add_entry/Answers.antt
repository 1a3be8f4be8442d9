use Rattle.std.proofs.Common.{◌≡◌, ◌≢◌, ◌++◌, ◌∷◌, [], List, sym, ap, ◌∙◌, rules, arith, to_z, of_z, w64}
use Rattle.std.specs.Prelude.{pos}
use Rattle.std.proofs.lemmas.Int.{ints, to_z-of_z}
use Rattle.std.proofs.lemmas.List.{append_assoc}
use Rattle.atl_rows.specs.declared.parts.StoredBooks.{StoredBooks}
use Rattle.atl_records.specs.Books.{amount_in, thing_at}
use Rattle.atl_records.specs.Grids.{accounts_under}
use Rattle.atl_campaign.specs.Rows.{books_row, rows_under}
use Rattle.atl_campaign.proofs.RowLaws.{rows_under-none, rows_under-some}
use Rattle.atl_campaign.proofs.rows.add_entry.Goals as goal
use Rattle.atl_campaign.proofs.rows.add_entry.Goals.{then-amount-ne0+in_ok-push, else-amount-ne0}

pub loop-number-preserved : goal.loop-number-preserved
loop-number-preserved c =
    let books = c.args.books.now in
    let entry = c.args.entry in
    let number = c.loop-number.number in
    let z = amount_in books entry (thing_at number) in
    let all = λ (rows : List StoredBooks). c.args.rows.now ++ rows in
    let read : c.amount-amount.result ≡ z = c.amount-amount.ensures ∙ ap (amount_in books entry) c.of_number-thing.ensures in
    let same : to_z w64 (of_z w64 c.amount-amount.result) ≡ c.amount-amount.result = search (rules, to_z-of_z) in
    elim c.if-amount-ne0.branch [
      | then-amount-ne0+in_ok-push w ↦
          let apart : z ≢ pos 0 = λ e. omega (arith, ints, w.if-amount-ne0.true, read) in
          w.rows-is ∙ w.in_ok-push.ensures.ok
          ∙ ap (λ r. c.loop-number.rows ++ r ∷ []) (w.books_row.ensures ∙ ap (λ t. books_row entry t (to_z w64 (of_z w64 c.amount-amount.result))) c.of_number-thing.ensures ∙ ap (books_row entry (thing_at number)) (same ∙ read))
          ∙ ap (λ rows. rows ++ books_row entry (thing_at number) z ∷ []) c.loop-number.invariant
          ∙ append_assoc c.args.rows.now (rows_under books (accounts_under number entry)) (books_row entry (thing_at number) z ∷ [])
          ∙ ap all (sym (rows_under-some books entry number apart))
      | else-amount-ne0 w ↦
          let none : z ≡ pos 0 = omega (arith, ints, w.if-amount-ne0.false, read) in
          w.rows-is ∙ c.loop-number.invariant ∙ ap all (sym (rows_under-none books entry number none))
    ]
