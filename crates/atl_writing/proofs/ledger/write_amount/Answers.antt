use Rattle.std.proofs.Common.{◌≡◌, pos, refl, sym, ◌∙◌, rules}
use mir.Syntax.{w64}
use Rattle.std.proofs.lemmas.Int.{to_z-of_z}
use Rattle.atl_descriptions.specs.Tables.{books_table}
use Rattle.atl_sql.specs.Shown.{books_key, books_row}
use Rattle.atl_sql.specs.Inside.{HasTables, Puts, Drops}
use Rattle.atl_writing.specs.Arriving.{WritesAmount}
use Rattle.atl_writing.proofs.ArriveLaws.{amount_put, amount_taken, put_writes_amount, drop_writes_amount}
use Rattle.atl_writing.proofs.WholeLaws.{inside_weaker}
use Rattle.atl_sql.proofs.WriteLaws.{weaker, among_only}
use Rattle.atl_sql.proofs.WrittenLaws.{taken_as}
use Rattle.atl_writing.proofs.ledger.write_amount.Goals as goal

pub returns-then-amount-eq0 : goal.returns-then-amount-eq0
returns-then-amount-eq0 g c =
    let campaign = c.args.campaign.now.value in
    let n = c.number.result in
    let k = c.number-then-amount-eq0.result in
    let cast = to_z-of_z w64 c.booked-amount.result (search rules) in
    let zero : c.booked-amount.result ≡ pos 0 = rw c.if-amount-eq0.true at (sym cast) in
    weaker g.S.Store (λ old new. inside_weaker HasTables (Drops books_table 2 (books_key n k)) (WritesAmount campaign c.args.entry c.args.thing) old new (λ has did. drop_writes_amount campaign c.args.entry c.args.thing n k c.number.ensures.value c.number-then-amount-eq0.ensures.value old.now new.now (sym c.booked-amount.ensures ∙ zero) did))
    (among_only g.S.Store _ _ (amount_taken campaign c.args.entry c.args.thing n k c.number.ensures.value c.number-then-amount-eq0.ensures.value (sym c.booked-amount.ensures ∙ zero)) (taken_as g.S.Store books_table 2 _ (books_key n k) (search rules) c.take_out.ensures))

pub returns : goal.returns
returns g c =
    let campaign = c.args.campaign.now.value in
    let n = c.number-2.result in
    let k = c.number-3.result in
    let cast = to_z-of_z w64 c.booked-amount.result (search rules) in
    weaker g.S.Store (λ old new. inside_weaker HasTables (Puts books_table 2 (books_row n k _)) (WritesAmount campaign c.args.entry c.args.thing) old new (λ has did. put_writes_amount campaign c.args.entry c.args.thing n k c.number-2.ensures.value c.number-3.ensures.value old.now new.now _ (cast ∙ c.booked-amount.ensures)
    (λ zero. let none : c.booked-amount.result ≡ pos 0 = sym cast ∙ zero in c.if-amount-eq0.false (rw none refl)) did))
    (among_only g.S.Store _ _ (amount_put campaign c.args.entry c.args.thing n k c.number-2.ensures.value c.number-3.ensures.value _ (cast ∙ c.booked-amount.ensures)
    (λ zero. let none : c.booked-amount.result ≡ pos 0 = sym cast ∙ zero in c.if-amount-eq0.false (rw none refl))) c.put_booked.ensures)
