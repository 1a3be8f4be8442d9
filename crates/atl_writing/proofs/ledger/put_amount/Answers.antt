use Rattle.std.proofs.Common.{◌≡◌, pos, refl, sym, ◌∙◌, rules}
use mir.Syntax.{w64}
use Rattle.std.proofs.lemmas.Int.{to_z-of_z}
use Rattle.atl_descriptions.specs.Tables.{books_table}
use Rattle.atl_writing.proofs.LedgerLaws.{amount_is}
use Rattle.atl_sql.proofs.PuttingLaws.{one_written}
use Rattle.atl_writing.proofs.ledger.put_amount.Goals as goal

pub returns : goal.returns
returns g c =
    let cast = to_z-of_z w64 c.booked-amount.result (search rules) in
    one_written g.S.Store books_table 2 _ _ (amount_is c.args.campaign.now.value c.args.entry c.args.thing c.number.result c.number-2.result _ c.number.ensures.value c.number-2.ensures.value (cast ∙ c.booked-amount.ensures)
    (λ zero. let none : c.booked-amount.result ≡ pos 0 = sym cast ∙ zero in c.if-amount-eq0.false (rw none refl))) c.put_booked.ensures
