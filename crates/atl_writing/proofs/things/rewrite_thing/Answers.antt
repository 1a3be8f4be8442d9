use Rattle.std.proofs.Common.{refl, rules}
use Rattle.atl_descriptions.specs.Tables.{Goods, has_table}
use Rattle.atl_sql.specs.Shown.{has_key}
use Rattle.atl_sql.specs.Written.{sort_number}
use Rattle.atl_writing.specs.OwnStatements.{changes_row, puts_row, drops_row}
use Rattle.atl_writing.proofs.HasTableLaws.{amount_has_row}
use Rattle.atl_writing.proofs.ThingLaws.{zero_amount_has_no_row, thing_put, thing_dropped}
use Rattle.atl_sql.proofs.WriteLaws.{weaker, among_only}
use Rattle.atl_sql.proofs.WrittenLaws.{taken_as}
use Rattle.atl_writing.proofs.things.rewrite_thing.Goals as goal

pub returns : goal.returns
returns g c =
    let campaign = c.args.campaign.now.value in
    let amount = c.amount_of-amount in
    weaker g.S.Store (thing_put c.args.unit c.args.sort c.args.thing campaign amount.result amount.ensures c.if-amount-eq0.false)
    (among_only g.S.Store _ _ (changes_row (puts_row Goods (λ own. amount_has_row campaign.units c.args.unit c.args.sort c.args.thing amount.result amount.ensures c.if-amount-eq0.false))) c.put_thing.ensures)

pub returns-then-amount-eq0 : goal.returns-then-amount-eq0
returns-then-amount-eq0 g c =
    let amount = c.amount_of-amount in
    weaker g.S.Store (thing_dropped c.args.unit c.args.sort c.args.thing c.args.campaign.now.value amount.result amount.ensures c.if-amount-eq0.true)
    (among_only g.S.Store _ _ (drops_row Goods (refl, λ own. zero_amount_has_no_row c.args.unit c.args.sort c.args.thing c.args.campaign.now.value amount.result amount.ensures c.if-amount-eq0.true)) (taken_as g.S.Store has_table 3 _ (has_key c.args.unit (sort_number c.args.sort) c.args.thing) (search rules) c.take_out.ensures))
