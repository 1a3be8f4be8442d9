use Rattle.std.proofs.Common.{◌≡◌, ap, arith, rules, sym, ◌∙◌, to_z, of_z, w64}
use Rattle.std.proofs.lemmas.Int.{to_z-of_z}
use Rattle.atl_campaign.specs.FromRows.{as_u32}
use Rattle.atl_campaign.proofs.FromRowLaws.{row_unread}
use Rattle.atl_campaign.proofs.assembly.books.put_row.Goals as goal

pub returns-else-thing-len : goal.returns-else-thing-len
returns-else-thing-len c =
    let same : to_z w64 (of_z w64 c.args.row.now.thing) ≡ c.args.row.now.thing = search (rules, to_z-of_z) in
    let thing : c.as_u32-thing.result ≡ as_u32 c.args.row.now.thing = c.as_u32-thing.ensures ∙ ap as_u32 same in
    sym (row_unread c.args.books.now c.args.row.now (omega (arith, thing)))
